-- `request::noted::note` meets its contract. Assumes nothing.
use Rattle.request.proofs.NotedLaws.{own-command, once_top}
use Rattle.request.proofs.noted.note.Goals as goal

pub invariant_of-result : goal.invariant_of-result
invariant_of-result c =
    let m = c.args.m.now in
    let n = c.first_places-again.ensures in
    let l = c.avps_of.ensures in
    record {
      whole = c.requires;
      read = c.read_header-header.ensures;
      own = own-command m c.read_header-header.ensures c.command_of.ensures;
      noted = rw l.bytes at n.noted;
      unrepeated = λ a. once_top m l.bytes (n.unrepeated a);
    }

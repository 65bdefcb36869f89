-- `reader::header::read_header` meets its contract. Assumes nothing.
use Rattle.std.proofs.Common.{◌∙◌, ◌+◌, refl, ap, length, arith}
use Rattle.wire.specs.Put.{put}
use Rattle.reader.specs.Header.{header_of}
use Rattle.reader.proofs.HeaderLaws.{header-whole, header-cut}
use Rattle.reader.proofs.header.read_header.Goals as goal

pub returns-in-Some : goal.returns-in-Some
returns-in-Some c = c.whole_header.ensures ∙ header-whole _ c.in-Some.ensures.cases.same

pub returns-in-None : goal.returns-in-None
unfolding put
returns-in-None c = c.whole_header-in-None.ensures ∙ ap header_of c.put_bytes.ensures.made ∙ header-cut c.args.m.now (0 + length c.args.m.now) (omega arith) refl

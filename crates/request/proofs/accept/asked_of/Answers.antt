-- `request::accept::asked_of` meets its contract. Assumes nothing.
use mathlib.Core.Path.{ap, ◌∙◌}
use mathlib.Core.Bool.{cond}
use mathlib.Core.List.{List}
use Prim.Native.Nat.{ℕ}
use Rattle.std.specs.Prelude.{Some, None, unwrap_or}
use Rattle.wire.specs.Number.{num_at}
use Rattle.paper.specs.Find.{body_found}
use Rattle.paper.specs.Profile.{Key}
use Rattle.paper.specs.Request.{is_there, avps_of, find, value_of, number_of}
use Rattle.paper.specs.Asked.{flags_key, flags_in, asked_of}
use Rattle.request.proofs.AcceptLaws.{found_read, found_number}
use Rattle.request.proofs.NotedLaws.{command-read}
use Rattle.request.proofs.accept.asked_of.Goals as goal

pub returns : goal.returns
unfolding asked_of number_of value_of flags_in
returns c =
    let m = c.args.noted.now.request.now in
    let e = command-read m c.args.noted.now.read in
    let rat = c.unwrap_or.ensures ∙ ap (λ o. unwrap_or o 0) c.number_if.ensures ∙ found_number m _ c.find_top-rat.ensures in
    let flags =
    c.number_if-2.ensures
    ∙ found_read m (λ (x : List ℕ). num_at 4 x 0) _ c.find_top-flags.ensures
    ∙ ap (λ (k : Key). cond (is_there (find k (avps_of m))) (Some (num_at 4 (body_found (find k (avps_of m))) 0)) None) (c.flags_key.ensures ∙ ap flags_key e) in
    λ i. record { command = e i; rat = rat i; flags = flags i }

-- The visit of a whole message: with a header cut short, behind a whole one, and over rows that are the dictionary's.
-- Assumes nothing.
use mathlib.Core.Path.{◌≡◌, sym, ap, ◌∙◌}
use mathlib.Core.List.{List, []}
use Prim.Native.Nat.{ℕ, ◌-◌, ◌≤◌, ◌<◌}
use native.Mathlib.Omega.{arith}
use lib.ListN.{length, take, drop, length-drop, drop_of_length-le}
use lib.Seq.{take-length}
use Rattle.dictionary.specs.declared.Kind.{Kind}
use Rattle.dictionary.specs.declared.Row.{Row}
use Rattle.dictionary.specs.Rows.{rows, kind_in, kind_of}
use Rattle.paper.specs.declared.Visit.{Visit}
use Rattle.paper.specs.declared.Visit.TheVariants.{Clean}
use Rattle.paper.proofs.ViewLaws.{told_empty}
use Rattle.reader.specs.Visit.{all_seen, told_of}
use Rattle.reader.specs.Message.{visit_of}

pub visit_cut : (kind : ℕ → ℕ → Kind) (m : List ℕ) → length m < 20 → Clean ≡ visit_of kind m
unfolding visit_of
visit_cut kind m h =
    let l : length m ≤ 20 = omega arith in
    let e : drop 20 m ≡ [] = drop_of_length-le m l in
    rw e (sym (told_empty kind all_seen 8 20))

-- the part of the message behind its header
pub visit-behind : (kind : ℕ → ℕ → Kind) (m : List ℕ) {v : Visit} → v ≡ told_of kind 8 20 (take (length m - 20) (drop 20 m)) → v ≡ visit_of kind m
unfolding visit_of
visit-behind kind m e = e ∙ ap (told_of kind 8 20) (ap (λ (n : ℕ). take n (drop 20 m)) (sym (length-drop 20 m)) ∙ take-length (drop 20 m))

pub visit-rows : {rs : List Row} (m : List ℕ) → rs ≡ rows → visit_of (kind_in rs) m ≡ visit_of kind_of m
unfolding kind_of
visit-rows m e = ap (λ l. visit_of (kind_in l) m) e

-- A request that is answered with success or an Experimental-Result passed every test of 01: no refusal has an accepting verdict.
-- Assumes nothing.
use mathlib.Core.Path.{◌≡◌, refl}
use mathlib.Core.Bool.{Bool, true, false, cond, ◌&&◌, ◌||◌, not}
use mathlib.Core.Option.{Option, none, some}
use Prim.Native.Nat.{ℕ, ◌≤◌}
use native.Mathlib.Omega.{arith}
use lib.Dec.{ltb}
use lib.ListN.{length}
use borrow.Author.Tests.{ltb-false}
use Rattle.paper.specs.Layout.{least_answer, cancel_size, least_request, most_request}
use Rattle.paper.specs.Table.{valid}
use Rattle.paper.specs.Request.{is_request, Refusal, is_name, refusal}
use Rattle.paper.specs.Answer as Answer
use Rattle.paper.specs.Answer.{Verdict}
use Rattle.paper.specs.Outcome.{Lent, Outcome, silent, answered, refusal_reply, by_refusal, outcome}
use Rattle.paper.specs.Newer.{Accepting, success, experimental, Accepted}
use Rattle.paper.proofs.TestLaws.{or-false-left}
use Rattle.paper.proofs.PassesLaws.{Passes, refusal-passes}
use Rattle.paper.proofs.PromiseTests.{refusal_otherwise}

-- ---- "Tested in this order": 3, 5, 4, 1, 2

-- none of the five tests refuses the buffers
pub record Tested (l : Lent) : Type 0 where
  pub buffers : ltb (length l.answer) least_answer || ltb (length l.cancel) cancel_size ≡ false
  pub names : not (is_name l.host && is_name l.realm) ≡ false
  pub table : not (valid l.table) ≡ false
  pub size : ltb (length l.request) least_request || ltb most_request (length l.request) ≡ false
  pub kind : not (is_request l.request) ≡ false

pub tested_outcome : (l : Lent) → Tested l → outcome l ≡ by_refusal l (refusal l.request)
unfolding outcome
tested_outcome l t = rw (t.buffers, t.names, t.table, t.size, t.kind)

-- ---- no refusal accepts

accepting_answered : {v : Option Verdict} → Accepting v → v ≡ none → ⊥
accepting_answered success e = let z : ◌≡◌ {A = ℕ} 0 1 = cc in omega arith
accepting_answered (experimental code) e = let z : ◌≡◌ {A = ℕ} 0 1 = cc in omega arith

accepting_success : {v : Option Verdict} → Accepting v → (code : ℕ) → v ≡ some (Answer.base code) → code ≡ 2001
accepting_success success code e = cc
accepting_success (experimental c) code e = let z : ◌≡◌ {A = ℕ} 0 1 = cc in absurd (omega arith)

-- a test whose refusal has no answer
accepted_past : (b : Bool) (n : ℕ) (l : Lent) (o : Outcome) → Accepting (cond b (silent n l) o).verdict → (b ≡ false) × Accepting o.verdict
unfolding silent
accepted_past true n l o h = absurd (accepting_answered h refl)
accepted_past false n l o h = (refl, h)

accepted-fine : (l : Lent) (o : Option Refusal) → refusal l.request ≡ o → Accepting (by_refusal l o).verdict → o ≡ none
unfolding by_refusal answered refusal_reply
accepted-fine l none e h = refl
accepted-fine l (some x) e h = absurd (refusal_otherwise l.request x e (accepting_success h x.code refl))

module _ (l : Lent) (h : Accepted l) where
  past : Tested l × Accepting (by_refusal l (refusal l.request)).verdict
  unfolding outcome
  past =
      let a = accepted_past (ltb (length l.answer) least_answer || ltb (length l.cancel) cancel_size) 3 l _ h in
      let b = accepted_past (not (is_name l.host && is_name l.realm)) 5 l _ a.1 in
      let c = accepted_past (not (valid l.table)) 4 l _ b.1 in
      let d = accepted_past (ltb (length l.request) least_request || ltb most_request (length l.request)) 1 l _ c.1 in
      let e = accepted_past (not (is_request l.request)) 2 l _ d.1 in
      (record { buffers = a.0; names = b.0; table = c.0; size = d.0; kind = e.0 }, e.1)

  pub accepted_tested : Tested l
  accepted_tested = past.0

  pub accepted-passes : Passes l.request
  accepted-passes = refusal-passes l.request (accepted-fine l (refusal l.request) refl past.1)

  pub accepted-least : least_request ≤ length l.request
  accepted-least = ltb-false (length l.request) least_request (or-false-left (ltb (length l.request) least_request) _ accepted_tested.size)

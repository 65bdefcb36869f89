-- Promise 6, of calls one after another on one table: by paper's theorems over steps.
-- Assumes nothing.
use mathlib.Core.Path.{◌≡◌, refl, sym, ap, ◌∙◌, subst}
use mathlib.Core.Bool.{true}
use mathlib.Core.List.{List, ◌∷◌}
use Prim.Native.Nat.{ℕ, ◌-◌, ◌^◌, ◌≤◌, ◌<◌}
use Rattle.paper.specs.Clerks.{record_with, standing_of}
use Rattle.paper.specs.Correction.{frame_imsi, Corrected, corrected}
use Rattle.paper.specs.Run.{Step, corrects, Came, asked, put_right, comes, left, run, table_after, accepted_in}
use Rattle.paper.specs.Table.{valid, change_of}
use Rattle.paper.proofs.PromiseRun as paper
use Rattle.promises.specs.Calls.{Call, Correction}
use Rattle.promises.specs.Promises.{Calls, end, request, correction, step_of, steps_of, left_by, AsRun, RunsAsSaid, RunValid, RunStaysValid, NotBothAccepted, SameAsSeen}

-- ---- the calls are a run

-- what a call left is what its step comes to
request-comes : (c : Call) → comes c.lent.table (step_of c) ≡ asked c.left
unfolding comes
request-comes c = ap asked (sym c.met)

correction-comes : (c : Correction) → comes c.table (corrects c.frame) ≡ put_right c.left
unfolding comes
correction-comes c = ap put_right (sym c.met)

-- a step in front of a run
module _ (t : List ℕ) (s : Step) (ss : List Step) (x : Came) (e : comes t s ≡ x) where
  run_front : run t (s ∷ ss) ≡ x ∷ run (left x) ss
  unfolding run
  run_front = ap (λ (y : Came). y ∷ run (left y) ss) e

  after_front : table_after t (s ∷ ss) ≡ table_after (left x) ss
  unfolding table_after
  after_front = ap (λ (y : Came). table_after (left y) ss) e

as_run : {t u : List ℕ} (cs : Calls t u) → AsRun cs
unfolding steps_of left_by run table_after left
as_run end = record { each = refl; table = refl }
as_run (request c cs) =
    let r = as_run cs in
    let t = c.lent.table in
    let x : Came = asked c.left in
    record {
      each = ap (λ (xs : List Came). x ∷ xs) r.each ∙ sym (run_front t (step_of c) (steps_of cs) x (request-comes c));
      table = r.table ∙ sym (after_front t (step_of c) (steps_of cs) x (request-comes c));
    }
as_run (correction c cs) =
    let r = as_run cs in
    let s : Step = corrects c.frame in
    let x : Came = put_right c.left in
    record {
      each = ap (λ (xs : List Came). x ∷ xs) r.each ∙ sym (run_front c.table s (steps_of cs) x (correction-comes c));
      table = r.table ∙ sym (after_front c.table s (steps_of cs) x (correction-comes c));
    }

pub runs_as_said : RunsAsSaid
runs_as_said t u cs = as_run cs

pub run-valid : RunValid
run-valid t u cs e = subst (λ (x : List ℕ). valid x ≡ true) (sym (as_run cs).table) (paper.run-valid t (steps_of cs) e)

pub run-stays-valid : RunStaysValid
run-stays-valid t u p q cs e f v = q.met ∙ ap valid f ∙ run-valid t u cs (sym (ap valid e) ∙ sym p.met ∙ v)

-- ---- clerks, with other calls in between

pub not_both_accepted : NotBothAccepted
not_both_accepted f g between same-imsi same_seen e e' =
    let ss = steps_of between in
    let was : f.left.table ≡ (corrected f.table f.frame).table = ap (λ (x : Corrected). x.table) f.met in
    let first : (corrected f.table f.frame).number ≡ 0 = sym (ap (λ (x : Corrected). x.number) f.met) ∙ e in
    let over : table_after (corrected f.table f.frame).table ss ≡ g.table = ap (λ (t : List ℕ). table_after t ss) (sym was) ∙ sym (as_run between).table in
    let second : (corrected g.table g.frame).number ≡ 0 = sym (ap (λ (x : Corrected). x.number) g.met) ∙ e' in
    subst (λ (t : List ℕ). 2 ^ 32 - 1 ≤ accepted_in (frame_imsi f.frame) t ss) (sym was)
    (paper.not_both_accepted f.table f.frame ss g.frame same-imsi same_seen first (ap (λ (t : List ℕ). (corrected t g.frame).number) over ∙ second))

pub same_as_seen : SameAsSeen
same_as_seen imsi t u cs =
    subst (λ (x : List ℕ). change_of (record_with imsi x) ≡ change_of (record_with imsi t) → accepted_in imsi t (steps_of cs) < 2 ^ 32
    → (accepted_in imsi t (steps_of cs) ≡ 0) × (standing_of (record_with imsi x) ≡ standing_of (record_with imsi t))) (sym (as_run cs).table) (paper.same_as_seen imsi t (steps_of cs))

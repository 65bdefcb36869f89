-- Promise: a run of requests and corrections. Each step is over the table that the steps before it left; the table stays valid; and what clerks
-- may rely on holds with requests in between. Assumes nothing.
use mathlib.Core.Path.{◌≡◌, refl, sym, ap, ◌∙◌, subst}
use mathlib.Core.Logic.{◌⊎◌, inl, inr, ⊎_elim}
use mathlib.Core.Bool.{Bool, true, false, cond}
use mathlib.Core.Option.{Option, none, some}
use mathlib.Core.List.{List, [], ◌∷◌, ◌++◌}
use Prim.Native.Nat.{ℕ, ◌-◌, ◌^◌, ◌≤◌, ◌<◌}
use Rattle.paper.specs.Table.{valid, lookup, change_of}
use Rattle.paper.specs.Correction.{frame_imsi, frame_seen, corrected}
use Rattle.paper.specs.Clerks.{record_at_place, record_with, Course, stays, passes, Standing, standing_of}
use Rattle.paper.specs.Outcome.{outcome}
use Rattle.paper.specs.Run.{Asking, over, Step, asks, corrects, Came, comes, left, run, table_after, EachOverWhatWasLeft, accepts_step, accepted_in, Reached, at_start, by_last, by_later, LastReached}
use Rattle.paper.proofs.CorrectionLaws.{corrected-valid}
use Rattle.paper.proofs.ClerksLaws.{course_append, course_none, course_same, course_around, correction_course, standing_course, accepted_saw, accepted-counts}
use Rattle.paper.proofs.OutcomeLaws.{outcome-valid, outcome-standing}
use Rattle.paper.proofs.PromiseUntouched.{outcome-lookup}

-- ---- each step is over what was left

pub each-over_what_was-left : EachOverWhatWasLeft
unfolding run table_after
each-over_what_was-left t [] s us = refl
each-over_what_was-left t (x ∷ ss) s us = ap (λ (l : List Came). comes t x ∷ l) (each-over_what_was-left (left (comes t x)) ss s us)

-- the table stays valid
step_valid : (t : List ℕ) (s : Step) → valid t ≡ true → valid (left (comes t s)) ≡ true
unfolding comes left
step_valid t (asks a) e = outcome-valid (over t a) e
step_valid t (corrects f) e = corrected-valid t f e

pub run-valid : (t : List ℕ) (ss : List Step) → valid t ≡ true → valid (table_after t ss) ≡ true
unfolding table_after
run-valid t [] e = e
run-valid t (s ∷ ss) e = run-valid (left (comes t s)) ss (step_valid t s e)

-- ---- clerks, with requests in between

abbrev change : Standing → ℕ
change s = s.change

-- a request leaves what corrections alter
request-keeps : (imsi t : List ℕ) (a : Asking) → standing_of (record_with imsi (outcome (over t a)).table) ≡ standing_of (record_with imsi t)
unfolding record_with record_at_place
request-keeps imsi t a =
    ap (λ (o : Option ℕ). standing_of (record_at_place o (outcome (over t a)).table)) (outcome-lookup (over t a) imsi) ∙ go (lookup imsi t)
  where
    go : (o : Option ℕ) → standing_of (record_at_place o (outcome (over t a)).table) ≡ standing_of (record_at_place o t)
    go none = refl
    go (some i) = outcome-standing (over t a) i

step_course : (imsi t : List ℕ) (s : Step) → Course change (standing_of (record_with imsi t)) (cond (accepts_step imsi t s) 1 0) (standing_of (record_with imsi (left (comes t s))))
unfolding comes left accepts_step
step_course imsi t (asks a) = passes (request-keeps imsi t a) stays
step_course imsi t (corrects f) = standing_course (correction_course imsi t f)

pub run_course : (imsi t : List ℕ) (ss : List Step) → Course change (standing_of (record_with imsi t)) (accepted_in imsi t ss) (standing_of (record_with imsi (table_after t ss)))
unfolding table_after accepted_in
run_course imsi t [] = stays
run_course imsi t (s ∷ ss) = course_append change (step_course imsi t s) (run_course imsi (left (comes t s)) ss)

-- Two corrections that name the same record with the same change number seen are not both accepted, unless at least 2^32 − 1 other corrections of that
-- record were accepted between them. Whatever requests stand between make no difference.
pub not_both_accepted : (t f : List ℕ) (between : List Step) (g : List ℕ) → frame_imsi g ≡ frame_imsi f → frame_seen g ≡ frame_seen f
    → (corrected t f).number ≡ 0 → (corrected (table_after (corrected t f).table between) g).number ≡ 0
    → 2 ^ 32 - 1 ≤ accepted_in (frame_imsi f) (corrected t f).table between
unfolding standing_of
not_both_accepted t f between g same-imsi same_seen e e' =
    let u = (corrected t f).table in
    course_around change (frame_seen f) (run_course (frame_imsi f) u between) (accepted-counts t f e)
    (ap (λ (x : List ℕ). change_of (record_with x (table_after u between))) (sym same-imsi) ∙ accepted_saw (table_after u between) g e' ∙ same_seen)

-- Where the change number of a record is the same at two moments, and fewer than 2^32 corrections of it were accepted between, none was, and all that
-- corrections alter is the same: a clerk whose correction is accepted corrects what was seen, however many requests came in between.
pub same_as_seen : (imsi t : List ℕ) (ss : List Step) → change_of (record_with imsi (table_after t ss)) ≡ change_of (record_with imsi t) → accepted_in imsi t ss < 2 ^ 32
    → (accepted_in imsi t ss ≡ 0) × (standing_of (record_with imsi (table_after t ss)) ≡ standing_of (record_with imsi t))
unfolding standing_of
same_as_seen imsi t ss e h = course_same change (run_course imsi t ss) e h

-- ---- the moment at which a change number was last reached

none_accepted : (imsi t : List ℕ) (ss : List Step) → accepted_in imsi t ss ≡ 0 → standing_of (record_with imsi (table_after t ss)) ≡ standing_of (record_with imsi t)
none_accepted imsi t ss z = course_none change (run_course imsi t ss) z

step_kept : (imsi t : List ℕ) (s : Step) → accepts_step imsi t s ≡ false → standing_of (record_with imsi (left (comes t s))) ≡ standing_of (record_with imsi t)
step_kept imsi t s e = course_none change (step_course imsi t s) (ap (λ (b : Bool). cond b 1 0) e)

reached-or_none : {imsi t : List ℕ} {us : List Step} → Reached imsi t us → (us ≡ []) ⊎ ((s : Step) (v : List ℕ) → left (comes v s) ≡ t → Reached imsi v (s ∷ us))
reached-or_none {imsi} at_start = inl refl
reached-or_none {imsi} (by_last {s = u} e) = inr (λ s v q. by_later (subst (λ (x : List ℕ). Reached imsi x (u ∷ [])) (sym q) (by_last e)))
reached-or_none {imsi} (by_later {s = u} {u = w} {us = ws} r) = inr (λ s v q. by_later (subst (λ (x : List ℕ). Reached imsi x (u ∷ w ∷ ws)) (sym q) (by_later r)))

none_from_start : (imsi t : List ℕ) (ss : List Step) (l : LastReached imsi t ss) → l.before ≡ [] → accepted_in imsi t ss ≡ 0
unfolding table_after
none_from_start imsi t ss l z =
    let whole : ss ≡ l.since = l.split ∙ ap (λ (us : List Step). us ++ l.since) z in
    ap (accepted_in imsi t) whole ∙ ap (λ (us : List Step). accepted_in imsi (table_after t us) l.since) (sym z) ∙ l.none_since

-- What corrections alter of a record, at any moment of a run, is what stood when its change number was last reached.
pub last_reached : (imsi t : List ℕ) (ss : List Step) → LastReached imsi t ss
unfolding table_after accepted_in
last_reached imsi t [] = record { before = []; since = []; split = refl; reached = at_start; none_since = refl; same_standing = refl }
last_reached imsi t (s ∷ ss) = go (last_reached imsi (left (comes t s)) ss)
  where
    v : List ℕ
    v = left (comes t s)

    quiet : accepted_in imsi v ss ≡ 0 → (b : Bool) → accepts_step imsi t s ≡ b → LastReached imsi t (s ∷ ss)
    quiet z true e = record { before = s ∷ []; since = ss; split = refl; reached = by_last e; none_since = z; same_standing = none_accepted imsi v ss z }
    quiet z false e =
        record { before = []; since = s ∷ ss; split = refl; reached = at_start; none_since = rw (e, z); same_standing = none_accepted imsi v ss z ∙ step_kept imsi t s e }

    go : LastReached imsi v ss → LastReached imsi t (s ∷ ss)
    go l =
        ⊎_elim (λ z. quiet (none_from_start imsi v ss l z) (accepts_step imsi t s) refl)
        (λ earlier.
        record {
          before = s ∷ l.before;
          since = l.since;
          split = ap (λ (us : List Step). s ∷ us) l.split;
          reached = earlier s t refl;
          none_since = l.none_since;
          same_standing = l.same_standing;
        })
        (reached-or_none l.reached)

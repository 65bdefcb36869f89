-- Several clerks: two corrections of one record with the same change number seen are not both accepted, short of a whole turn of the change
-- number, and a clerk whose correction is accepted corrects the record that was seen.
-- Assumes nothing.
use mathlib.Core.Path.{◌≡◌, refl, sym, ap, ◌∙◌, subst}
use mathlib.Core.Logic.{◌⊎◌, inl, inr, ⊎_elim}
use mathlib.Core.Bool.{Bool, true, false, cond}
use mathlib.Core.Option.{Option, none, some}
use mathlib.Core.List.{List, [], ◌∷◌, ◌++◌}
use Prim.Native.Nat.{ℕ, ◌+◌, ◌-◌, ◌%◌, ◌^◌, ◌≤◌, ◌<◌}
use native.Mathlib.Nat.{zero-add, suc-add}
use native.Mathlib.Omega.{arith}
use lib.Dec.{eqb}
use borrow.Author.Tests.{eqb-true, eqb-false, eq-eqb}
use Rattle.std.proofs.lemmas.Bool.{and_parts}
use Rattle.wire.specs.Stretch.{same}
use Rattle.wire.proofs.StretchLaws.{same_true, same_refl, same_false}
use Rattle.paper.specs.Table.{record_of, imsi_of, change_of, lookup}
use Rattle.paper.specs.Correction.{frame_imsi, frame_seen, next_change, corrected}
use Rattle.paper.specs.Clerks.{record_at_place, record_with, run, accepts, accepted_of, Course, stays, counts, passes, Standing, standing_of, Reached, at_start, by_last, by_later, LastReached}
use Rattle.paper.proofs.TableLaws.{lookup_some}
use Rattle.paper.proofs.CorrectionCases.{refused_alters_nothing}
use Rattle.paper.proofs.CorrectionLaws.{Passed, passed, passed_alters, corrected-lookup}

-- ---- what a record goes through

module _ {A : Type 0} (change : A → ℕ) where
  pub course_append : {a b c : A} {m n : ℕ} → Course change a m b → Course change b n c → Course change a (m + n) c
  course_append {n = n} stays d = rw (zero-add n) d
  course_append {n = n} (counts {n = m} e c) d = rw (suc-add m n) (counts e (course_append c d))
  course_append (passes e c) d = passes e (course_append c d)

  -- without an accepted correction nothing of what is looked at changes
  pub course_none : {a b : A} {n : ℕ} → Course change a n b → n ≡ 0 → b ≡ a
  course_none stays z = refl
  course_none (counts e c) z = absurd (omega arith)
  course_none (passes e c) z = course_none c z ∙ e

  -- each accepted correction counts one, modulo 2^32
  pub course_number : {a b : A} {n : ℕ} → Course change a n b → change b % 2 ^ 32 ≡ (change a + n) % 2 ^ 32
  course_number stays = omega arith
  course_number (counts e c) = let h = course_number c in omega arith
  course_number (passes e c) = let h = course_number c in let k = ap change e in omega arith

  -- where the change number is the same at two moments and fewer than 2^32 corrections were accepted between, none was, and all is as it was
  pub course_same : {a b : A} {n : ℕ} → Course change a n b → change b ≡ change a → n < 2 ^ 32 → (n ≡ 0) × (b ≡ a)
  course_same {n = n} c e h =
      let k = course_number c in
      let z : n ≡ 0 = omega arith in
      (z, course_none c z)

  -- from the change number after `seen` back to `seen` it takes at least 2^32 − 1 accepted corrections
  pub course_around : {a b : A} {n : ℕ} (seen : ℕ) → Course change a n b → change a ≡ next_change seen → change b ≡ seen → 2 ^ 32 - 1 ≤ n
  unfolding next_change
  course_around seen c e f = let k = course_number c in omega arith

-- a course of a record is one of any part of it that shows the change number
pub course_map : {A B : Type 0} (change : A → ℕ) (shown : B → ℕ) (g : A → B) → ((a : A) → shown (g a) ≡ change a)
    → {a b : A} {n : ℕ} → Course change a n b → Course shown (g a) n (g b)
unfolding next_change
course_map change shown g h stays = stays
course_map change shown g h (counts {a = a} {b = b} e c) = counts (h b ∙ e ∙ ap next_change (sym (h a))) (course_map change shown g h c)
course_map change shown g h (passes e c) = passes (ap g e) (course_map change shown g h c)

-- ---- one correction, as the record with an IMSI sees it

module _ (imsi t f : List ℕ) where
  -- accepted, and of this record
  own_step : accepts imsi t f ≡ true → change_of (record_with imsi (corrected t f).table) ≡ next_change (change_of (record_with imsi t))
  unfolding accepts record_with record_at_place record_of next_change
  own_step e =
      let p = passed t f (eqb-true _ _ (and_parts (eqb (corrected t f).number 0) (same (frame_imsi f) imsi) e).0) in
      let named : frame_imsi f ≡ imsi = same_true (frame_imsi f) imsi (and_parts (eqb (corrected t f).number 0) (same (frame_imsi f) imsi) e).1 in
      let a = passed_alters t f p in
      let found : lookup imsi t ≡ some p.place = ap (λ (x : List ℕ). lookup x t) (sym named) ∙ p.found in
      let after : record_at_place (lookup imsi (corrected t f).table) (corrected t f).table ≡ record_of (corrected t f).table p.place =
      ap (λ (o : Option ℕ). record_at_place o (corrected t f).table) (corrected-lookup t f p imsi ∙ found) in
      let before : record_at_place (lookup imsi t) t ≡ record_of t p.place = ap (λ (o : Option ℕ). record_at_place o t) found in
      ap change_of after ∙ a.counted ∙ ap next_change (sym a.seen ∙ ap change_of (sym before))

  -- accepted, and of another record
  other_step : Passed t f → (frame_imsi f ≡ imsi → ⊥) → record_with imsi (corrected t f).table ≡ record_with imsi t
  unfolding record_with record_at_place record_of
  other_step p ne = ap (λ (o : Option ℕ). record_at_place o (corrected t f).table) (corrected-lookup t f p imsi) ∙ go (lookup imsi t) refl
    where
      go : (o : Option ℕ) → lookup imsi t ≡ o → record_at_place o (corrected t f).table ≡ record_at_place o t
      go none e = refl
      go (some j) e =
          let here = (lookup_some imsi t j e).1 in
          let there = (lookup_some (frame_imsi f) t p.place p.found).1 in
          (passed_alters t f p).other_records j (λ q. ne (sym there ∙ ap (λ (k : ℕ). imsi_of (record_of t k)) (sym q) ∙ here))

  -- every correction that is not an accepted one of this record leaves it as it is, byte for byte
  pub record_kept : accepts imsi t f ≡ false → record_with imsi (corrected t f).table ≡ record_with imsi t
  unfolding accepts
  record_kept e = go (eqb (corrected t f).number 0) refl (same (frame_imsi f) imsi) refl
    where
      go : (b : Bool) → eqb (corrected t f).number 0 ≡ b → (d : Bool) → same (frame_imsi f) imsi ≡ d → record_with imsi (corrected t f).table ≡ record_with imsi t
      go false q d h = ap (record_with imsi) (refused_alters_nothing t f (eqb-false _ _ q))
      go true q false h = other_step (passed t f (eqb-true _ _ q)) (same_false (frame_imsi f) imsi h)
      go true q true h = let z : true ≡ false = rw (q, h) at e in let y : ◌≡◌ {A = ℕ} 0 1 = cc in absurd (omega arith)

  pub correction_course : Course change_of (record_with imsi t) (cond (accepts imsi t f) 1 0) (record_with imsi (corrected t f).table)
  unfolding next_change
  correction_course = go (accepts imsi t f) refl
    where
      go : (b : Bool) → accepts imsi t f ≡ b → Course change_of (record_with imsi t) (cond b 1 0) (record_with imsi (corrected t f).table)
      go true e = counts (own_step e) stays
      go false e = passes (record_kept e) stays

-- ---- any sequence of corrections

pub run_course : (imsi t : List ℕ) (fs : List (List ℕ)) → Course change_of (record_with imsi t) (accepted_of imsi t fs) (record_with imsi (run t fs))
unfolding run accepted_of
run_course imsi t [] = stays
run_course imsi t (f ∷ fs) = course_append change_of (correction_course imsi t f) (run_course imsi (corrected t f).table fs)

-- the same of the change number and the corrected fields alone: what else happens to a table may stand between
pub standing_course : {r r' : List ℕ} {n : ℕ} → Course change_of r n r' → Course (λ (s : Standing). s.change) (standing_of r) n (standing_of r')
unfolding standing_of
standing_course c = course_map change_of (λ (s : Standing). s.change) standing_of (λ r. refl) c

-- an accepted correction saw the change number of its record, and made it the next one
pub accepted_saw : (t f : List ℕ) → (corrected t f).number ≡ 0 → change_of (record_with (frame_imsi f) t) ≡ frame_seen f
unfolding record_with record_at_place
accepted_saw t f e = let p = passed t f e in ap (λ (o : Option ℕ). change_of (record_at_place o t)) p.found ∙ p.seen

pub accepted-counts : (t f : List ℕ) → (corrected t f).number ≡ 0 → change_of (record_with (frame_imsi f) (corrected t f).table) ≡ next_change (frame_seen f)
unfolding accepts
accepted-counts t f e =
    let a : accepts (frame_imsi f) t f ≡ true = rw (eq-eqb _ _ e) (same_refl (frame_imsi f)) in
    own_step (frame_imsi f) t f a ∙ ap next_change (accepted_saw t f e)

-- Two corrections that name the same record with the same change number seen are not both accepted,
-- unless at least 2^32 − 1 other corrections of that record were accepted between them.
pub not_both_accepted : (t f : List ℕ) (between : List (List ℕ)) (g : List ℕ) → frame_imsi g ≡ frame_imsi f → frame_seen g ≡ frame_seen f
    → (corrected t f).number ≡ 0 → (corrected (run (corrected t f).table between) g).number ≡ 0
    → 2 ^ 32 - 1 ≤ accepted_of (frame_imsi f) (corrected t f).table between
not_both_accepted t f between g same-imsi same_seen e e' =
    let u = (corrected t f).table in
    course_around change_of (frame_seen f) (run_course (frame_imsi f) u between) (accepted-counts t f e)
    (ap (λ (x : List ℕ). change_of (record_with x (run u between))) (sym same-imsi) ∙ accepted_saw (run u between) g e' ∙ same_seen)

-- Where the change number of a record is the same at two moments, and fewer than 2^32 corrections of it were accepted between,
-- none was, and the record is byte for byte the same: a clerk whose correction is accepted corrects the record that was seen.
pub same_as_seen : (imsi t : List ℕ) (fs : List (List ℕ)) → change_of (record_with imsi (run t fs)) ≡ change_of (record_with imsi t) → accepted_of imsi t fs < 2 ^ 32
    → (accepted_of imsi t fs ≡ 0) × (record_with imsi (run t fs) ≡ record_with imsi t)
same_as_seen imsi t fs e h = course_same change_of (run_course imsi t fs) e h

-- ---- the moment at which a change number was last reached

none_accepted : (imsi t : List ℕ) (fs : List (List ℕ)) → accepted_of imsi t fs ≡ 0 → record_with imsi (run t fs) ≡ record_with imsi t
none_accepted imsi t fs z = course_none change_of (run_course imsi t fs) z

reached-or_none : {imsi t : List ℕ} {gs : List (List ℕ)} → Reached imsi t gs → (gs ≡ []) ⊎ ((f u : List ℕ) → (corrected u f).table ≡ t → Reached imsi u (f ∷ gs))
reached-or_none {imsi} at_start = inl refl
reached-or_none {imsi} (by_last {t = t} {f = g} e) = inr (λ f u q. by_later (subst (λ (x : List ℕ). Reached imsi x (g ∷ [])) (sym q) (by_last e)))
reached-or_none {imsi} (by_later {t = t} {f = g} {g = h} {gs = hs} r) =
    inr (λ f u q. by_later (subst (λ (x : List ℕ). Reached imsi x (g ∷ h ∷ hs)) (sym q) (by_later r)))

-- it was reached at the start: no correction of the record was accepted
none_from_start : (imsi t : List ℕ) (fs : List (List ℕ)) (l : LastReached imsi t fs) → l.before ≡ [] → accepted_of imsi t fs ≡ 0
unfolding run
none_from_start imsi t fs l z =
    let whole : fs ≡ l.since = l.split ∙ ap (λ (gs : List (List ℕ)). gs ++ l.since) z in
    ap (accepted_of imsi t) whole ∙ ap (λ (gs : List (List ℕ)). accepted_of imsi (run t gs) l.since) (sym z) ∙ l.none_since

-- The record at any moment of a run, so at an accepted correction too, is the one that stood when its change number was last reached.
pub last_reached : (imsi t : List ℕ) (fs : List (List ℕ)) → LastReached imsi t fs
unfolding run accepted_of
last_reached imsi t [] = record { before = []; since = []; split = refl; reached = at_start; none_since = refl; same_record = refl }
last_reached imsi t (f ∷ fs) = go (last_reached imsi (corrected t f).table fs)
  where
    u : List ℕ
    u = (corrected t f).table

    quiet : accepted_of imsi u fs ≡ 0 → (b : Bool) → accepts imsi t f ≡ b → LastReached imsi t (f ∷ fs)
    quiet z true e = record { before = f ∷ []; since = fs; split = refl; reached = by_last e; none_since = z; same_record = none_accepted imsi u fs z }
    quiet z false e =
        record { before = []; since = f ∷ fs; split = refl; reached = at_start; none_since = rw (e, z); same_record = none_accepted imsi u fs z ∙ record_kept imsi t f e }

    go : LastReached imsi u fs → LastReached imsi t (f ∷ fs)
    go l =
        ⊎_elim (λ z. quiet (none_from_start imsi u fs l z) (accepts imsi t f) refl)
        (λ more.
        record {
          before = f ∷ l.before;
          since = l.since;
          split = ap (λ (gs : List (List ℕ)). f ∷ gs) l.split;
          reached = more f t refl;
          none_since = l.none_since;
          same_record = l.same_record;
        })
        (reached-or_none l.reached)

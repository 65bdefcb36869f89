-- Laws of what Failed-AVP holds: by the case of `Failed`, by the AVP that the cursor reads, by a head that may be cut.
-- Assumes nothing.
use mathlib.Core.Path.{◌≡◌, refl, sym, ap, ◌∙◌}
use mathlib.Core.Bool.{Bool, true, false, cond, false≢true}
use mathlib.Core.Option as Math
use mathlib.Core.Option.{none, some}
use mathlib.Core.List.{List, [], append-nil}
use Prim.Native.Nat.{ℕ, zero, suc, ◌+◌, ◌%◌, ◌≤◌}
use native.Mathlib.Omega.{arith}
use lib.ListN.{length, get_or, replicate, length-take, length-drop, get_or-eq_default}
use Rattle.std.specs.Prelude.{Option, Some, None}
use Rattle.wire.specs.Number.{be, num_at}
use Rattle.wire.specs.Put.{Wrote}
use Rattle.wire.proofs.PutLaws.{put-nil}
use Rattle.paper.specs.Avp.{Avp, has_v, head_size, padded, size_of, flags_of, code_of, vendor_of, framed, avp_of, bare_of, as_received, flags_for, written}
use Rattle.paper.specs.Profile.{failed_avp}
use Rattle.paper.specs.Answer.{item, failed_item}
use Rattle.paper.specs.Shown.{stretch, absent, failed_in}
use Rattle.paper.specs.Layout.{most_request}
use Rattle.paper.specs.ShownIn.{LiesIn, ShownIn}
use Rattle.paper.specs.declared.Failed.{Failed}
use Rattle.paper.specs.declared.Failed.TheVariants.{Whole, Bare, Missing}
use Rattle.dictionary.specs.declared.Key.{Key}
use Rattle.paper.proofs.AvpLaws.{framed-least, framed-sizes, padded-least, padded-most, head_size-least, head_size-most, padded-fours}
use Rattle.paper.proofs.AvpsLaws.{size-read}
use Rattle.paper.proofs.WrittenLaws.{length_as_received}
use Rattle.avp.specs.Step.{step_at, key_at}
use Rattle.avp.specs.Found.{Inside, data_of}
use Rattle.avp.specs.Written.{group_head, received}
use Rattle.avp.specs.declared.cursor.Avp.{Avp as Read}
use Rattle.avp.specs.declared.cursor.Cursor.{Cursor}
use Rattle.avp.specs.declared.cursor.Step.{Step}
use Rattle.avp.specs.declared.cursor.Step.TheVariants.{Item, End, Bad}
use Rattle.avp.proofs.StepLaws.{end-place, bad_unframed, item-avp, item-inside}
use Rattle.avp.proofs.WriteLaws.{received-at, group_parts, length-written}
use Rattle.answer.specs.Parts.{shown_bytes}

-- ---- by the case of `Failed`

pub shown-nothing : (m : List ℕ) {o : Option Failed} → o ≡ None → [] ≡ shown_bytes (failed_in m o)
unfolding failed_in shown_bytes
shown-nothing m e = rw e

module _ (m : List ℕ) {f : Failed} where
  pub shown-whole : {at to : ℕ} → f ≡ Whole at to → as_received (avp_of (stretch m at to)) ≡ shown_bytes (failed_in m (Some f))
  unfolding failed_in shown_bytes
  shown-whole e = rw e

  pub shown-bare : {at to : ℕ} → f ≡ Bare at to → as_received (bare_of (stretch m at to)) ≡ shown_bytes (failed_in m (Some f))
  unfolding failed_in shown_bytes
  shown-bare e = rw e

  pub shown-missing : {key : Key} {four : Bool} → f ≡ Missing key four → as_received (absent key.vendor key.code four) ≡ shown_bytes (failed_in m (Some f))
  unfolding failed_in shown_bytes
  shown-missing e = rw e

  pub readable-whole : {at to : ℕ} → f ≡ Whole at to → ShownIn m (Some f) → LiesIn m at to × (framed (stretch m at to) ≡ true)
  readable-whole e r = rw e at r

  pub readable-bare : {at to : ℕ} → f ≡ Bare at to → ShownIn m (Some f) → LiesIn m at to
  readable-bare e r = rw e at r

-- ---- the AVP at the front of a stretch

module _ (s : List ℕ) {at : ℕ} (z : at ≡ 0) where
  pub front_inside : {a : Read} {next : Cursor} → Item a next ≡ step_at s at → Inside s a
  front_inside e = item-inside s at e

  pub front_received : {a : Read} {next : Cursor} {k : Key} {x : List ℕ} → Item a next ≡ step_at s at → k ≡ key_at a → x ≡ data_of s a
      → received k.code a.flags k.vendor x ≡ as_received (avp_of s)
  front_received {a} {x = x} e f d =
      ap (λ (k : Key). received k.code a.flags k.vendor x) f ∙ ap (received a.code a.flags a.vendor) d ∙ received-at s at (item-avp s at e) ∙ rw z

  -- an AVP stands there, so it is neither the end nor a fault
  pub front_no_end : framed s ≡ true → End ≡ step_at s at → ⊥
  front_no_end f e = let l = framed-least s f in let p = end-place s at e in omega arith

  pub front_no_fault : framed s ≡ true → {p : ℕ} → Bad p ≡ step_at s at → ⊥
  front_no_fault f e = false≢true (sym (rw z at (bad_unframed s at e)) ∙ f)

  pub front_item : framed s ≡ true → {x : Step} → x ≡ step_at s at → ((a : Read) (next : Cursor) → x ≡ Item a next → ⊥) → ⊥
  front_item f {x = Item a next} e h = h a next refl
  front_item f {x = End} e h = front_no_end f e
  front_item f {x = Bad p} e h = front_no_fault f e

-- ---- a head that may be cut

-- bytes past the end read as 0
pub num_at_past : (n : ℕ) (s : List ℕ) (at : ℕ) → length s ≤ at → num_at n s at ≡ 0
unfolding num_at
num_at_past zero s at h = refl
num_at_past (suc n) s at h = let z : get_or s at 0 ≡ 0 = get_or-eq_default s 0 h in rw (z, num_at_past n s (suc at) (omega arith)) (omega arith)

pub cut_vendor : (s : List ℕ) {flags vendor : ℕ} → flags ≡ flags_of s → vendor ≡ cond (has_v flags) (num_at 4 s 8) 0 → vendor ≡ vendor_of s
unfolding vendor_of
cut_vendor s e f = f ∙ rw e

pub cut_head : (s : List ℕ) {code flags vendor : ℕ} → code ≡ code_of s → flags ≡ flags_of s → vendor ≡ cond (has_v flags) (num_at 4 s 8) 0
    → received code flags vendor [] ≡ as_received (bare_of s)
unfolding bare_of
cut_head s e f g = rw (cut_vendor s f g, e, f)

pub length-bare : (code flags vendor : ℕ) → length (received code flags vendor []) ≤ 12
unfolding padded
length-bare code flags vendor = let h = head_size-most flags in rw length_as_received (omega arith)

-- ---- the AVP that is absent

pub absent_four : (vendor code : ℕ) {four : Bool} → four ≡ true → written vendor code true (be 4 0) ≡ as_received (absent vendor code four)
unfolding written
absent_four vendor code e = rw e

pub absent_empty : (vendor code : ℕ) {four : Bool} → four ≡ false → written vendor code true [] ≡ as_received (absent vendor code four)
unfolding written
absent_empty vendor code e = rw e

-- its header is all of it
pub absent_head : (vendor code : ℕ) {four : Bool} → four ≡ false → group_head vendor code 0 ≡ as_received (absent vendor code four)
absent_head vendor code e = sym (append-nil (group_head vendor code 0)) ∙ group_parts vendor code [] refl ∙ absent_empty vendor code e

-- ---- Failed-AVP

pub shown-fours : (o : Math.Option Avp) → length (shown_bytes o) % 4 ≡ 0
unfolding shown_bytes
shown-fours none = refl
shown-fours (some a) = rw (length_as_received a) (padded-fours (head_size a.flags + length a.body))

pub shown_takes : (a : Avp) → 8 ≤ length (as_received a)
shown_takes a =
    let h = head_size-least a.flags in
    let p = padded-least (head_size a.flags + length a.body) in
    rw (length_as_received a) (omega arith)

-- nothing was written: no Failed-AVP
pub failed_unwritten : (o : Math.Option Avp) {l l' : List ℕ} {start end : ℕ} (at : ℕ) → Wrote l start (shown_bytes o) l' end → end ≡ start → Wrote l at (failed_item o) l' at
unfolding shown_bytes failed_item
failed_unwritten none {l} at w e = record { next = omega arith; made = w.made ∙ put-nil _ l ∙ sym (put-nil at l) }
failed_unwritten (some a) at w e = let t = shown_takes a in let n = w.next in absurd (omega arith)

-- something was written: it is what Failed-AVP holds
pub failed_written : (o : Math.Option Avp) {l l' : List ℕ} {start end : ℕ} → Wrote l start (shown_bytes o) l' end → (end ≡ start → ⊥) → item failed_avp (shown_bytes o) ≡ failed_item o
unfolding shown_bytes failed_item
failed_written none w e = absurd (e (let n = w.next in omega arith))
failed_written (some a) w e = refl

module _ (m : List ℕ) {o : Option Failed} where
  -- nothing is shown: no Failed-AVP
  pub failed_none : o ≡ None → [] ≡ failed_item (failed_in m o)
  unfolding failed_in failed_item
  failed_none e = rw e

  -- what is shown is what Failed-AVP holds
  pub failed_some : {f : Failed} → o ≡ Some f → item failed_avp (shown_bytes (failed_in m (Some f))) ≡ failed_item (failed_in m o)
  unfolding failed_in failed_item shown_bytes
  failed_some e = rw e

-- an AVP of the request is no longer than the request
whole-most : (s : List ℕ) → framed s ≡ true → length (as_received (avp_of s)) ≤ length s
unfolding size_of
whole-most s e =
    let z = size-read s e in
    let i = (framed-sizes s e).inside in
    rw (length_as_received (avp_of s)) (omega arith)

pub shown-most : (m : List ℕ) (f : Failed) → length m ≤ most_request → ShownIn m (Some f) → length (shown_bytes (failed_in m (Some f))) ≤ most_request
unfolding shown_bytes failed_in bare_of
shown-most m (Whole at to) h r =
    let w = whole-most (stretch m at to) r.1 in
    let n : length (stretch m at to) ≤ length m = simp (length-take, length-drop) (omega arith) in
    omega arith
shown-most m (Bare at to) h r = let s = stretch m at to in let l = length-bare (code_of s) (flags_of s) (vendor_of s) in omega arith
shown-most m (Missing key four) h r =
    let x = head_size-most (flags_for key.vendor true) in
    let n = four_most four in
    let p = padded-most (head_size (flags_for key.vendor true) + length (cond four (replicate {A = ℕ} 4 0) [])) in
    rw (length_as_received (absent key.vendor key.code four)) (omega arith)
  where
    four_most : (b : Bool) → length (cond b (replicate {A = ℕ} 4 0) []) ≤ 4
    four_most true = omega arith
    four_most false = omega arith

-- what is held is part of Failed-AVP
pub shown-within : (o : Math.Option Avp) → length (shown_bytes o) ≤ length (failed_item o)
unfolding shown_bytes failed_item
shown-within none = omega arith
shown-within (some a) =
    let p = padded-least (length (as_received a)) in
    rw (length-written 0 279 true (as_received a)) (omega arith)

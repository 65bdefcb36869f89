-- The relation `Widened` is wide enough: a stretch widens to itself; two widenings in a row are one; an unknown AVP can be put in at any seam and at
-- any depth; each flag bit but V can be changed. Assumes nothing.
use mathlib.Core.Path.{◌≡◌, refl, sym, ap, ◌∙◌, subst}
use mathlib.Core.Logic.{◌≢◌}
use mathlib.Core.Bool.{Bool, true, false, cond, false≢true}
use mathlib.Core.Option.{Option, none, some}
use mathlib.Core.List.{List, ◌++◌, append_assoc}
use Prim.Native.Nat.{ℕ, zero, suc, ◌+◌, ◌-◌, ◌^◌, ◌<◌}
use native.Mathlib.Nat.{add-zero}
use native.Mathlib.Omega.{arith}
use lib.ListN.{length, take, get_or, length-set}
use lib.Seq.{get_or-set_same, get_or-set_other, drop-set-lt}
use Rattle.wire.specs.Number.{num_at, Bytes}
use Rattle.wire.proofs.ListLaws.{part_same}
use Rattle.wire.proofs.NumberLaws.{num_at_agree}
use Rattle.dictionary.specs.Kinds.{size_right}
use Rattle.dictionary.specs.declared.Kind.{Kind}
use Rattle.dictionary.specs.declared.Kind.TheVariants.{Group, Unknown}
use Rattle.paper.specs.Avp.{Avp, has_v, has_m, head_size, padded, code_of, flags_of, length_of, vendor_of, framed, body_of, after, avp_of, as_received}
use Rattle.paper.specs.Reader.{Placed, placed, avps, unbroken, or_else, ◌then◌, unknown, group, each, view_avp, view}
use Rattle.paper.specs.Widened.{OneAvp, SameKey, if_mandatory, kind_at, Widened, done, keep, enter, add, lose, mended, Inserted, here, within, with_flags, flipped, Clear, shown_of}
use Rattle.paper.proofs.AvpLaws.{head_size-least, head_agree, one-least, one-framed, front_avp, SameHead, front_head, front_one, length_front, front_rejoin, front_body, front_avp_lem, length-after}
use Rattle.paper.proofs.AvpsLaws.{avps_induction}
use Rattle.paper.proofs.ViewLaws.{or_else_assoc, or_else-right, view-unknown, view_deep, view-group, view_known, view-one}
use Rattle.paper.proofs.PlaceLaws.{standing, avp_placeless, view_placeless, clear_any_place}
use Rattle.paper.proofs.WidenedView.{clear-nothing, clear_first, clear-rest, clear_then}
use Rattle.paper.proofs.WrittenLaws.{one-mended, key-mended, body-mended}
use Rattle.paper.proofs.FlagBits.{has_m-flipped, has_v-flipped}
use Rattle.paper.proofs.Narrow.{Sort, entered, passed_by, taken, sort_of, Narrow, narrow_widens, faulty-is, sized-right}

module _ (kind : ℕ → ℕ → Kind) (seen : ℕ → ℕ → List ℕ → List ℕ) where
  -- ---- a stretch is a widening of itself

  itself : Narrow kind seen (λ s. Unit {0}) (λ left s. s) (λ left s. front_avp s)
  itself =
      record {
        good_after = λ s g. tt;
        good_body = λ s g. tt;
        empty = λ left. refl;
        step = λ left s f. sym (front_rejoin s f);
        one = λ left s g f u. front_one s f;
        vendor = λ left s g f u. (front_head s f).vendor;
        code = λ left s g f u. (front_head s f).code;
        taken = λ left s g f k u. front_body s f;
        entered = λ left s g f k. front_body s f;
        passed_by = λ left s r m f u w. lose (front_avp s) (front_one s f) (rw ((front_head s f).vendor, (front_head s f).code) u) w;
      }

  -- a stretch in which the visit finds no fault, its unknown AVPs with it
  pub widened_itself : (left at : ℕ) (s : List ℕ) → (view kind seen left at s).fault ≡ none → Widened kind seen s s (shown_of (view kind seen left at s).unsupported)
  widened_itself left at s e = narrow_widens kind seen itself left at s tt e

  pub widened_refl : (left at : ℕ) (s : List ℕ) → Clear (view kind seen left at s) → Widened kind seen s s none
  widened_refl left at s c = subst (λ (o : Option Placed). Widened kind seen s s (shown_of o)) c.unsupported (widened_itself left at s c.fault)

  -- ---- two widenings in a row

  pub widened_append : {a b c d : List ℕ} {m n : Option Avp} → Widened kind seen a b m → Widened kind seen c d n → Widened kind seen (a ++ c) (b ++ d) (or_else m n)
  widened_append done v = v
  widened_append {c = c} {d = d} (keep {s = s} {t = t} x y ox oy k g u z e w) v = rw (append_assoc x s c, append_assoc y t d) (keep x y ox oy k g u z e (widened_append w v))
  widened_append {c = c} {d = d} {n = n} (enter {s = s} {t = t} {i = i} {m = m} x y ox oy k g j w) v =
      rw (append_assoc x s c, append_assoc y t d, or_else_assoc i m n) (enter x y ox oy k g j (widened_append w v))
  widened_append {d = d} {n = n} (add {t = t} {m = m} y oy u w) v =
      rw (append_assoc y t d, or_else_assoc (if_mandatory (avp_of y)) m n) (add y oy u (widened_append w v))
  widened_append {c = c} (lose {s = s} x ox u w) v = rw (append_assoc x s c) (lose x ox u (widened_append w v))

  -- ---- a seam of a stretch: its AVPs on either side are read as they were

  pub view_front : (left at : ℕ) (s b : List ℕ) → framed s ≡ true
      → view kind seen left at (s ++ b) ≡ view_avp kind seen left (standing (avp_of s) at (at + length (s ++ b))) then view kind seen left (at + padded (length_of s)) (after s ++ b)
  view_front left at s b e =
      let j : front_avp s ++ (after s ++ b) ≡ s ++ b = sym (append_assoc (front_avp s) (after s) b) ∙ ap (λ (x : List ℕ). x ++ b) (front_rejoin s e) in
      let v = view-one kind seen left at (after s ++ b) (front_one s e) in
      rw (j, front_avp_lem s e, length_front s e) at v

  clear-placed : (left at to : ℕ) (s : List ℕ) → Clear (view_avp kind seen left (standing (avp_of s) at to)) → Clear (view_avp kind seen left (placed at s))
  unfolding placed
  clear-placed left at to s c = clear_any_place _ _ (avp_placeless kind seen left (avp_of s) at to at (at + length s)) c

  -- `a` ends at a seam of `a ++ b`
  pub seam_clear : (at : ℕ) (a : List ℕ) → unbroken (avps at a) ≡ true → (left : ℕ) (b : List ℕ) → Clear (view kind seen left at (a ++ b))
      → Clear (view kind seen left at a) × Clear (view kind seen left (at + length a) b)
  unfolding unbroken view each
  seam_clear =
      avps_induction (λ at a l. unbroken l ≡ true → (left : ℕ) (b : List ℕ) → Clear (view kind seen left at (a ++ b)) → Clear (each (view_avp kind seen left) l) × Clear (view kind seen left (at + length a) b))
      (λ at q left b c. (clear-nothing, rw add-zero c))
      (λ at s e ih q left b c.
      let c' = rw (view_front left at s b e) at c in
      let r = ih q left b (clear-rest _ _ c') in
      let l : at + padded (length_of s) + length (after s) ≡ at + length s = let k = length-after s e in omega arith in
      (clear_then _ _ (clear-placed left at (at + length (s ++ b)) s (clear_first _ _ c')) r.0, rw l at r.1))
      (λ at s h e q. absurd (false≢true q))

  pub clear_at : (left at at' : ℕ) (s : List ℕ) → Clear (view kind seen left at s) → Clear (view kind seen left at' s)
  clear_at left at at' s c = clear_any_place _ _ (view_placeless kind seen left at at' s) c

  -- the AVPs before a seam, and those behind it
  pub before_seam : (left at : ℕ) (a b : List ℕ) → unbroken (avps 0 a) ≡ true → Clear (view kind seen left at (a ++ b)) → Widened kind seen a a none
  before_seam left at a b u c = widened_refl left 0 a (seam_clear 0 a u left b (clear_at left at 0 (a ++ b) c)).0

  pub behind_seam : (left at : ℕ) (a b : List ℕ) → unbroken (avps 0 a) ≡ true → Clear (view kind seen left at (a ++ b)) → Clear (view kind seen left (length a) b)
  behind_seam left at a b u c = clear_at left (0 + length a) (length a) b (seam_clear 0 a u left b (clear_at left at 0 (a ++ b) c)).1

  -- ---- one AVP more

  -- at a seam
  pub widened_insert : (left at : ℕ) (a y b : List ℕ) → unbroken (avps 0 a) ≡ true → Clear (view kind seen left at (a ++ b)) → OneAvp y → kind_at kind seen y ≡ Unknown
      → Widened kind seen (a ++ b) (a ++ (y ++ b)) (if_mandatory (avp_of y))
  widened_insert left at a y b u c o k =
      rw (← or_else-right (if_mandatory (avp_of y)))
      (widened_append (before_seam left at a b u c) (add y o k (widened_refl left (length a) b (behind_seam left at a b u c))))

  -- a widening of an entered group's data is a widening of the stretch around the group
  pub widened_inside : (left at : ℕ) (a x z b : List ℕ) (i : Option Avp) → unbroken (avps 0 a) ≡ true → Clear (view kind seen left at (a ++ (x ++ b)))
      → OneAvp x → OneAvp z → SameKey x z → kind_at kind seen x ≡ Group → Widened kind seen (body_of x) (body_of z) i
      → Widened kind seen (a ++ (x ++ b)) (a ++ (z ++ b)) i
  widened_inside left at a x z b i u c ox oz k g w =
      let d = rw (view-one kind seen left (length a) b ox) at (behind_seam left at a (x ++ b) u c) in
      rw (← or_else-right i)
      (widened_append (before_seam left at a (x ++ b) u c) (enter {i = i} {m = none} x z ox oz k g w (widened_refl left (length a + length x) b (clear-rest _ _ d))))

  -- what a clear group holds is clear
  pub inside-clear : (left at to : ℕ) (x : List ℕ) → kind_at kind seen x ≡ Group → Clear (view_avp kind seen left (standing (avp_of x) at to))
      → (P : Type 0) → ((l b : ℕ) → Clear (view kind seen l b (body_of x)) → P) → P
  unfolding avp_of group
  inside-clear zero at to x g c P f = absurd (faulty-is 5004 _ (rw (view_deep kind seen (standing (avp_of x) at to) g) at c.fault))
  inside-clear (suc left) at to x g c P f =
      let d = rw (view-group kind seen left (standing (avp_of x) at to) g) at c in
      f left (at + head_size (flags_of x)) (record { fault = d.fault; unsupported = d.unsupported })

  -- at any seam, at any depth, with M or without
  pub widened_anywhere : {y s t : List ℕ} → Inserted kind y s t → OneAvp y → kind_at kind seen y ≡ Unknown → (left at : ℕ) → Clear (view kind seen left at s)
      → Widened kind seen s t (if_mandatory (avp_of y))
  widened_anywhere {y} (here a b u) o k left at c = widened_insert left at a y b u c o k
  widened_anywhere {y} (within a x z b u ox oz e g n) o k left at c =
      let d = rw (view-one kind seen left (length a) b ox) at (behind_seam left at a (x ++ b) u c) in
      inside-clear left (length a) (length a + length (x ++ b)) x g (clear_first _ _ d) (Widened kind seen (a ++ (x ++ b)) (a ++ (z ++ b)) (if_mandatory (avp_of y)))
      (λ l p q. widened_inside left at a x z b (if_mandatory (avp_of y)) u c ox oz e g (widened_anywhere n o k l p q))

  -- a clear AVP that is not entered has a size that its type allows
  known-sized : (left at to : ℕ) (x : List ℕ) → kind_at kind seen x ≢ Group → kind_at kind seen x ≢ Unknown → Clear (view_avp kind seen left (standing (avp_of x) at to))
      → size_right (kind_at kind seen x) (length (body_of x)) ≡ true
  unfolding avp_of
  known-sized left at to x g u c = sized-right _ _ _ (rw (view_known kind seen left (standing (avp_of x) at to) g u) at c.fault)

  -- ---- an AVP of the same key and data, its flags and padding aside

  unmandatory : (y : List ℕ) → has_m (flags_of y) ≡ false → if_mandatory (avp_of y) ≡ none
  unfolding if_mandatory avp_of
  unmandatory y e = rw e

  pub widened_alike : (x y : List ℕ) → OneAvp x → OneAvp y → SameKey x y → body_of y ≡ body_of x → (kind_at kind seen x ≡ Unknown → has_m (flags_of y) ≡ false)
      → (left at : ℕ) (s : List ℕ) → Clear (view kind seen left at (x ++ s)) → (t : List ℕ) (m : Option Avp) → Widened kind seen s t m → Widened kind seen (x ++ s) (y ++ t) m
  widened_alike x y o p key same u left at s c t m w = by_sort (sort_of (kind_at kind seen x))
    where
      d : Clear (view_avp kind seen left (standing (avp_of x) at (at + length (x ++ s))))
      d = clear_first _ _ (rw (view-one kind seen left at s o) at c)

      by_sort : Sort (kind_at kind seen x) → Widened kind seen (x ++ s) (y ++ t) m
      by_sort (entered k) =
          inside-clear left at (at + length (x ++ s)) x k d (Widened kind seen (x ++ s) (y ++ t) m)
          (λ l b q. enter {i = none} {m = m} x y o p key k (rw same (widened_refl l b (body_of x) q)) w)
      by_sort (passed_by k) =
          let h : kind_at kind seen y ≡ Unknown = rw (key.vendor, key.code) k in
          let q = lose x o k (add y p h w) in
          rw (unmandatory y (u k)) at q
      by_sort (taken k l) = keep x y o p key k l (rw same (known-sized left at (at + length (x ++ s)) x k l d)) (rw same) w

-- ---- the flag octet

-- an AVP with another flag octet that says the same of V
module _ {x : List ℕ} (o : OneAvp x) (flags : ℕ) (v : has_v flags ≡ has_v (flags_of x)) where
  flags-set : flags_of (with_flags flags x) ≡ flags
  unfolding with_flags
  flags-set = let l = one-least o in get_or-set_same x 4 flags 0 (omega arith)

  other_byte : (k : ℕ) → k ≢ 4 → get_or (with_flags flags x) k 0 ≡ get_or x k 0
  unfolding with_flags
  other_byte k h = get_or-set_other x 4 k flags 0 h

  number_kept : (n at : ℕ) → ((i : ℕ) → i < n → at + i ≢ 4) → num_at n (with_flags flags x) at ≡ num_at n x at
  number_kept n at h = num_at_agree n at at (with_flags flags x) x (λ i l. other_byte (at + i) (h i l))

  length_kept : length_of (with_flags flags x) ≡ length_of x
  length_kept = number_kept 3 5 (λ i l. omega arith)

  vendor_kept : vendor_of (with_flags flags x) ≡ vendor_of x
  unfolding vendor_of
  vendor_kept = rw (flags-set, v, number_kept 4 8 (λ i l. omega arith))

  key_kept : SameKey x (with_flags flags x)
  key_kept = record { vendor = vendor_kept; code = number_kept 4 0 (λ i l. omega arith) }

  head_kept : head_size (flags_of (with_flags flags x)) ≡ head_size (flags_of x)
  unfolding head_size
  head_kept = rw (flags-set, v)

  body_kept : body_of (with_flags flags x) ≡ body_of x
  unfolding body_of with_flags
  body_kept =
      let l = head_size-least (flags_of x) in
      rw (head_kept, length_kept) (ap (take (length_of x - head_size (flags_of x))) (drop-set-lt (head_size (flags_of x)) x 4 flags (omega arith)))

  one_kept : OneAvp (with_flags flags x)
  unfolding with_flags
  one_kept = record { long = rw (head_kept, length_kept) o.long; exact = length-set x 4 flags ∙ o.exact ∙ ap padded (sym length_kept) }

  module _ (kind : ℕ → ℕ → Kind) (seen : ℕ → ℕ → List ℕ → List ℕ) where
    -- Of a known AVP every flag but V is free, and of an unknown one every flag but V and M.
    pub flags_free : (kind_at kind seen x ≡ Unknown → has_m flags ≡ false) → (left at : ℕ) (s : List ℕ) → Clear (view kind seen left at (x ++ s))
        → (t : List ℕ) (m : Option Avp) → Widened kind seen s t m → Widened kind seen (x ++ s) (with_flags flags x ++ t) m
    flags_free u = widened_alike kind seen x (with_flags flags x) o one_kept key_kept body_kept (λ k. rw flags-set (u k))

-- an unknown AVP in a clear view has no M
unknown-clear : (kind : ℕ → ℕ → Kind) (seen : ℕ → ℕ → List ℕ → List ℕ) (left at to : ℕ) (x : List ℕ) → kind_at kind seen x ≡ Unknown
    → Clear (view_avp kind seen left (standing (avp_of x) at to)) → has_m (flags_of x) ≡ false
unfolding avp_of unknown
unknown-clear kind seen left at to x k c = go (has_m (flags_of x)) (rw (view-unknown kind seen left (standing (avp_of x) at to) k) at c.unsupported)
  where
    go : (b : Bool) → cond b (some (standing (avp_of x) at to)) none ≡ none → b ≡ false
    go true e = let z : ◌≡◌ {A = ℕ} 0 1 = cc in absurd (omega arith)
    go false e = refl

-- Each flag bit but V may be flipped, M (bit 6) of known AVPs alone.
pub flag_flips : (kind : ℕ → ℕ → Kind) (seen : ℕ → ℕ → List ℕ → List ℕ) (k : ℕ) → k < 7 → {x : List ℕ} → OneAvp x → (kind_at kind seen x ≡ Unknown → k < 6)
    → (left at : ℕ) (s : List ℕ) → Clear (view kind seen left at (x ++ s)) → (t : List ℕ) (m : Option Avp) → Widened kind seen s t m
    → Widened kind seen (x ++ s) (with_flags (flipped k (flags_of x)) x ++ t) m
flag_flips kind seen k h {x} o u left at s c t m w =
    let d = clear_first _ _ (rw (view-one kind seen left at s o) at c) in
    flags_free o (flipped k (flags_of x)) (has_v-flipped k (flags_of x) h) kind seen
    (λ q. has_m-flipped k (flags_of x) (u q) ∙ unknown-clear kind seen left at (at + length (x ++ s)) x q d) left at s c t m w

-- ---- padding and data that is not seen

-- what stands behind the length of an AVP is free
module _ {x y : List ℕ} (o : OneAvp x) (p : OneAvp y) (a : (k : ℕ) → k < length_of x → get_or y k 0 ≡ get_or x k 0) where
  head_same : SameHead y x
  head_same = let l = o.long in head_agree y x (λ k h. a k (omega arith))

  body_same : body_of y ≡ body_of x
  unfolding body_of
  body_same =
      let h = head_same in
      let l : length y ≡ length x = p.exact ∙ ap padded h.size ∙ sym o.exact in
      rw (h.flags, h.size) (part_same (head_size (flags_of x)) (length_of x - head_size (flags_of x)) y x l (λ j i k. a j (omega arith)))

  module _ (kind : ℕ → ℕ → Kind) (seen : ℕ → ℕ → List ℕ → List ℕ) where
    pub padding_free : (left at : ℕ) (s : List ℕ) → Clear (view kind seen left at (x ++ s)) → (t : List ℕ) (m : Option Avp) → Widened kind seen s t m
        → Widened kind seen (x ++ s) (y ++ t) m
    padding_free left at s c =
        let h = head_same in
        let d = clear_first _ _ (rw (view-one kind seen left at s o) at c) in
        widened_alike kind seen x y o p (record { vendor = h.vendor; code = h.code }) body_same
        (λ k. rw h.flags (unknown-clear kind seen left at (at + length (x ++ s)) x k d)) left at s c

-- data that the command does not see, of a size that the type allows
pub data_free : (kind : ℕ → ℕ → Kind) (seen : ℕ → ℕ → List ℕ → List ℕ) {x : List ℕ} (o : OneAvp x) → Bytes x → kind_at kind seen x ≢ Group → kind_at kind seen x ≢ Unknown
    → (d : List ℕ) → head_size (flags_of x) + length d < 256 ^ 3 → size_right (kind_at kind seen x) (length d) ≡ true
    → seen (vendor_of x) (code_of x) d ≡ seen (vendor_of x) (code_of x) (body_of x)
    → {s t : List ℕ} {m : Option Avp} → Widened kind seen s t m → Widened kind seen (x ++ s) (as_received (mended (avp_of x) d) ++ t) m
data_free kind seen {x} o b g u d h z e w =
    let f = one-framed o in
    keep x (as_received (mended (avp_of x) d)) o (one-mended x b f d h) (key-mended x b f d h) g u (rw (body-mended x b f d h) z) (rw (body-mended x b f d h) e) w

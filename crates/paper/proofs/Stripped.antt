-- A stretch without its unknown AVPs: it is no longer, and the stretch is a widening of it.
-- Assumes nothing.
use mathlib.Core.Path.{◌≡◌, refl, ap, ◌∙◌}
use mathlib.Core.Logic.{◌≢◌}
use mathlib.Core.Bool.{true}
use mathlib.Core.Option.{none}
use mathlib.Core.List.{List, [], ◌++◌}
use Prim.Native.Nat.{ℕ, zero, suc, ◌+◌, ◌≤◌}
use native.Mathlib.Omega.{arith}
use lib.ListN.{length, length-append}
use Rattle.wire.specs.Number.{Bytes}
use Rattle.dictionary.specs.Kinds.{size_right}
use Rattle.dictionary.specs.declared.Kind.{Kind}
use Rattle.dictionary.specs.declared.Kind.TheVariants.{Four, Eight, Any, Group, Closed, Unknown}
use Rattle.paper.specs.Avp.{Avp, head_size, padded, code_of, flags_of, length_of, vendor_of, framed, body_of, after, avp_of, size_of, as_received, Writable}
use Rattle.paper.specs.Reader.{Placed, Avps, whole, broken, more, placed, stump, avps, sizes, written_all, View, ◌then◌, bare, single, sized, group, each, view_avp, view}
use Rattle.paper.specs.Widened.{OneAvp, Widened, mended, left_of, stripped_avp, stripped, Clear, shown_of}
use Rattle.paper.proofs.AvpsLaws.{avps_empty, avps-more, avps-broken, avps_induction, sizes-most}
use Rattle.paper.proofs.ViewLaws.{or_else_none, view_deep, view-group, view_known, view-one}
use Rattle.paper.proofs.PlaceLaws.{standing}
use Rattle.paper.proofs.WidenedView.{clear-nothing, clear_then}
use Rattle.paper.proofs.WrittenLaws.{length_as_received, mended_writable, one_written, read_as_received, read_writable, bytes_after, bytes-body}
use Rattle.paper.proofs.Narrow.{Sort, entered, passed_by, taken, sort_of, group-known, Narrow, narrow_widens, faulty-is, sized-right}

-- ---- a stretch is a widening of what is left without its unknown AVPs

padded_mono : (m n : ℕ) → m ≤ n → padded m ≤ padded n
unfolding padded
padded_mono m n h = omega arith

-- the data of what is left of an AVP
kept_body : Kind → List ℕ → Avp → List ℕ
kept_body Group inside a = inside
kept_body Unknown inside a = a.body
kept_body Four inside a = a.body
kept_body Eight inside a = a.body
kept_body Any inside a = a.body
kept_body Closed inside a = a.body

left-mended : (k : Kind) (inside : List ℕ) (a : Avp) → k ≢ Unknown → left_of k inside a ≡ as_received (mended a (kept_body k inside a))
unfolding left_of mended kept_body
left-mended Group inside a u = refl
left-mended Unknown inside a u = absurd (u refl)
left-mended Four inside a u = refl
left-mended Eight inside a u = refl
left-mended Any inside a u = refl
left-mended Closed inside a u = refl

kept_taken : (k : Kind) (inside : List ℕ) (a : Avp) → k ≢ Group → kept_body k inside a ≡ a.body
unfolding kept_body
kept_taken Group inside a g = absurd (g refl)
kept_taken Unknown inside a g = refl
kept_taken Four inside a g = refl
kept_taken Eight inside a g = refl
kept_taken Any inside a g = refl
kept_taken Closed inside a g = refl

kept_shorter : (k : Kind) (inside : List ℕ) (a : Avp) → length inside ≤ length a.body → length (kept_body k inside a) ≤ length a.body
unfolding kept_body
kept_shorter k inside a h = by_sort (sort_of k)
  where
    by_sort : Sort k → length (kept_body k inside a) ≤ length a.body
    by_sort (entered e) = rw e h
    by_sort (passed_by e) = rw (kept_taken k inside a (λ g. group-known k g e)) (omega arith)
    by_sort (taken g u) = rw (kept_taken k inside a g) (omega arith)

left_shorter : (k : Kind) (inside : List ℕ) (a : Avp) → length inside ≤ length a.body → length (left_of k inside a) ≤ size_of a
unfolding left_of size_of mended
left_shorter k inside a h = by_sort (sort_of k)
  where
    kept : k ≢ Unknown → length (left_of k inside a) ≤ size_of a
    kept u =
        let s = kept_shorter k inside a h in
        rw (left-mended k inside a u, length_as_received) (padded_mono (head_size a.flags + length (kept_body k inside a)) (head_size a.flags + length a.body) (omega arith))

    by_sort : Sort k → length (left_of k inside a) ≤ size_of a
    by_sort (entered e) = kept (group-known k e)
    by_sort (passed_by e) = rw e (omega arith)
    by_sort (taken g u) = kept u

written_shorter : (write : Avp → List ℕ) → ((a : Avp) → length (write a) ≤ size_of a) → (l : Avps) → length (written_all write l) ≤ sizes l
unfolding written_all sizes
written_shorter write h whole = omega arith
written_shorter write h (broken p) = omega arith
written_shorter write h (more p rest) = let a = h p.avp in let b = written_shorter write h rest in rw length-append (omega arith)

written_placeless : (write : Avp → List ℕ) (at at' : ℕ) (s : List ℕ) → written_all write (avps at s) ≡ written_all write (avps at' s)
unfolding written_all placed
written_placeless write at at' s =
    avps_induction (λ a x l. (a' : ℕ) → written_all write l ≡ written_all write (avps a' x)) (λ a a'. rw (avps_empty a'))
    (λ a x e ih a'. rw (avps-more a' x e, ih (a' + padded (length_of x)))) (λ a x l e a'. rw (avps-broken a' x l e)) at s at'

module _ (kind : ℕ → ℕ → Kind) where
  strip_shorter : (left : ℕ) (a : Avp) → length (stripped_avp kind left a) ≤ size_of a
  unfolding stripped_avp
  strip_shorter zero a = left_shorter (kind a.vendor a.code) [] a (omega arith)
  strip_shorter (suc left) a =
      let h = written_shorter (stripped_avp kind left) (strip_shorter left) (avps 0 a.body) in
      let m = sizes-most 0 a.body in
      left_shorter (kind a.vendor a.code) (written_all (stripped_avp kind left) (avps 0 a.body)) a (omega arith)

  pub stripped_shorter : (left : ℕ) (s : List ℕ) → length (stripped kind left s) ≤ length s
  unfolding stripped
  stripped_shorter left s = let h = written_shorter (stripped_avp kind left) (strip_shorter left) (avps 0 s) in let m = sizes-most 0 s in omega arith

  -- what is left inside an AVP
  inner : ℕ → Avp → List ℕ
  inner zero a = []
  inner (suc left) a = stripped kind left a.body

  strip_left : (left : ℕ) (a : Avp) → stripped_avp kind left a ≡ left_of (kind a.vendor a.code) (inner left a) a
  unfolding stripped_avp stripped inner
  strip_left zero a = refl
  strip_left (suc left) a = refl

  inner_shorter : (left : ℕ) (a : Avp) → length (inner left a) ≤ length a.body
  unfolding inner
  inner_shorter zero a = omega arith
  inner_shorter (suc left) a = stripped_shorter left a.body

  module _ (left : ℕ) (s : List ℕ) (b : Bytes s) (f : framed s ≡ true) (u : kind (vendor_of s) (code_of s) ≢ Unknown) where
    data_left : List ℕ
    data_left = kept_body (kind (vendor_of s) (code_of s)) (inner left (avp_of s)) (avp_of s)

    strip_mended : stripped_avp kind left (avp_of s) ≡ as_received (mended (avp_of s) data_left)
    unfolding avp_of data_left
    strip_mended = strip_left left (avp_of s) ∙ left-mended (kind (vendor_of s) (code_of s)) (inner left (avp_of s)) (avp_of s) u

    left_writable : Writable (mended (avp_of s) data_left)
    unfolding avp_of data_left
    left_writable =
        let w = read_writable s b f in
        let k = kept_shorter (kind (vendor_of s) (code_of s)) (inner left (avp_of s)) (avp_of s) (inner_shorter left (avp_of s)) in
        let h = w.fits in
        mended_writable (avp_of s) data_left w (omega arith)

    strip_one : OneAvp (stripped_avp kind left (avp_of s))
    strip_one = rw strip_mended (one_written (mended (avp_of s) data_left) left_writable)

    strip_read : avp_of (stripped_avp kind left (avp_of s)) ≡ mended (avp_of s) data_left
    strip_read = rw strip_mended (read_as_received (mended (avp_of s) data_left) left_writable)

    strip_vendor : vendor_of (stripped_avp kind left (avp_of s)) ≡ vendor_of s
    unfolding avp_of mended
    strip_vendor = ap (λ (a : Avp). a.vendor) strip_read

    strip_code : code_of (stripped_avp kind left (avp_of s)) ≡ code_of s
    unfolding avp_of mended
    strip_code = ap (λ (a : Avp). a.code) strip_read

    strip_body : body_of (stripped_avp kind left (avp_of s)) ≡ data_left
    unfolding avp_of mended
    strip_body = ap (λ (a : Avp). a.body) strip_read

  strip_step : (left : ℕ) (s : List ℕ) → framed s ≡ true → stripped kind left s ≡ stripped_avp kind left (avp_of s) ++ stripped kind left (after s)
  unfolding stripped written_all placed
  strip_step left s f = ap (written_all (stripped_avp kind left)) (avps-more 0 s f) ∙ rw (written_placeless (stripped_avp kind left) (0 + padded (length_of s)) 0 (after s))

  strip_taken : (left : ℕ) (s : List ℕ) → Bytes s → framed s ≡ true → kind (vendor_of s) (code_of s) ≢ Group → kind (vendor_of s) (code_of s) ≢ Unknown
      → body_of (stripped_avp kind left (avp_of s)) ≡ body_of s
  unfolding data_left avp_of
  strip_taken left s b f g u = strip_body left s b f u ∙ kept_taken (kind (vendor_of s) (code_of s)) (inner left (avp_of s)) (avp_of s) g

  strip_entered : (left : ℕ) (s : List ℕ) → Bytes s → framed s ≡ true → kind (vendor_of s) (code_of s) ≡ Group
      → body_of (stripped_avp kind (suc left) (avp_of s)) ≡ stripped kind left (body_of s)
  unfolding data_left avp_of kept_body inner
  strip_entered left s b f g =
      let u = group-known (kind (vendor_of s) (code_of s)) g in
      strip_body (suc left) s b f u ∙ rw g

  strip_unknown : (left : ℕ) (s : List ℕ) → kind (vendor_of s) (code_of s) ≡ Unknown → stripped_avp kind left (avp_of s) ≡ []
  unfolding avp_of left_of
  strip_unknown left s u = strip_left left (avp_of s) ∙ rw u

  strip_empty : (left : ℕ) → stripped kind left [] ≡ []
  unfolding stripped written_all
  strip_empty left = rw (avps_empty 0)

  module _ (seen : ℕ → ℕ → List ℕ → List ℕ) where
    without_unknown : Narrow kind seen Bytes (stripped kind) (λ left s. stripped_avp kind left (avp_of s))
    without_unknown =
        record {
          good_after = bytes_after;
          good_body = bytes-body;
          empty = strip_empty;
          step = strip_step;
          one = strip_one;
          vendor = strip_vendor;
          code = strip_code;
          taken = strip_taken;
          entered = strip_entered;
          passed_by = λ left s r m f u w. rw (strip_unknown left s u) w;
        }

    -- Every stretch in which the visit finds no fault is a widening of itself without its unknown AVPs.
    pub widened_stripped : (left at : ℕ) (s : List ℕ) → Bytes s → (view kind seen left at s).fault ≡ none
        → Widened kind seen (stripped kind left s) s (shown_of (view kind seen left at s).unsupported)
    widened_stripped left at s b e = narrow_widens kind seen without_unknown left at s b e

    -- ---- the stretch that is left has nothing to refuse

    -- an AVP that is left, where what is left behind it is clear
    abbrev LeftClear : ℕ → Type 0
    LeftClear left =
        (at : ℕ) (s : List ℕ) → Bytes s → framed s ≡ true → (view_avp kind seen left (placed at s)).fault ≡ none → (at' : ℕ) (r : List ℕ)
        → ((b : ℕ) → Clear (view kind seen left b r)) → Clear (view kind seen left at' (stripped_avp kind left (avp_of s) ++ r))

    list-clear : (left : ℕ) → LeftClear left → (at : ℕ) (s : List ℕ) → Bytes s → (view kind seen left at s).fault ≡ none → (at' : ℕ) → Clear (view kind seen left at' (stripped kind left s))
    unfolding view each ◌then◌
    list-clear left one =
        avps_induction (λ at s l. Bytes s → (each (view_avp kind seen left) l).fault ≡ none → (at' : ℕ) → Clear (view kind seen left at' (stripped kind left s)))
        (λ at b e at'. rw (strip_empty left, avps_empty at') clear-nothing)
        (λ at s f ih b e at'.
        let u = or_else_none (view_avp kind seen left (placed at s)).fault _ e in
        rw (strip_step left s f) (one at s b f u.0 at' (stripped kind left (after s)) (ih (bytes_after s b) u.1)))
        (λ at s h f b e. absurd (faulty-is 5014 (stump at s) e))

    sized-clear : (k : Kind) (x : List ℕ) (p : Placed) → size_right k (length p.avp.body) ≡ true → Clear (sized k x p)
    unfolding sized single
    sized-clear k x p e = rw e (record { fault = refl; unsupported = refl })

    group-clear : (v : View) (p : Placed) → Clear v → Clear (group v p)
    unfolding group
    group-clear v p c = record { fault = c.fault; unsupported = c.unsupported }

    too_deep : (at : ℕ) (s : List ℕ) → kind (vendor_of s) (code_of s) ≡ Group → (view_avp kind seen zero (placed at s)).fault ≡ none → ⊥
    unfolding placed avp_of
    too_deep at s g e = faulty-is 5004 (bare (placed at s)) (rw (view_deep kind seen (placed at s) g) at e)

    leaf-clear : (left : ℕ) (at : ℕ) (s : List ℕ) → kind (vendor_of s) (code_of s) ≢ Group → kind (vendor_of s) (code_of s) ≢ Unknown
        → Bytes s → framed s ≡ true → (view_avp kind seen left (placed at s)).fault ≡ none → (at' to' : ℕ)
        → Clear (view_avp kind seen left (standing (avp_of (stripped_avp kind left (avp_of s))) at' to'))
    unfolding placed avp_of
    leaf-clear left at s g u b f e at' to' =
        let x : List ℕ = stripped_avp kind left (avp_of s) in
        let ev = strip_vendor left s b f u in
        let ec = strip_code left s b f u in
        let z = sized-right (kind (vendor_of s) (code_of s)) _ (placed at s) (rw (view_known kind seen left (placed at s) g u) at e) in
        rw (view_known kind seen left (standing (avp_of x) at' to') (rw (ev, ec) g) (rw (ev, ec) u))
        (sized-clear (kind (vendor_of x) (code_of x)) _ (standing (avp_of x) at' to') (rw (ev, ec, strip_taken left s b f g u) z))

    inner_clear : (left : ℕ) → LeftClear left → (at : ℕ) (s : List ℕ) → kind (vendor_of s) (code_of s) ≡ Group
        → Bytes s → framed s ≡ true → (view_avp kind seen (suc left) (placed at s)).fault ≡ none → (at' to' : ℕ)
        → Clear (view_avp kind seen (suc left) (standing (avp_of (stripped_avp kind (suc left) (avp_of s))) at' to'))
    unfolding placed avp_of group
    inner_clear left ih at s g b f e at' to' =
        let x : List ℕ = stripped_avp kind (suc left) (avp_of s) in
        let u = group-known (kind (vendor_of s) (code_of s)) g in
        let ev = strip_vendor (suc left) s b f u in
        let ec = strip_code (suc left) s b f u in
        let h : (view kind seen left (at + head_size (flags_of s)) (body_of s)).fault ≡ none = rw (view-group kind seen left (placed at s) g) at e in
        rw (view-group kind seen left (standing (avp_of x) at' to') (rw (ev, ec) g))
        (group-clear _ (standing (avp_of x) at' to') (rw (strip_entered left s b f g) (list-clear left ih (at + head_size (flags_of s)) (body_of s) (bytes-body s b) h (at' + head_size (flags_of x)))))

    -- an AVP that is clear wherever it stands, in front of a clear stretch
    put_in_front : (left at' : ℕ) (x r : List ℕ) → OneAvp x → ((a b : ℕ) → Clear (view_avp kind seen left (standing (avp_of x) a b)))
        → ((b : ℕ) → Clear (view kind seen left b r)) → Clear (view kind seen left at' (x ++ r))
    put_in_front left at' x r o c d = rw (view-one kind seen left at' r o) (clear_then _ _ (c at' (at' + length (x ++ r))) (d (at' + length x)))

    avp-clear : (left : ℕ) → LeftClear left
    avp-clear zero at s b f e at' r d = by_sort (sort_of (kind (vendor_of s) (code_of s)))
      where
        by_sort : Sort (kind (vendor_of s) (code_of s)) → Clear (view kind seen zero at' (stripped_avp kind zero (avp_of s) ++ r))
        by_sort (entered k) = absurd (too_deep at s k e)
        by_sort (passed_by k) = rw (strip_unknown zero s k) (d at')
        by_sort (taken k l) = put_in_front zero at' (stripped_avp kind zero (avp_of s)) r (strip_one zero s b f l) (leaf-clear zero at s k l b f e) d
    avp-clear (suc left) at s b f e at' r d = by_sort (sort_of (kind (vendor_of s) (code_of s))) (avp-clear left)
      where
        by_sort : Sort (kind (vendor_of s) (code_of s)) → LeftClear left → Clear (view kind seen (suc left) at' (stripped_avp kind (suc left) (avp_of s) ++ r))
        by_sort (entered k) ih =
            let u = group-known (kind (vendor_of s) (code_of s)) k in
            put_in_front (suc left) at' (stripped_avp kind (suc left) (avp_of s)) r (strip_one (suc left) s b f u) (inner_clear left ih at s k b f e) d
        by_sort (passed_by k) ih = rw (strip_unknown (suc left) s k) (d at')
        by_sort (taken k l) ih = put_in_front (suc left) at' (stripped_avp kind (suc left) (avp_of s)) r (strip_one (suc left) s b f l) (leaf-clear (suc left) at s k l b f e) d

    -- without its unknown AVPs a stretch that has no fault has nothing to refuse
    pub stripped-clear : (left at at' : ℕ) (s : List ℕ) → Bytes s → (view kind seen left at s).fault ≡ none → Clear (view kind seen left at' (stripped kind left s))
    stripped-clear left at at' s b e = list-clear left (avp-clear left) at s b e at'

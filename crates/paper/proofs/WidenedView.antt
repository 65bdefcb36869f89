-- Demand 3 over a stretch of AVPs: what a newer node adds or changes leaves the view, but for the first added AVP that has M.
-- Over any dictionary and any command. Assumes nothing.
use mathlib.Core.Path.{◌≡◌, refl, sym, ◌∙◌}
use mathlib.Core.Logic.{◌≢◌}
use mathlib.Core.Bool.{Bool, true, false, cond}
use mathlib.Core.Option.{Option, none, some}
use mathlib.Core.List.{List, ◌++◌}
use Prim.Native.Nat.{ℕ, zero, suc, ◌+◌}
use native.Mathlib.Omega.{arith}
use lib.ListN.{length}
use Rattle.dictionary.specs.Kinds.{size_right}
use Rattle.dictionary.specs.declared.Kind.{Kind}
use Rattle.dictionary.specs.declared.Kind.TheVariants.{Group, Unknown}
use Rattle.paper.specs.Avp.{Avp, has_m, code_of, vendor_of, body_of, avp_of}
use Rattle.paper.specs.Reader.{Placed, end, View, or_else, beside, ◌then◌, nothing, faulty, unknown, body_at, single, sized, group, kind_of, view_avp, view}
use Rattle.paper.specs.Widened.{OneAvp, SameKey, if_mandatory, kind_at, Widened, done, keep, enter, add, lose, Clear, Keeps}
use Rattle.paper.proofs.ViewLaws.{or_else_none, view_empty, view-one, view-unknown, view_deep, view-group, view_known}
use Rattle.paper.proofs.PlaceLaws.{standing, shown-or_else, shown_none}

-- ---- views in a row

pub clear-nothing : Clear nothing
unfolding nothing
clear-nothing = record { fault = refl; unsupported = refl }

pub clear_first : (v w : View) → Clear (v then w) → Clear v
unfolding ◌then◌
clear_first v w c = record { fault = (or_else_none v.fault w.fault c.fault).0; unsupported = (or_else_none v.unsupported w.unsupported c.unsupported).0 }

pub clear_then : (v w : View) → Clear v → Clear w → Clear (v then w)
unfolding ◌then◌
clear_then v w c d = record { fault = rw c.fault d.fault; unsupported = rw c.unsupported d.unsupported }

pub clear-rest : (v w : View) → Clear (v then w) → Clear w
unfolding ◌then◌
clear-rest v w c = record { fault = (or_else_none v.fault w.fault c.fault).1; unsupported = (or_else_none v.unsupported w.unsupported c.unsupported).1 }

keeps_then : {v v' w w' : View} {i m : Option Avp} → Keeps v v' i → Keeps w w' m → Keeps (v then w) (v' then w') (or_else i m)
unfolding ◌then◌
keeps_then {v} {v'} {w} {w'} {i} {m} p q =
    record {
      fault = rw p.fault q.fault;
      unsupported = shown-or_else v'.unsupported w'.unsupported ∙ rw (p.unsupported, q.unsupported);
      known = rw (p.known, q.known);
    }

-- ---- one AVP kept, entered, added, lost

passed : (b : Bool) (v : View) (code : ℕ) (p : Placed) → Clear (cond b v (faulty code p)) → b ≡ true
unfolding faulty
passed true v code p c = refl
passed false v code p c = let e = c.fault in let z : ◌≡◌ {A = ℕ} 0 1 = cc in absurd (omega arith)

-- a known AVP that is not entered: its key, a size that its type allows and what is seen of it are all that counts
sized-keeps : (k : Kind) (x y : List ℕ) (p q : Placed) → q.avp.vendor ≡ p.avp.vendor → q.avp.code ≡ p.avp.code → y ≡ x
    → size_right k (length q.avp.body) ≡ true → Clear (sized k x p) → Keeps (sized k x p) (sized k y q) none
unfolding sized single
sized-keeps k x y p q ev ec ex e c =
    let f = passed (size_right k (length p.avp.body)) _ _ _ c in
    rw (e, f) (record { fault = refl; unsupported = refl; known = rw (ev, ec, ex) })

group-keeps : (v w : View) (i : Option Avp) (p q : Placed) → q.avp.vendor ≡ p.avp.vendor → q.avp.code ≡ p.avp.code
    → Keeps v w i → Keeps (group v p) (group w q) i
unfolding group
group-keeps v w i p q ev ec k = record { fault = k.fault; unsupported = k.unsupported; known = rw (ev, ec, k.known) }

-- what is not known of an AVP with M is that it is there
unknown_adds : (p : Placed) (v w : View) (m : Option Avp) → Keeps v w m → Keeps v (unknown p then w) (or_else (if_mandatory p.avp) m)
unfolding unknown ◌then◌ beside if_mandatory
unknown_adds p v w m k = go (has_m p.avp.flags)
  where
    go : (b : Bool) → Keeps v (record { fault = or_else none w.fault; unsupported = or_else (cond b (some p) none) w.unsupported; known = beside end w.known }) (or_else (cond b (some p.avp) none) m)
    go true = record { fault = k.fault; unsupported = refl; known = k.known }
    go false = record { fault = k.fault; unsupported = k.unsupported; known = k.known }

unknown_lost : (p : Placed) (v w : View) (m : Option Avp) → Keeps v w m → Keeps (unknown p then v) w m
unfolding unknown ◌then◌ beside
unknown_lost p v w m k = record { fault = k.fault; unsupported = k.unsupported; known = k.known }

nothing-keeps : Keeps nothing nothing none
unfolding nothing
nothing-keeps = record { fault = refl; unsupported = refl; known = refl }

not_deep : (p : Placed) → Clear (faulty 5004 p) → ⊥
unfolding faulty
not_deep p c = let e = c.fault in let z : ◌≡◌ {A = ℕ} 0 1 = cc in omega arith

-- ---- the theorem

module _ (kind : ℕ → ℕ → Kind) (seen : ℕ → ℕ → List ℕ → List ℕ) where
  -- an AVP whose key is the one given
  view_keyed : (left vendor code : ℕ) (p : Placed) → p.avp.vendor ≡ vendor → p.avp.code ≡ code → kind vendor code ≢ Group → kind vendor code ≢ Unknown
      → view_avp kind seen left p ≡ sized (kind vendor code) (seen vendor code p.avp.body) p
  view_keyed left vendor code p ev ec g u = view_known kind seen left p (rw (ev, ec) g) (rw (ev, ec) u) ∙ rw (ev, ec)

  avp-keeps : (left : ℕ) (x y : List ℕ) (at to at' to' : ℕ) → SameKey x y → kind_at kind seen x ≢ Group → kind_at kind seen x ≢ Unknown
      → size_right (kind_at kind seen x) (length (body_of y)) ≡ true → seen (vendor_of x) (code_of x) (body_of y) ≡ seen (vendor_of x) (code_of x) (body_of x)
      → Clear (view_avp kind seen left (standing (avp_of x) at to)) → Keeps (view_avp kind seen left (standing (avp_of x) at to)) (view_avp kind seen left (standing (avp_of y) at' to')) none
  unfolding avp_of
  avp-keeps left x y at to at' to' k g u z d c =
      let p = standing (avp_of x) at to in
      let q = standing (avp_of y) at' to' in
      let e = view_keyed left (vendor_of x) (code_of x) p refl refl g u in
      rw (e, view_keyed left (vendor_of x) (code_of x) q k.vendor k.code g u)
      (sized-keeps (kind_at kind seen x) (seen (vendor_of x) (code_of x) (body_of x)) (seen (vendor_of x) (code_of x) (body_of y)) p q k.vendor k.code d z (rw e at c))

  group_entered : (left : ℕ) (x y : List ℕ) (at to at' to' : ℕ) (i : Option Avp) → SameKey x y → kind_at kind seen x ≡ Group
      → ((l b b' : ℕ) → Clear (view kind seen l b (body_of x)) → Keeps (view kind seen l b (body_of x)) (view kind seen l b' (body_of y)) i)
      → Clear (view_avp kind seen left (standing (avp_of x) at to)) → Keeps (view_avp kind seen left (standing (avp_of x) at to)) (view_avp kind seen left (standing (avp_of y) at' to')) i
  unfolding avp_of group
  group_entered zero x y at to at' to' i k g ih c = absurd (not_deep _ (rw (view_deep kind seen (standing (avp_of x) at to) g) at c))
  group_entered (suc left) x y at to at' to' i k g ih c =
      let p = standing (avp_of x) at to in
      let q = standing (avp_of y) at' to' in
      let e = view-group kind seen left p g in
      let c' = rw e at c in
      let h : kind_of kind seen (avp_of y) ≡ Group = rw (k.vendor, k.code) g in
      rw (e, view-group kind seen left q h)
      (group-keeps (view kind seen left (body_at p) (body_of x)) (view kind seen left (body_at q) (body_of y)) i p q k.vendor k.code
      (ih left (body_at p) (body_at q) (record { fault = c'.fault; unsupported = c'.unsupported })))

  unknown_front : (left at : ℕ) (y t : List ℕ) → OneAvp y → kind_at kind seen y ≡ Unknown
      → view kind seen left at (y ++ t) ≡ unknown (standing (avp_of y) at (at + length (y ++ t))) then view kind seen left (at + length y) t
  unfolding avp_of
  unknown_front left at y t o u = view-one kind seen left at t o ∙ rw (view-unknown kind seen left (standing (avp_of y) at (at + length (y ++ t))) u)

  -- Unknown AVPs added or left out anywhere, and what is kept changed where no use is named: there is no fault, the first unknown AVP with M is the
  -- first added one with M, and the known AVPs are the same.
  pub widened_view : {s t : List ℕ} {m : Option Avp} → Widened kind seen s t m → (left at at' : ℕ)
      → Clear (view kind seen left at s) → Keeps (view kind seen left at s) (view kind seen left at' t) m
  widened_view done left at at' c = rw (view_empty kind seen left at, view_empty kind seen left at') nothing-keeps
  widened_view (keep {s = s} {t = t} x y ox oy k g u z d w) left at at' c =
      let e = view-one kind seen left at s ox in
      let c' = rw e at c in
      rw (e, view-one kind seen left at' t oy)
      (keeps_then (avp-keeps left x y at (at + length (x ++ s)) at' (at' + length (y ++ t)) k g u z d (clear_first _ _ c')) (widened_view w left (at + length x) (at' + length y) (clear-rest _ _ c')))
  widened_view (enter {s = s} {t = t} x y ox oy k g i w) left at at' c =
      let e = view-one kind seen left at s ox in
      let c' = rw e at c in
      rw (e, view-one kind seen left at' t oy)
      (keeps_then (group_entered left x y at (at + length (x ++ s)) at' (at' + length (y ++ t)) _ k g (λ l b b' h. widened_view i l b b' h) (clear_first _ _ c')) (widened_view w left (at + length x) (at' + length y) (clear-rest _ _ c')))
  widened_view (add {s = s} {t = t} y oy u w) left at at' c =
      rw (unknown_front left at' y t oy u)
      (unknown_adds (standing (avp_of y) at' (at' + length (y ++ t))) (view kind seen left at s) (view kind seen left (at' + length y) t) _ (widened_view w left at (at' + length y) c))
  widened_view (lose {s = s} {t = t} x ox u w) left at at' c =
      let e = unknown_front left at x s ox u in
      rw e (unknown_lost (standing (avp_of x) at (at + length (x ++ s))) (view kind seen left (at + length x) s) (view kind seen left at' t) _ (widened_view w left (at + length x) at' (clear-rest _ _ (rw e at c))))

  -- with no added AVP that has M, nothing that an answer may depend on has changed
  pub widened_same : {s t : List ℕ} → Widened kind seen s t none → (left at at' : ℕ) → Clear (view kind seen left at s) → view kind seen left at' t ≡ view kind seen left at s
  widened_same {s} {t} w left at at' c =
      let k = widened_view w left at at' c in
      let u = shown_none (view kind seen left at' t).unsupported k.unsupported in
      λ i. record { fault = (k.fault ∙ sym c.fault) i; unsupported = (u ∙ sym c.unsupported) i; known = k.known i }

-- Laws of the AVPs of a stretch: the equations of `avps` without its count; each AVP goes back to the bytes at its place; the law of sizes.
-- Assumes nothing.
use mathlib.Core.Path.{◌≡◌, refl, ap, ◌∙◌, subst}
use mathlib.Core.Bool.{Bool, true, false, cond, false≢true}
use mathlib.Core.Option.{Option, some}
use mathlib.Core.List.{List, [], ◌∷◌, ◌++◌}
use Prim.Native.Nat.{ℕ, zero, suc, ◌+◌, ◌-◌, ◌≤◌, ◌<◌}
use native.Mathlib.Omega.{arith}
use lib.ListN.{length, drop, length-drop}
use lib.Seq.{drop-drop}
use Rattle.dictionary.specs.Rows.{key_of}
use Rattle.paper.specs.Avp.{padded, length_of, framed, after, avp_of, bare_of, size_of}
use Rattle.paper.specs.Reader.{Placed, Avps, whole, broken, more, placed, stump, read_up_to, avps, unbroken, sizes}
use Rattle.paper.specs.Find.{has_key, first_of, member, first_second}
use Rattle.paper.specs.Widened.{OneAvp}
use Rattle.paper.proofs.AvpLaws.{framed-least, framed_takes, after_shorter, length-after, head_and-body, framed_at, head_append, framed-append, avp-append, after-append}

-- what holds of both arms, each under its test, holds of the choice
pub cond_cases : {A : Type 0} (P : A → Type 0) (b : Bool) {x y : A} → (b ≡ true → P x) → (b ≡ false → P y) → P (cond b x y)
cond_cases P true f g = f refl
cond_cases P false f g = g refl

-- ---- the count of `read_up_to` does not matter

-- what is read of a stretch whose AVPs behind the first are `rest`
abbrev read_with : ℕ → List ℕ → Avps → Avps
read_with at s rest = cond (framed s) (more (placed at s) rest) (broken (stump at s))

read_with_lem : (at : ℕ) (s : List ℕ) (l r : Avps) → (framed s ≡ true → l ≡ r) → read_with at s l ≡ read_with at s r
read_with_lem at s l r h = go (framed s) refl
  where
    go : (b : Bool) → framed s ≡ b → cond b (more (placed at s) l) (broken (stump at s)) ≡ cond b (more (placed at s) r) (broken (stump at s))
    go true e = ap (more (placed at s)) (h e)
    go false e = refl

enough : (n m at : ℕ) (s : List ℕ) → length s ≤ n → length s ≤ m → read_up_to n at s ≡ read_up_to m at s
unfolding read_up_to
enough zero zero at s h k = refl
enough zero (suc m) at [] h k = refl
enough zero (suc m) at (b ∷ s) h k = absurd (omega arith)
enough (suc n) zero at [] h k = refl
enough (suc n) zero at (b ∷ s) h k = absurd (omega arith)
enough (suc n) (suc m) at [] h k = refl
enough (suc n) (suc m) at (b ∷ s) h k =
    read_with_lem at (b ∷ s) _ _
    (λ e. let l = after_shorter (b ∷ s) e in enough n m (at + padded (length_of (b ∷ s))) (after (b ∷ s)) (omega arith) (omega arith))

pub avps_empty : (at : ℕ) → avps at [] ≡ whole
unfolding avps read_up_to
avps_empty at = refl

pub avps_step : (at : ℕ) (s : List ℕ) → 1 ≤ length s
    → avps at s ≡ cond (framed s) (more (placed at s) (avps (at + padded (length_of s)) (after s))) (broken (stump at s))
unfolding avps read_up_to
avps_step at [] h = absurd (omega arith)
avps_step at (b ∷ s) h =
    read_with_lem at (b ∷ s) _ _
    (λ e. let l = after_shorter (b ∷ s) e in enough (length s) (length (after (b ∷ s))) (at + padded (length_of (b ∷ s))) (after (b ∷ s)) (omega arith) (omega arith))

pub avps-more : (at : ℕ) (s : List ℕ) → framed s ≡ true → avps at s ≡ more (placed at s) (avps (at + padded (length_of s)) (after s))
avps-more at s e = let l = framed-least s e in avps_step at s (omega arith) ∙ rw e

pub avps-broken : (at : ℕ) (s : List ℕ) → 1 ≤ length s → framed s ≡ false → avps at s ≡ broken (stump at s)
avps-broken at s h e = avps_step at s h ∙ rw e

-- an AVP in front of a stretch
pub avps-one : (at : ℕ) {x : List ℕ} (s : List ℕ) → OneAvp x
    → avps at (x ++ s) ≡ more (record { at = at; end = at + length (x ++ s); avp = avp_of x }) (avps (at + length x) s)
unfolding placed
avps-one at {x} s o =
    avps-more at (x ++ s) (framed-append o s) ∙ rw (avp-append o s, (head_append o s).size, after-append o s, ← o.exact)

-- ---- a statement of stretches and their AVPs, from what follows the first AVP to the whole

module _ (P : ℕ → List ℕ → Avps → Type 0) (empty : (at : ℕ) → P at [] whole)
    (step : (at : ℕ) (s : List ℕ) → framed s ≡ true → P (at + padded (length_of s)) (after s) (avps (at + padded (length_of s)) (after s))
    → P at s (more (placed at s) (avps (at + padded (length_of s)) (after s))))
    (stop : (at : ℕ) (s : List ℕ) → 1 ≤ length s → framed s ≡ false → P at s (broken (stump at s))) where
  up_to : (n at : ℕ) (s : List ℕ) → length s ≤ n → P at s (avps at s)
  up_to zero at [] h = rw (avps_empty at) (empty at)
  up_to zero at (b ∷ s) h = absurd (omega arith)
  up_to (suc n) at [] h = rw (avps_empty at) (empty at)
  up_to (suc n) at (b ∷ s) h =
      rw (avps_step at (b ∷ s) (omega arith))
      (cond_cases (P at (b ∷ s)) (framed (b ∷ s))
      (λ q. let l = after_shorter (b ∷ s) q in step at (b ∷ s) q (up_to n (at + padded (length_of (b ∷ s))) (after (b ∷ s)) (omega arith)))
      (λ q. stop at (b ∷ s) (omega arith) q))

  pub avps_induction : (at : ℕ) (s : List ℕ) → P at s (avps at s)
  avps_induction at s = up_to (length s) at s (omega arith)

-- ---- the AVPs of a stretch and its bytes

-- `Each P Q l`: `P` of every AVP of the list, and `Q` of what it is broken by
abbrev pub Each : (Placed → Type 0) → (Placed → Type 0) → Avps → Type 0
Each P Q whole = Unit {0}
Each P Q (broken p) = Q p
Each P Q (more p rest) = P p × Each P Q rest

pub each_map : {P P' Q Q' : Placed → Type 0} → ((p : Placed) → P p → P' p) → ((p : Placed) → Q p → Q' p) → (l : Avps) → Each P Q l → Each P' Q' l
each_map f g whole e = tt
each_map f g (broken p) e = g p e
each_map f g (more p rest) e = (f p e.0, each_map f g rest e.1)

-- `p` is the AVP at its place of the stretch `s`, which stands at `at` of the message
pub record Stands (at : ℕ) (s : List ℕ) (p : Placed) : Type 0 where
  pub from : at ≤ p.at
  pub right : framed (drop (p.at - at) s) ≡ true
  pub read : p ≡ placed p.at (drop (p.at - at) s)

-- `p` is the head of what stands there and is no AVP
pub record Breaks (at : ℕ) (s : List ℕ) (p : Placed) : Type 0 where
  pub from : at ≤ p.at
  pub before : p.at < at + length s
  pub wrong : framed (drop (p.at - at) s) ≡ false
  pub read : p ≡ stump p.at (drop (p.at - at) s)

-- the stretch behind another one that ends at `k`
further : (at k q : ℕ) (s : List ℕ) → at + k ≤ q → drop (q - (at + k)) (drop k s) ≡ drop (q - at) s
further at k q s h = let e : k + (q - (at + k)) ≡ q - at = omega arith in drop-drop (q - (at + k)) k s ∙ ap (λ (n : ℕ). drop n s) e

stands_further : (at k : ℕ) (s : List ℕ) (p : Placed) → Stands (at + k) (drop k s) p → Stands at s p
stands_further at k s p t =
    let f = t.from in
    let e = further at k p.at s f in
    record { from = omega arith; right = rw e at t.right; read = t.read ∙ ap (placed p.at) e }

breaks_further : (at k : ℕ) (s : List ℕ) (p : Placed) → k ≤ length s → Breaks (at + k) (drop k s) p → Breaks at s p
breaks_further at k s p h t =
    let f = t.from in
    let b = rw length-drop at t.before in
    let e = further at k p.at s f in
    record { from = omega arith; before = omega arith; wrong = rw e at t.wrong; read = t.read ∙ ap (stump p.at) e }

abbrev Standing : ℕ → List ℕ → Avps → Type 0
Standing at s l = Each (Stands at s) (Breaks at s) l

-- a stretch stands where it stands
stands_first : (at : ℕ) (s : List ℕ) → framed s ≡ true → Stands at s (placed at s)
unfolding placed
stands_first at s e = let z : at - at ≡ 0 = omega arith in record { from = omega arith; right = rw z e; read = rw z }

breaks-first : (at : ℕ) (s : List ℕ) → 1 ≤ length s → framed s ≡ false → Breaks at s (stump at s)
unfolding stump
breaks-first at s h e = let z : at - at ≡ 0 = omega arith in record { from = omega arith; before = omega arith; wrong = rw z e; read = rw z }

standing_further : (at : ℕ) (s : List ℕ) → framed s ≡ true → (l : Avps) → Standing (at + padded (length_of s)) (after s) l → Standing at s l
unfolding after
standing_further at s e l t =
    let h = framed_at 0 s e in
    each_map (stands_further at (padded (length_of s)) s) (λ p. breaks_further at (padded (length_of s)) s p (omega arith)) l t

-- each AVP of a stretch is what stands at its place, and so is what breaks the list
pub avps_stand : (at : ℕ) (s : List ℕ) → Each (Stands at s) (Breaks at s) (avps at s)
avps_stand = avps_induction Standing (λ at. tt) (λ at s e t. (stands_first at s e, standing_further at s e (avps (at + padded (length_of s)) (after s)) t)) breaks-first

-- an AVP and its padding end where the stretch ends, or before
pub stands_inside : (at : ℕ) (s : List ℕ) (p : Placed) → Stands at s p → p.at + padded (length_of (drop (p.at - at) s)) ≤ at + length s
stands_inside at s p t = let f = t.from in let h = framed_at (p.at - at) s t.right in omega arith

pub stands_least : (at : ℕ) (s : List ℕ) (p : Placed) → Stands at s p → p.at + 8 ≤ at + length s
stands_least at s p t =
    let h = stands_inside at s p t in
    let m = framed_takes (drop (p.at - at) s) t.right in
    omega arith

-- what encloses it is the stretch
pub stands_end : (at : ℕ) (s : List ℕ) (p : Placed) → Stands at s p → p.end ≡ at + length s
unfolding placed
stands_end at s p t =
    let f = t.from in
    let h = stands_least at s p t in
    ap (λ (q : Placed). q.end) t.read ∙ rw length-drop (omega arith)

pub stands_avp : (at : ℕ) (s : List ℕ) (p : Placed) → Stands at s p → p.avp ≡ avp_of (drop (p.at - at) s)
unfolding placed
stands_avp at s p t = ap (λ (q : Placed). q.avp) t.read

pub breaks-end : (at : ℕ) (s : List ℕ) (p : Placed) → Breaks at s p → p.end ≡ at + length s
unfolding stump
breaks-end at s p t =
    let f = t.from in
    let h = t.before in
    ap (λ (q : Placed). q.end) t.read ∙ rw length-drop (omega arith)

pub breaks-avp : (at : ℕ) (s : List ℕ) (p : Placed) → Breaks at s p → p.avp ≡ bare_of (drop (p.at - at) s)
unfolding stump
breaks-avp at s p t = ap (λ (q : Placed). q.avp) t.read

-- ---- AVPs that are found

pub some_injective : {p q : Placed} → some p ≡ some q → p ≡ q
some_injective e = cc

found_either : (P : Placed → Type 0) (p : Placed) (b : Bool) (x y : Option Placed) → (b ≡ true → x ≡ some p → P p) → (y ≡ some p → P p) → cond b x y ≡ some p → P p
found_either P p true x y f g e = f refl e
found_either P p false x y f g e = g e

-- what holds of every AVP holds of the first of a key
pub first_of-each : (P Q : Placed → Type 0) (vendor code : ℕ) (l : Avps) → Each P Q l → (p : Placed) → first_of vendor code l ≡ some p → P p
unfolding first_of
first_of-each P Q vendor code whole e p q = let z : ◌≡◌ {A = ℕ} 0 1 = cc in absurd (omega arith)
first_of-each P Q vendor code (broken r) e p q = let z : ◌≡◌ {A = ℕ} 0 1 = cc in absurd (omega arith)
first_of-each P Q vendor code (more r rest) e p q =
    found_either P p (has_key vendor code r.avp) (some r) (first_of vendor code rest) (λ b h. subst P (some_injective h) e.0) (λ h. first_of-each P Q vendor code rest e.1 p h) q

pub first_of_stands : (vendor code at : ℕ) (s : List ℕ) (p : Placed) → first_of vendor code (avps at s) ≡ some p → Stands at s p
first_of_stands vendor code at s p e = first_of-each (Stands at s) (Breaks at s) vendor code (avps at s) (avps_stand at s) p e

pub first_of-key : (vendor code : ℕ) (l : Avps) (p : Placed) → first_of vendor code l ≡ some p → has_key vendor code p.avp ≡ true
unfolding first_of
first_of-key vendor code whole p q = let z : ◌≡◌ {A = ℕ} 0 1 = cc in absurd (omega arith)
first_of-key vendor code (broken r) p q = let z : ◌≡◌ {A = ℕ} 0 1 = cc in absurd (omega arith)
first_of-key vendor code (more r rest) p q =
    let Has : Placed → Type 0 = λ x. has_key vendor code x.avp ≡ true in
    found_either Has p (has_key vendor code r.avp) (some r) (first_of vendor code rest) (λ b h. subst Has (some_injective h) b) (λ h. first_of-key vendor code rest p h) q

-- what holds of every AVP holds of the first that is a second
pub first_second-each : (P Q : Placed → Type 0) (keys met : List ℕ) (l : Avps) → Each P Q l → (p : Placed) → first_second keys met l ≡ some p → P p
unfolding first_second
first_second-each P Q keys met whole e p q = let z : ◌≡◌ {A = ℕ} 0 1 = cc in absurd (omega arith)
first_second-each P Q keys met (broken r) e p q = let z : ◌≡◌ {A = ℕ} 0 1 = cc in absurd (omega arith)
first_second-each P Q keys met (more r rest) e p q =
    let key : ℕ = key_of r.avp.vendor r.avp.code in
    found_either P p (member key keys) (cond (member key met) (some r) (first_second keys (key ∷ met) rest)) (first_second keys met rest)
    (λ a. found_either P p (member key met) (some r) (first_second keys (key ∷ met) rest) (λ b h. subst P (some_injective h) e.0)
    (λ h. first_second-each P Q keys (key ∷ met) rest e.1 p h))
    (λ h. first_second-each P Q keys met rest e.1 p h) q

pub first_second_stands : (keys met : List ℕ) (at : ℕ) (s : List ℕ) (p : Placed) → first_second keys met (avps at s) ≡ some p → Stands at s p
first_second_stands keys met at s p e = first_second-each (Stands at s) (Breaks at s) keys met (avps at s) (avps_stand at s) p e

-- ---- the law of sizes

pub size-read : (s : List ℕ) → framed s ≡ true → size_of (avp_of s) ≡ padded (length_of s)
unfolding size_of avp_of
size-read s e = ap padded (head_and-body s e)

-- the AVPs of a stretch take no more bytes than it has
pub sizes-most : (at : ℕ) (s : List ℕ) → sizes (avps at s) ≤ length s
unfolding sizes placed
sizes-most =
    avps_induction (λ at s l. sizes l ≤ length s) (λ at. omega arith)
    (λ at s e h. let l = length-after s e in rw (size-read s e) (omega arith)) (λ at s h e. omega arith)

-- and all of its bytes, where it is filled exactly
pub sizes-whole : (at : ℕ) (s : List ℕ) → unbroken (avps at s) ≡ true → sizes (avps at s) ≡ length s
unfolding sizes placed unbroken
sizes-whole =
    avps_induction (λ at s l. unbroken l ≡ true → sizes l ≡ length s) (λ at q. refl)
    (λ at s e h q. let l = length-after s e in let r = h q in rw (size-read s e) (omega arith)) (λ at s h e q. absurd (false≢true q))

-- Sums over the AVPs of a list: what the AVPs of distinct keys and all others take together is at most what the list takes.
-- Assumes nothing.
use mathlib.Core.Path.{◌≡◌, refl, sym, ap, ◌∙◌}
use mathlib.Core.Bool.{Bool, true, false, cond, ◌&&◌, ◌||◌, not, false≢true}
use mathlib.Core.List.{List, [], ◌∷◌}
use Prim.Native.Nat.{ℕ, ◌+◌, ◌≤◌}
use native.Mathlib.Omega.{arith}
use lib.Dec.{eqb}
use borrow.Author.Tests.{eqb-true, eqb-false, eq-eqb, ne_eqb, not-true}
use Rattle.std.proofs.lemmas.Bool.{and_parts}
use Rattle.dictionary.specs.Rows.{key_of}
use Rattle.paper.specs.Avp.{Avp, size_of}
use Rattle.paper.specs.Reader.{Placed, Avps, whole, broken, more, sizes}
use Rattle.paper.specs.Find.{has_key, first_of, member, first_second}
use Rattle.paper.proofs.AvpsLaws.{cond_cases}
use Rattle.paper.proofs.OptionLaws.{Holds, holds-map}

-- ---- a sum over a list

unfoldable pub total : (Avp → ℕ) → Avps → ℕ
total w whole = 0
total w (broken p) = 0
total w (more p rest) = w p.avp + total w rest

pub total_add : (w v : Avp → ℕ) (l : Avps) → total (λ a. w a + v a) l ≡ total w l + total v l
unfolding total
total_add w v whole = refl
total_add w v (broken p) = refl
total_add w v (more p rest) = let h = total_add w v rest in omega arith

pub total_le : (w v : Avp → ℕ) → ((a : Avp) → w a ≤ v a) → (l : Avps) → total w l ≤ total v l
unfolding total
total_le w v h whole = omega arith
total_le w v h (broken p) = omega arith
total_le w v h (more p rest) = let r = total_le w v h rest in let a = h p.avp in omega arith

pub total_sizes : (l : Avps) → total size_of l ≡ sizes l
unfolding total sizes
total_sizes whole = refl
total_sizes (broken p) = refl
total_sizes (more p rest) = ap (λ (n : ℕ). size_of p.avp + n) (total_sizes rest)

-- ---- the AVPs of keys, each key by its number

abbrev pub number_of : Avp → ℕ
number_of a = key_of a.vendor a.code

-- the bytes of an AVP if it has the key
unfoldable pub size_if : ℕ → Avp → ℕ
size_if n a = cond (eqb (number_of a) n) (size_of a) 0

-- if it has one of the keys
unfoldable pub size_in : List ℕ → Avp → ℕ
size_in [] a = 0
size_in (n ∷ ns) a = size_if n a + size_in ns a

-- if it has none of them
unfoldable pub size_other : List ℕ → Avp → ℕ
size_other ns a = cond (member (number_of a) ns) 0 (size_of a)

-- no key stands twice
unfoldable pub distinct : List ℕ → Bool
distinct [] = true
distinct (n ∷ ns) = not (member n ns) && distinct ns

or-false : (a b : Bool) → a || b ≡ false → (a ≡ false) × (b ≡ false)
or-false true b e = absurd (false≢true (sym e))
or-false false b e = (refl, e)

none_in : (ns : List ℕ) (a : Avp) → member (number_of a) ns ≡ false → size_in ns a ≡ 0
unfolding size_in size_if member
none_in [] a e = refl
none_in (n ∷ ns) a e =
    let t = or-false (eqb (number_of a) n) (member (number_of a) ns) e in
    rw (t.0, none_in ns a t.1)

-- an AVP counts once at most
once : (ns : List ℕ) → distinct ns ≡ true → (a : Avp) → size_in ns a + size_other ns a ≤ size_of a
unfolding size_in size_if size_other distinct member
once [] d a = omega arith
once (n ∷ ns) d a = go (once ns (and_parts (not (member n ns)) (distinct ns) d).1 a) (eqb (number_of a) n) refl
  where
    go : size_in ns a + size_other ns a ≤ size_of a → (b : Bool) → eqb (number_of a) n ≡ b → size_if n a + size_in ns a + cond (b || member (number_of a) ns) 0 (size_of a) ≤ size_of a
    go r true e =
        let k = eqb-true (number_of a) n e in
        let m : member (number_of a) ns ≡ false = rw k (not-true (member n ns) (and_parts (not (member n ns)) (distinct ns) d).0) in
        let z = none_in ns a m in
        rw (e, z) (omega arith)
    go r false e = rw e (omega arith)

-- what the AVPs of each key take
unfoldable pub totals : List ℕ → Avps → ℕ
totals [] l = 0
totals (n ∷ ns) l = total (size_if n) l + totals ns l

total_none : (l : Avps) → total (λ a. 0) l ≡ 0
unfolding total
total_none whole = refl
total_none (broken p) = refl
total_none (more p rest) = let h = total_none rest in omega arith

total_in : (ns : List ℕ) (l : Avps) → total (size_in ns) l ≡ totals ns l
unfolding totals size_in
total_in [] l = total_none l
total_in (n ∷ ns) l = total_add (size_if n) (size_in ns) l ∙ ap (λ (k : ℕ). total (size_if n) l + k) (total_in ns l)

-- The law of sizes: the AVPs of distinct keys, and those of no such key, take at most what all take.
pub keys-and-others : (ns : List ℕ) → distinct ns ≡ true → (l : Avps) → totals ns l + total (size_other ns) l ≤ sizes l
keys-and-others ns d l =
    let a = total_le (λ x. size_in ns x + size_other ns x) size_of (once ns d) l in
    let b = total_add (size_in ns) (size_other ns) l in
    let c = total_in ns l in
    let s = total_sizes l in
    omega arith

-- the AVPs of another key are others
pub key_among_others : (n : ℕ) (ns : List ℕ) → member n ns ≡ false → (l : Avps) → total (size_if n) l ≤ total (size_other ns) l
unfolding size_if size_other
key_among_others n ns e l = total_le (size_if n) (size_other ns) (λ a. go a (eqb (number_of a) n) refl) l
  where
    go : (a : Avp) (b : Bool) → eqb (number_of a) n ≡ b → size_if n a ≤ size_other ns a
    go a true q = let m : member (number_of a) ns ≡ false = rw (eqb-true (number_of a) n q) e in rw (q, m) (omega arith)
    go a false q = rw q (omega arith)

pub key_among_all : (n : ℕ) (l : Avps) → total (size_if n) l ≤ sizes l
unfolding size_if
key_among_all n l =
    let h = total_le (size_if n) size_of (λ a. go a (eqb (number_of a) n) refl) l in
    let s = total_sizes l in
    omega arith
  where
    go : (a : Avp) (b : Bool) → eqb (number_of a) n ≡ b → size_if n a ≤ size_of a
    go a true q = rw q (omega arith)
    go a false q = rw q (omega arith)

-- ---- what is found

pub key-number : (vendor code : ℕ) (a : Avp) → has_key vendor code a ≡ true → number_of a ≡ key_of vendor code
unfolding has_key
key-number vendor code a e =
    let v = eqb-true a.vendor vendor (and_parts (eqb a.vendor vendor) (eqb a.code code) e).0 in
    let c = eqb-true a.code code (and_parts (eqb a.vendor vendor) (eqb a.code code) e).1 in
    rw (v, c)

-- an AVP of the key is one of those of the key
pub size_if_key : (vendor code : ℕ) (a : Avp) → has_key vendor code a ≡ true → size_if (key_of vendor code) a ≡ size_of a
unfolding size_if
size_if_key vendor code a e = rw (eq-eqb (number_of a) (key_of vendor code) (key-number vendor code a e))

-- the first of a key takes at most what those of the key take
pub first_takes : (vendor code : ℕ) (l : Avps) → Holds (λ p. size_of p.avp ≤ total (size_if (key_of vendor code)) l) (first_of vendor code l)
unfolding first_of total
first_takes vendor code whole = tt
first_takes vendor code (broken p) = tt
first_takes vendor code (more p rest) =
    cond_cases (Holds (λ q. size_of q.avp ≤ size_if (key_of vendor code) p.avp + total (size_if (key_of vendor code)) rest)) (has_key vendor code p.avp)
    (λ e. let k = size_if_key vendor code p.avp e in omega arith)
    (λ e. holds-map (λ q h. omega arith) (first_of vendor code rest) (first_takes vendor code rest))

-- the bytes of the first AVP of a key, if there is one
unfoldable pub first_size : ℕ → Avps → ℕ
first_size n whole = 0
first_size n (broken p) = 0
first_size n (more p rest) = cond (eqb (number_of p.avp) n) (size_of p.avp) (first_size n rest)

pub first_of_all : (n : ℕ) (l : Avps) → first_size n l ≤ total (size_if n) l
unfolding first_size total size_if
first_of_all n whole = omega arith
first_of_all n (broken p) = omega arith
first_of_all n (more p rest) = go (first_of_all n rest) (eqb (number_of p.avp) n) refl
  where
    go : first_size n rest ≤ total (size_if n) rest → (b : Bool) → eqb (number_of p.avp) n ≡ b → cond b (size_of p.avp) (first_size n rest) ≤ size_if n p.avp + total (size_if n) rest
    go r true e = rw e (omega arith)
    go r false e = rw e (omega arith)

-- ---- the first that is a second

-- the AVP has one of the keys that are looked for
pub second_of_keys : (keys met : List ℕ) (l : Avps) → Holds (λ p. member (number_of p.avp) keys ≡ true) (first_second keys met l)
unfolding first_second
second_of_keys keys met whole = tt
second_of_keys keys met (broken p) = tt
second_of_keys keys met (more p rest) =
    let Found : Placed → Type 0 = λ q. member (number_of q.avp) keys ≡ true in
    cond_cases (Holds Found) (member (number_of p.avp) keys)
    (λ e. cond_cases (Holds Found) (member (number_of p.avp) met) (λ f. e) (λ f. second_of_keys keys (number_of p.avp ∷ met) rest))
    (λ e. second_of_keys keys met rest)

-- `size` is that of the second, `first` and `all` those of its key behind an AVP of `front` bytes that has the key, or has not
behind : (has told met : Bool) (size front first all : ℕ) → (has ≡ false → told ≡ false) → size + cond (told || met) 0 first ≤ all
    → size + cond met 0 (cond has front first) ≤ cond has front 0 + all
behind true told true size front first all f h = omega arith
behind true told false size front first all f h = omega arith
behind false told met size front first all f h = let k = rw (f refl) at h in omega arith

-- it and the first of its key take at most what those of the key take
pub second_takes : (keys met : List ℕ) (l : Avps)
    → Holds (λ p. size_of p.avp + cond (member (number_of p.avp) met) 0 (first_size (number_of p.avp) l) ≤ total (size_if (number_of p.avp)) l) (first_second keys met l)
unfolding first_second first_size total member size_if
second_takes keys met whole = tt
second_takes keys met (broken p) = tt
second_takes keys met (more q rest) =
    let k = number_of q.avp in
    let Takes : Placed → Type 0 = λ p.
    size_of p.avp + cond (member (number_of p.avp) met) 0 (first_size (number_of p.avp) (more q rest)) ≤ total (size_if (number_of p.avp)) (more q rest) in
    cond_cases (Holds Takes) (member k keys)
    (λ e. cond_cases (Holds Takes) (member k met)
    (λ f. rw (f, eq-eqb k k refl) (omega arith))
    (λ f. holds-map (λ p h. behind (eqb k (number_of p.avp)) (eqb (number_of p.avp) k) (member (number_of p.avp) met) (size_of p.avp) (size_of q.avp) _ _ (other k (number_of p.avp)) h)
    (first_second keys (k ∷ met) rest) (second_takes keys (k ∷ met) rest)))
    (λ e. holds-map (λ p h. behind (eqb k (number_of p.avp)) false (member (number_of p.avp) met) (size_of p.avp) (size_of q.avp) _ _ (λ z. refl) h)
    (first_second keys met rest) (second_takes keys met rest))
  where
    other : (a b : ℕ) → eqb a b ≡ false → eqb b a ≡ false
    other a b e = ne_eqb b a (λ z. eqb-false a b e (sym z))

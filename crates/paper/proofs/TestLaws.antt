-- Laws of tests: what a disjunction and a choice say of their parts. Assumes nothing.
use mathlib.Core.Path.{◌≡◌, refl, sym}
use mathlib.Core.Bool.{Bool, true, false, cond, ◌||◌, not, false≢true}

-- ---- one of two

pub or_implies : (a b : Bool) → not a || b ≡ true → a ≡ true → b ≡ true
or_implies true b e h = e
or_implies false b e h = absurd (false≢true h)

pub implies_or : (a b : Bool) → (a ≡ true → b ≡ true) → not a || b ≡ true
implies_or true b h = h refl
implies_or false b h = refl

pub or_right : (a b : Bool) → b ≡ true → a || b ≡ true
or_right true b e = refl
or_right false b e = e

pub or_only : (a : Bool) → a || false ≡ true → a ≡ true
or_only true e = refl
or_only false e = e

pub or-false-left : (a b : Bool) → a || b ≡ false → a ≡ false
or-false-left false b e = refl
or-false-left true b e = absurd (false≢true (sym e))

pub or-false-right : (a b : Bool) → a || b ≡ false → b ≡ false
or-false-right false b e = e
or-false-right true b e = absurd (false≢true (sym e))

-- ---- two tests

pub same_when_true : (a b : Bool) → (a ≡ true → b ≡ true) → (b ≡ true → a ≡ true) → a ≡ b
same_when_true true b p q = sym (p refl)
same_when_true false true p q = q refl
same_when_true false false p q = refl

-- ---- a choice

-- a choice between two images is the image of the choice
pub cond_map : {A B : Type 0} (f : A → B) (b : Bool) {x y : A} {p q : B} → p ≡ f x → q ≡ f y → cond b p q ≡ f (cond b x y)
cond_map f true e h = e
cond_map f false e h = h

pub cond_same : {A : Type 0} (b : Bool) {x y p q : A} → (b ≡ true → x ≡ p) → y ≡ q → cond b x y ≡ cond b p q
cond_same true e h = e refl
cond_same false e h = h

-- `x` in place of `y` where the test `u` holds, which holds where `b` does
pub cond_where : {A B : Type 0} (f : A → B) (u b : Bool) {x y : A} (r s : B) → (b ≡ true → u ≡ true) → f x ≡ cond b r s → f y ≡ s → f (cond u x y) ≡ cond b r s
cond_where f true b r s h e q = e
cond_where f false false r s h e q = q
cond_where f false true r s h e q = absurd (false≢true (h refl))

-- Numbers in decimal without the count of digits that their definition goes by, how many digits they have, and the longest line.
-- Assumes nothing.
use Rattle.std.proofs.Common.{◌≡◌, ℕ, zero, suc, ◌+◌, ◌/◌, ◌%◌, ◌^◌, ◌<◌, ◌≤◌, Bool, true, false, cond, ltb, List, [], ◌∷◌, ◌++◌, length, refl, ap, ◌∙◌, pow-suc, arith, length-append, ltb-false, ltb-true, le-ltb, lt-ltb}
use Rattle.paper.specs.declared.Line.{Line}
use Rattle.paper.specs.Desk.{space, letter_e, numeral, decimal, spaced, code_bytes, line_bytes}
use Rattle.dymosaw.specs.Desk.{line_room}

-- ---- digits

-- a number has fewer digits than itself and one, so more room for them changes nothing
numeral_enough : (j k n : ℕ) → n < j → n < k → numeral j n ≡ numeral k n
unfolding numeral
numeral_enough zero k n h g = absurd (omega arith)
numeral_enough (suc j) zero n h g = absurd (omega arith)
numeral_enough (suc j) (suc k) n h g = go (λ p q. numeral_enough j k (n / 10) p q) (ltb n 10) refl
  where
    go : (n / 10 < j → n / 10 < k → numeral j (n / 10) ≡ numeral k (n / 10)) → (b : Bool) → ltb n 10 ≡ b
        → cond b ((48 + n) ∷ []) (numeral j (n / 10) ++ ((48 + n % 10) ∷ [])) ≡ cond b ((48 + n) ∷ []) (numeral k (n / 10) ++ ((48 + n % 10) ∷ []))
    go same true e = refl
    go same false e =
        let big : 10 ≤ n = ltb-false n 10 e in
        ap (λ (x : List ℕ). x ++ ((48 + n % 10) ∷ [])) (same (omega arith) (omega arith))

pub decimal-one : (n : ℕ) → n < 10 → decimal n ≡ (48 + n) ∷ []
unfolding decimal numeral
decimal-one n h = rw (lt-ltb n 10 h)

pub decimal-more : (n : ℕ) → 10 ≤ n → decimal n ≡ decimal (n / 10) ++ ((48 + n % 10) ∷ [])
unfolding decimal numeral
decimal-more n h =
    rw (le-ltb n 10 h)
    (ap (λ (x : List ℕ). x ++ ((48 + n % 10) ∷ [])) (numeral_enough n (suc (n / 10)) (n / 10) (omega arith) (omega arith)))

-- ---- sizes

pub one_digit : (n : ℕ) → n < 10 → length (decimal n) ≡ 1
one_digit n h = ap length (decimal-one n h)

pub more-digits : (n : ℕ) → 10 ≤ n → length (decimal n) ≡ length (decimal (n / 10)) + 1
more-digits n h = ap length (decimal-more n h) ∙ length-append (decimal (n / 10)) ((48 + n % 10) ∷ [])

few-digits : (k n : ℕ) → n < 10 ^ suc k → length (decimal n) ≤ suc k
few-digits zero n h = let s = one_digit n (omega arith) in omega arith
few-digits (suc k) n h = go (few-digits k (n / 10)) (ltb n 10) refl
  where
    go : (n / 10 < 10 ^ suc k → length (decimal (n / 10)) ≤ suc k) → (b : Bool) → ltb n 10 ≡ b → length (decimal n) ≤ suc (suc k)
    go rest true e = let s = one_digit n (ltb-true n 10 e) in omega arith
    go rest false e =
        let s = more-digits n (ltb-false n 10 e) in
        let p = pow-suc 10 (suc k) in
        let q = rest (omega arith) in
        omega arith

pub digits_u64 : (n : ℕ) → n < 2 ^ 64 → length (decimal n) ≤ 20
digits_u64 n h = few-digits 19 n (omega arith)

pub digits_u32 : (n : ℕ) → n < 2 ^ 32 → length (decimal n) ≤ 10
digits_u32 n h = few-digits 9 n (omega arith)

pub spaced-length : (n : ℕ) → length (spaced n) ≡ 1 + length (decimal n)
unfolding spaced
spaced-length n = length-append (space ∷ []) (decimal n)

pub code-plain : (e : Bool) (c : ℕ) → e ≡ false → code_bytes e c ≡ spaced c
unfolding code_bytes
code-plain e c p = rw p

pub code_marked : (e : Bool) (c : ℕ) → e ≡ true → code_bytes e c ≡ (space ∷ []) ++ ((letter_e ∷ []) ++ decimal c)
unfolding code_bytes
code_marked e c p = rw p

pub marked_length : (e : Bool) (c : ℕ) → e ≡ true → length (code_bytes e c) ≡ 2 + length (decimal c)
marked_length e c p = ap length (code_marked e c p) ∙ simp length-append (omega arith)

spaced-size : (n : ℕ) → n < 2 ^ 64 → length (spaced n) ≤ 21
spaced-size n h = let s = spaced-length n in let d = digits_u64 n h in omega arith

code-size : (e : Bool) (c : ℕ) → c < 2 ^ 32 → length (code_bytes e c) ≤ 12
code-size true c h = let s = marked_length true c refl in let d = digits_u32 c h in omega arith
code-size false c h =
    let s = ap length (code-plain false c refl) in
    let t = spaced-length c in
    let d = digits_u32 c h in
    omega arith

-- the length of a line by its parts
pub line-length : (n : ℕ) (l : Line)
    → length (line_bytes n l) ≡ length (decimal n) + (2 + (length (code_bytes l.experimental l.code) + (length (spaced l.size) + (length (spaced l.listed) + 1))))
unfolding line_bytes
line-length n l = simp length-append (omega arith)

-- every line fits
pub line-fits : (n : ℕ) (l : Line) → n < 2 ^ 64 → l.code < 2 ^ 32 → l.size < 2 ^ 64 → l.listed < 2 ^ 64 → length (line_bytes n l) ≤ line_room
line-fits n l hn hc hs hl =
    let a = digits_u64 n hn in
    let b = code-size l.experimental l.code hc in
    let c = spaced-size l.size hs in
    let d = spaced-size l.listed hl in
    let e = line-length n l in
    omega arith

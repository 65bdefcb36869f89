-- Laws of numbers as bytes, each once over the width.
-- Assumes nothing.
use mathlib.Core.Path.{◌≡◌, refl, sym, ap, ◌∙◌}
use mathlib.Core.List.{List, [], ◌∷◌, ◌++◌}
use Prim.Native.Nat.{ℕ, zero, suc, ◌+◌, ◌*◌, ◌/◌, ◌%◌, ◌^◌, ◌≤◌, ◌<◌}
use native.Mathlib.Nat.{add-zero, add-suc, suc-add, add_assoc, add-mul, pow-succ', mod-eq_of_lt, mod-lt, one-le-pow, pow-suc, mul_assoc, mul_comm, zero-add, div-div-eq-div-mul, mul-add-div_right, mul-add-mod_self_right, pow-le-pow_right, lt_of_lt_of_le, le_of_suc-le-suc}
use native.Mathlib.Numerals.{add-one}
use native.Mathlib.Omega.{arith}
use lib.Arith.{mod-mul, digits_lt, digits_div}
use lib.Dec.{lit<}
use lib.ListN.{length, take, drop, get_or, replicate, length-append, get_or-append}
use lib.Pow.{pow-add}
use lib.Seq.{take_at, drop-cons, get_or-append-add, get_or-take, get_or-drop}
use Rattle.wire.specs.Number.{be, num, num_at, Bytes}
use Rattle.wire.specs.Put.{part}
use Rattle.wire.proofs.ListLaws.{length_part}

pos_pow : (n : ℕ) → 0 < 256 ^ n
pos_pow n = one-le-pow n 256 (lit< tt)

-- ---- a number written and read back

pub length-be : (n v : ℕ) → length (be n v) ≡ n
length-be zero v = refl
length-be (suc n) v = ap suc (length-be n v)

pub num-be : (n v : ℕ) → num (be n v) ≡ v % 256 ^ n
num-be zero v = omega arith
num-be (suc n) v =
    ap (λ (k : ℕ). (v / 256 ^ n % 256) * 256 ^ k + num (be n v)) (length-be n v)
    ∙ ap (λ (k : ℕ). (v / 256 ^ n % 256) * 256 ^ n + k) (num-be n v)
    ∙ rw pow-succ' (sym (mod-mul v (lit< tt) (pos_pow n)))

pub num_back : (n v : ℕ) → v < 256 ^ n → num (be n v) ≡ v
num_back n v h = num-be n v ∙ mod-eq_of_lt h

pub num-lt : (xs : List ℕ) → Bytes xs → num xs < 256 ^ length xs
num-lt [] h = lit< tt
num-lt (x ∷ xs) h = rw pow-succ' (digits_lt (h 0) (num-lt xs (λ i. h (suc i))))

-- the bytes see the low digits alone
pub be-mod : (n d v : ℕ) → be n (d * 256 ^ n + v) ≡ be n v
be-mod zero d v = refl
be-mod (suc n) d v =
    let e : d * 256 ^ suc n + v ≡ (d * 256) * 256 ^ n + v = rw (pow-succ', ← mul_assoc) in
    let h : ((d * 256) * 256 ^ n + v) / 256 ^ n % 256 ≡ v / 256 ^ n % 256 = rw (mul-add-div_right (pos_pow n) (d * 256) v) (mul-add-mod_self_right d 256 (v / 256 ^ n)) in
    ap (be (suc n)) e ∙ ap (λ (k : ℕ). k ∷ be n ((d * 256) * 256 ^ n + v)) h ∙ ap (λ (l : List ℕ). (v / 256 ^ n % 256) ∷ l) (be-mod n (d * 256) v)

-- bytes read as a number and written again
pub be-num : (xs : List ℕ) → Bytes xs → be (length xs) (num xs) ≡ xs
be-num [] h = refl
be-num (x ∷ xs) h =
    let n = length xs in
    let b = num-lt xs (λ i. h (suc i)) in
    let q : (x * 256 ^ n + num xs) / 256 ^ n % 256 ≡ x = rw (digits_div x b) (mod-eq_of_lt (h 0)) in
    ap (λ (k : ℕ). k ∷ be n (x * 256 ^ n + num xs)) q ∙ ap (λ (l : List ℕ). x ∷ l) (be-mod n x (num xs) ∙ be-num xs (λ i. h (suc i)))

-- ---- numbers of joined bytes

-- a number of two parts, as bytes: so a byte of flags and three bytes of length are one number of four
pub be-append : (m n hi lo : ℕ) → lo < 256 ^ n → be (m + n) (hi * 256 ^ n + lo) ≡ be m hi ++ be n lo
be-append zero n hi lo h = ap (λ (k : ℕ). be k (hi * 256 ^ n + lo)) (zero-add n) ∙ be-mod n hi lo
be-append (suc m) n hi lo h =
    let v = hi * 256 ^ n + lo in
    let q : v / 256 ^ (m + n) ≡ hi / 256 ^ m =
    ap (λ (k : ℕ). v / k) (pow-add 256 m n ∙ mul_comm (256 ^ m) (256 ^ n)) ∙ sym (div-div-eq-div-mul v (256 ^ n) (256 ^ m)) ∙ ap (λ (k : ℕ). k / 256 ^ m) (digits_div hi h) in
    ap (λ (k : ℕ). be k v) (suc-add m n) ∙ ap (λ (k : ℕ). (k % 256) ∷ be (m + n) v) q ∙ ap (λ (l : List ℕ). (hi / 256 ^ m % 256) ∷ l) (be-append m n hi lo h)

-- x at the front of a number of n bytes, which is scaled up by m bytes behind it
scaled_up : (x n m a b : ℕ) → x * 256 ^ (n + m) + (a * 256 ^ m + b) ≡ (x * 256 ^ n + a) * 256 ^ m + b
scaled_up x n m a b = rw (pow-add 256 n m, ← mul_assoc x (256 ^ n) (256 ^ m), add-mul (x * 256 ^ n) a (256 ^ m)) (sym (add_assoc (x * 256 ^ n * 256 ^ m) (a * 256 ^ m) b))

pub num-append : (xs ys : List ℕ) → num (xs ++ ys) ≡ num xs * 256 ^ length ys + num ys
num-append [] ys = omega arith
num-append (x ∷ xs) ys =
    ap (λ (k : ℕ). x * 256 ^ k + num (xs ++ ys)) (length-append xs ys)
    ∙ ap (λ (k : ℕ). x * 256 ^ (length xs + length ys) + k) (num-append xs ys)
    ∙ scaled_up x (length xs) (length ys) (num xs) (num ys)

-- one byte more
pub num-snoc : (xs : List ℕ) (b : ℕ) → num (xs ++ (b ∷ [])) ≡ num xs * 256 + b
num-snoc xs b = num-append xs (b ∷ []) ∙ omega arith

-- ---- the number at a place

-- two stretches that agree at the places have the same number there
pub num_at_agree : (n at at' : ℕ) (s t : List ℕ) → ((i : ℕ) → i < n → get_or s (at + i) 0 ≡ get_or t (at' + i) 0) → num_at n s at ≡ num_at n t at'
unfolding num_at
num_at_agree zero at at' s t h = refl
num_at_agree (suc n) at at' s t h =
    let e : get_or s at 0 ≡ get_or t at' 0 = simp add-zero at (h 0 (omega arith)) in
    let r : num_at n s (suc at) ≡ num_at n t (suc at') = num_at_agree n (suc at) (suc at') s t (λ i k. simp (suc-add, ← add-suc) (h (suc i) (omega arith))) in
    rw (e, r)

pub num_at-part : (n : ℕ) (s : List ℕ) (at : ℕ) → at + n ≤ length s → num_at n s at ≡ num (part at n s)
unfolding num_at
num_at-part zero s at h = refl
num_at-part (suc n) s at h =
    let m : length (part (suc at) n s) ≡ n = length_part (suc at) n s (omega arith) in
    let r : num_at n s (suc at) ≡ num (part (suc at) n s) = num_at-part n s (suc at) (omega arith) in
    rw (drop-cons s at 0 (omega arith), m, r)

pub num_at-one : (s : List ℕ) (at : ℕ) → num_at 1 s at ≡ get_or s at 0
unfolding num_at
num_at-one s at = omega arith

-- the bytes of two numbers that stand side by side, as one
pub num_at-split : (m n : ℕ) (s : List ℕ) (at : ℕ) → num_at (m + n) s at ≡ num_at m s at * 256 ^ n + num_at n s (at + m)
unfolding num_at
num_at-split zero n s at = rw (zero-add, add-zero) (omega arith)
num_at-split (suc m) n s at =
    let r : num_at (m + n) s (suc at) ≡ num_at m s (suc at) * 256 ^ n + num_at n s (suc at + m) = num_at-split m n s (suc at) in
    rw (suc-add m n, r, suc-add at m, add-suc at m) (scaled_up (get_or s at 0) m n (num_at m s (suc at)) (num_at n s (suc (at + m))))

-- one byte more
pub num_at-more : (n : ℕ) (s : List ℕ) (at : ℕ) → num_at (n + 1) s at ≡ num_at n s at * 256 + get_or s (at + n) 0
num_at-more n s at = num_at-split n 1 s at ∙ ap (λ (k : ℕ). num_at n s at * 256 + k) (num_at-one s (at + n))

-- a turn of a loop that reads
pub read_step : (k : ℕ) (s : List ℕ) (at : ℕ) {v : ℕ} → v ≡ num_at k s at → v * 256 + get_or s (at + k) 0 ≡ num_at (k + 1) s at
read_step k s at e = rw e (sym (num_at-more k s at))

-- a number of k bytes, and one byte more
pub num_step : (k v b : ℕ) → v < 256 ^ k → b < 256 → v * 256 + b < 256 ^ (k + 1)
num_step k v b h hb = rw (add-one, pow-suc) (digits_lt h hb)

-- the turn as a loop over bytes has it: the number, and that it fits its bytes
pub read_turn : (k : ℕ) (s : List ℕ) (at b : ℕ) {v : ℕ} → b ≡ get_or s (at + k) 0 → b < 256 → v ≡ num_at k s at → v < 256 ^ k
    → (v * 256 + b ≡ num_at (k + 1) s at) × (v * 256 + b < 256 ^ (k + 1))
read_turn k s at b {v} e hb ev hv = (rw e (read_step k s at ev), num_step k v b hv hb)

pub num_at-lt : (n : ℕ) (s : List ℕ) (at : ℕ) → Bytes s → num_at n s at < 256 ^ n
unfolding num_at
num_at-lt zero s at h = lit< tt
num_at-lt (suc n) s at h = rw pow-succ' (digits_lt (h at) (num_at-lt n s (suc at) h))

pub num_at-append-left : (n : ℕ) (xs ys : List ℕ) (at : ℕ) → at + n ≤ length xs → num_at n (xs ++ ys) at ≡ num_at n xs at
num_at-append-left n xs ys at h = num_at_agree n at at (xs ++ ys) xs (λ i k. get_or-append xs ys 0 (at + i) (omega arith))

pub num_at-append-right : (n : ℕ) (xs ys : List ℕ) (at : ℕ) → num_at n (xs ++ ys) (length xs + at) ≡ num_at n ys at
num_at-append-right n xs ys at = num_at_agree n (length xs + at) at (xs ++ ys) ys (λ i k. rw add_assoc (get_or-append-add xs ys (at + i) 0))

pub num_at-take : (n k : ℕ) (s : List ℕ) (at : ℕ) → at + n ≤ k → num_at n (take k s) at ≡ num_at n s at
num_at-take n k s at h = num_at_agree n at at (take k s) s (λ i j. get_or-take k s (at + i) 0 (omega arith))

pub num_at-drop : (n k : ℕ) (s : List ℕ) (at : ℕ) → num_at n (drop k s) at ≡ num_at n s (k + at)
num_at-drop n k s at = num_at_agree n at (k + at) (drop k s) s (λ i j. rw add_assoc (get_or-drop k s (at + i) 0))

-- a number in front of a stretch, read back
pub num_at-be : (n v : ℕ) (ys : List ℕ) → v < 256 ^ n → num_at n (be n v ++ ys) 0 ≡ v
num_at-be n v ys h =
    num_at-part n (be n v ++ ys) 0 (simp (length-append, length-be) (omega arith)) ∙ ap num (take_at (be n v) ys n (length-be n v)) ∙ num_back n v h

-- ---- room in the machine's words

-- a number of fewer than 8 bytes has room for one more in 64 bits
pub num-room : (k v : ℕ) → k < 8 → v < 256 ^ k → v < 256 ^ 7
num-room k v hk h = lt_of_lt_of_le h (pow-le-pow_right (lit< tt) (le_of_suc-le-suc hk))

-- ---- bytes stay bytes

pub bytes-append : (xs ys : List ℕ) → Bytes xs → Bytes ys → Bytes (xs ++ ys)
bytes-append [] ys hx hy i = hy i
bytes-append (x ∷ xs) ys hx hy zero = hx 0
bytes-append (x ∷ xs) ys hx hy (suc i) = bytes-append xs ys (λ j. hx (suc j)) hy i

pub bytes_take : (n : ℕ) (s : List ℕ) → Bytes s → Bytes (take n s)
bytes_take zero s h i = lit< tt
bytes_take (suc n) [] h i = lit< tt
bytes_take (suc n) (x ∷ s) h zero = h 0
bytes_take (suc n) (x ∷ s) h (suc i) = bytes_take n s (λ j. h (suc j)) i

pub bytes_drop : (n : ℕ) (s : List ℕ) → Bytes s → Bytes (drop n s)
bytes_drop n s h i = rw get_or-drop (h (n + i))

pub bytes-part : (at n : ℕ) (s : List ℕ) → Bytes s → Bytes (part at n s)
bytes-part at n s h = bytes_take n (drop at s) (bytes_drop at s h)

pub bytes-be : (n v : ℕ) → Bytes (be n v)
bytes-be zero v i = lit< tt
bytes-be (suc n) v zero = mod-lt (v / 256 ^ n) (lit< tt)
bytes-be (suc n) v (suc i) = bytes-be n v i

pub bytes-replicate : (n x : ℕ) → x < 256 → Bytes (replicate n x)
bytes-replicate zero x h i = lit< tt
bytes-replicate (suc n) x h zero = h
bytes-replicate (suc n) x h (suc i) = bytes-replicate n x h i

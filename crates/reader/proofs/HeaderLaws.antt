-- A header's fields are told by the first 20 bytes, and zeros stand for those that a message lacks; a field of a header fits.
-- Assumes nothing.
use Rattle.std.proofs.Common.{◌≡◌, refl, sym, ◌∙◌, Bool, true, false, List, ◌++◌, ℕ, zero, suc, ◌+◌, ◌-◌, ◌≤◌, ◌<◌, ◌^◌, length, get_or, arith}
use lib.Dec.{ltb}
use lib.ListN.{take, drop, replicate}
use borrow.Author.Tests.{ltb-true, ltb-false}
use Rattle.std.proofs.lemmas.List.{get_or_append_left, get_or-append_right, get_or-drop, get_or-replicate, get_or-take, get_or_past}
use Rattle.wire.specs.Number.{num_at}
use Rattle.reader.specs.Header.{header_of}

pub num_at_past : (n : ℕ) (s : List ℕ) (at : ℕ) → length s ≤ at → num_at n s at ≡ 0
unfolding num_at
num_at_past zero s at h = refl
num_at_past (suc n) s at h = rw (get_or_past s at 0 h, num_at_past n s (suc at) (omega arith)) (omega arith)

-- four bytes at most are a number of 32 bits
pub narrow : (n v : ℕ) → n ≤ 4 → v < 256 ^ n → v < 2 ^ 32
narrow zero v h l = omega arith
narrow (suc zero) v h l = omega arith
narrow (suc (suc zero)) v h l = omega arith
narrow (suc (suc (suc zero))) v h l = omega arith
narrow (suc (suc (suc (suc zero)))) v h l = omega arith
narrow (suc (suc (suc (suc (suc n))))) v h l = absurd (omega arith)

num_at-alike : (s t : List ℕ) → ((i : ℕ) → i < 20 → get_or s i 0 ≡ get_or t i 0) → (n at : ℕ) → at + n ≤ 20 → num_at n s at ≡ num_at n t at
unfolding num_at
num_at-alike s t e zero at h = refl
num_at-alike s t e (suc n) at h = rw (e at (omega arith), num_at-alike s t e n (suc at) (omega arith)) refl

header-alike : (s t : List ℕ) → ((i : ℕ) → i < 20 → get_or s i 0 ≡ get_or t i 0) → header_of s ≡ header_of t
unfolding header_of
header-alike s t e =
    let n = num_at-alike s t e in
    rw (e 0 (omega arith), e 4 (omega arith), n 3 1 (omega arith), n 3 5 (omega arith), n 4 8 (omega arith), n 4 12 (omega arith), n 4 16 (omega arith)) refl

pub header-whole : (m : List ℕ) {s : List ℕ} → s ≡ take 20 m → header_of s ≡ header_of m
header-whole m e = rw e (header-alike (take 20 m) m (λ i h. get_or-take 20 m i 0 h))

blank : (i : ℕ) → get_or (replicate 20 zero) i 0 ≡ zero
blank i = go (ltb i 20) refl
  where
    go : (b : Bool) → ltb i 20 ≡ b → get_or (replicate 20 zero) i 0 ≡ zero
    go true l = get_or-replicate 20 i zero 0 (ltb-true i 20 l)
    go false l = get_or_past (replicate 20 zero) i 0 (ltb-false i 20 l)

pub header-cut : (m : List ℕ) {s : List ℕ} (n : ℕ) → length m ≡ n → s ≡ m → header_of (s ++ drop n (replicate 20 zero)) ≡ header_of m
header-cut m n l e = rw e (header-alike (m ++ drop n (replicate 20 zero)) m (λ i h. go i (ltb i n) refl))
  where
    go : (i : ℕ) (b : Bool) → ltb i n ≡ b → get_or (m ++ drop n (replicate 20 zero)) i 0 ≡ get_or m i 0
    go i true h = let a = ltb-true i n h in get_or_append_left m (drop n (replicate 20 zero)) 0 i (omega arith)
    go i false h =
        let a = ltb-false i n h in
        get_or-append_right m (drop n (replicate 20 zero)) n i 0 l (omega arith) ∙ get_or-drop n (replicate 20 zero) (i - n) 0 ∙ blank (n + (i - n)) ∙ sym (get_or_past m i 0 (omega arith))

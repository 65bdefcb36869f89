-- The entries of the list counted in the cancel buffer.
-- Assumes nothing.
use Rattle.std.proofs.Common.{◌≡◌, ℕ, ◌+◌, ◌^◌, ◌<◌, ◌≤◌, Bool, true, false, cond, ltb, List, [], ◌∷◌, ◌++◌, length, get_or, sym, refl, ap, ◌∙◌, append_assoc, arith, get_or-append-add, le-ltb, lt-ltb}
use Rattle.wire.specs.Put.{put}
use Rattle.paper.specs.Layout.{most_name, entry_size, most_entries}
use Rattle.paper.specs.Procedures.{Entry, entry_bytes, cancel_bytes}
use Rattle.paper.proofs.EntryLaws.{EachOf, length_entry, Listable}
use Rattle.paper.proofs.ListedLaws.{Numbered}
use Rattle.dymosaw.specs.Serve.{entry_at, entries_in}

-- ---- the two places

pub entry_there : (cancel : List ℕ) (at : ℕ) → 0 < get_or cancel at 0 → 1 ≡ entry_at cancel at
unfolding entry_at
entry_there cancel at h = rw (lt-ltb 0 (get_or cancel at 0) h)

pub entry_unused : (cancel : List ℕ) (at : ℕ) → get_or cancel at 0 ≤ 0 → 0 ≡ entry_at cancel at
unfolding entry_at
entry_unused cancel at h = rw (le-ltb 0 (get_or cancel at 0) h)

entry_at-most : (cancel : List ℕ) (at : ℕ) → entry_at cancel at ≤ 1
unfolding entry_at
entry_at-most cancel at = go (ltb 0 (get_or cancel at 0))
  where
    go : (b : Bool) → cond b 1 0 ≤ 1
    go true = omega arith
    go false = omega arith

pub few_added : (cancel : List ℕ) (x y : ℕ) {a b : ℕ} → a ≡ entry_at cancel x → b ≡ entry_at cancel y → a + b < 2 ^ 64
few_added cancel x y e f = let p = entry_at-most cancel x in let q = entry_at-most cancel y in omega arith

pub entries_added : (cancel : List ℕ) {a b : ℕ} → a ≡ entry_at cancel 0 → b ≡ entry_at cancel entry_size → a + b ≡ entries_in cancel
unfolding entries_in
entries_added cancel e f = rw (e, f)

-- ---- the list that was written

first_entry : (e : Entry) (ys : List ℕ) → Numbered e → entry_at (entry_bytes e ++ ys) 0 ≡ 1
unfolding entry_at entry_bytes
first_entry e ys q = rw (lt-ltb 0 e.node (omega arith))

same_entry : (a b : List ℕ) (i j : ℕ) → get_or a i 0 ≡ get_or b j 0 → entry_at a i ≡ entry_at b j
unfolding entry_at
same_entry a b i j e = rw e

no_entries : (ys : List ℕ) → entries_in (cancel_bytes most_entries [] ++ ys) ≡ 0
unfolding entries_in entry_at cancel_bytes
no_entries ys = refl

no_entry : (ys : List ℕ) → entry_at (cancel_bytes 1 [] ++ ys) 0 ≡ 0
unfolding entry_at cancel_bytes
no_entry ys = refl

-- behind an entry the rest of the buffer decides
behind_entry : (e : Entry) (xs ys : List ℕ) → Numbered e → length e.name ≤ most_name → entries_in ((entry_bytes e ++ xs) ++ ys) ≡ 1 + entry_at (xs ++ ys) 0
unfolding entries_in
behind_entry e xs ys q h =
    let l : (entry_bytes e ++ xs) ++ ys ≡ entry_bytes e ++ (xs ++ ys) = append_assoc (entry_bytes e) xs ys in
    let n : length (entry_bytes e) + 0 ≡ entry_size = let k = length_entry e h in omega arith in
    let g : get_or (entry_bytes e ++ (xs ++ ys)) entry_size 0 ≡ get_or (xs ++ ys) 0 0 =
    ap (λ (k : ℕ). get_or (entry_bytes e ++ (xs ++ ys)) k 0) (sym n) ∙ get_or-append-add (entry_bytes e) (xs ++ ys) 0 0 in
    ap entries_in l ∙ ap (λ (k : ℕ). k + entry_at (entry_bytes e ++ (xs ++ ys)) entry_size) (first_entry e (xs ++ ys) q) ∙ ap (λ (k : ℕ). 1 + k) (same_entry (entry_bytes e ++ (xs ++ ys)) (xs ++ ys) entry_size 0 g)

pub entries-counted : (sent : List ℕ) (es : List Entry) (cancel : List ℕ) → EachOf (Listable sent) es → EachOf Numbered es → length es ≤ most_entries
    → entries_in (put 0 (cancel_bytes most_entries es) cancel) ≡ length es
unfolding put cancel_bytes
entries-counted sent [] cancel p q h = no_entries _
entries-counted sent (e ∷ []) cancel p q h = behind_entry e (cancel_bytes 1 []) _ q.0 p.0.size ∙ ap (λ (k : ℕ). 1 + k) (no_entry _)
entries-counted sent (e ∷ f ∷ []) cancel p q h =
    behind_entry e (entry_bytes f ++ []) _ q.0 p.0.size ∙ ap (λ (k : ℕ). 1 + k) (ap (λ (x : List ℕ). entry_at x 0) (append_assoc (entry_bytes f) [] _) ∙ first_entry f _ q.1.0)
entries-counted sent (e ∷ f ∷ g ∷ es) cancel p q h = absurd (omega arith)

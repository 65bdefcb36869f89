-- The search that notes the place of the first AVP of each key: what the places say at each step, and how one of them leads back to its AVP.
-- Assumes nothing.
use mathlib.Core.Path.{◌≡◌, refl, sym, ap, ◌∙◌}
use mathlib.Core.Bool.{Bool, true, false, cond, ◌&&◌}
use mathlib.Core.Option.{none, some}
use mathlib.Core.Option as Paper
use mathlib.Core.List.{List, [], ◌∷◌, map}
use Prim.Native.Nat.{ℕ, zero, suc, ◌-◌, ◌≤◌, ◌<◌}
use native.Mathlib.Omega.{arith}
use lib.ListN.{length, drop, get_or, set, replicate, length-map, length-set, length-replicate}
use lib.Seq.{get_or-set_same, get_or-set_other}
use lib.Dec.{eqb}
use borrow.Author.Tests.{eqb-true, eqb-false, eq-eqb, lt-leb}
use Rattle.std.specs.Prelude.{Option, Some, None, is_some}
use Rattle.std.specs.Option.{option_map, option_or}
use Rattle.std.specs.List.{find}
use Rattle.std.proofs.lemmas.List.{get_or-map, map-set}
use Rattle.std.proofs.lemmas.Option.{none-some, same_Some}
use Rattle.dictionary.specs.Rows.{key_of}
use Rattle.dictionary.specs.declared.Key.{Key}
use Rattle.paper.specs.Avp.{framed}
use Rattle.paper.specs.Reader.{Placed, avps}
use Rattle.paper.specs.Find.{first_of, first_second}
use Rattle.paper.proofs.AvpsLaws.{Stands, first_of_stands, stands_least}
use Rattle.avp.specs.Step.{key_at, avp_at, step_at}
use Rattle.avp.specs.Walk.{items}
use Rattle.avp.specs.Found.{number, index_of, found_at, found_by, place_of, Noted}
use Rattle.avp.specs.declared.cursor.Avp.{Avp}
use Rattle.avp.proofs.FindLaws.{found_nothing}
use Rattle.avp.proofs.WalkLaws.{keyed, find-first, second_in, second-first}
use Rattle.avp.proofs.SecondLaws.{get_or-same, index_apart, index_below, Walked, walked_start, second_over, second-other, second_mark}

-- ---- keys

-- another key is not the AVP's
other_key : (vendor code : ℕ) (a : Avp) → (key_of vendor code ≡ key_of a.vendor a.code → ⊥) → keyed vendor code a ≡ false
unfolding key_of
other_key vendor code a n = go (eqb a.code code) (eqb a.vendor vendor) refl refl
  where
    go : (x y : Bool) → eqb a.code code ≡ x → eqb a.vendor vendor ≡ y → x && y ≡ false
    go true true e f = let p = eqb-true a.code code e in let q = eqb-true a.vendor vendor f in absurd (n (omega arith))
    go true false e f = refl
    go false y e f = refl

-- codes fit their half of the number, so one number is one key
same_key : (vendor code : ℕ) (a : Avp) → code < 4294967296 → a.code < 4294967296 → key_of vendor code ≡ key_of a.vendor a.code → keyed vendor code a ≡ true
unfolding key_of
same_key vendor code a h k e = rw (eq-eqb a.code code (omega arith), eq-eqb a.vendor vendor (omega arith))

-- ---- the places

-- where what was found stands
abbrev place : Option Avp → Option ℕ
place o = option_map (λ a. a.at) o

place-found : (s : List ℕ) (f : Paper.Option Placed) → place (found_at s f) ≡ place_of f
unfolding avp_at
place-found s none = refl
place-found s (some p) = refl

or_nothing : (p : Option ℕ) → option_or p None ≡ p
or_nothing None = refl
or_nothing (Some p) = refl

-- the search in the list `all` has come to `rest`
pub record Noting (keys : List Key) (all : List Avp) (places : List (Option ℕ)) (rest : List Avp) : Type 0 where
  pub long : length keys ≤ length places
  pub first : (vendor code i : ℕ) → code < 4294967296 → index_of (key_of vendor code) keys ≡ Some i
      → place (find (keyed vendor code) all) ≡ option_or (get_or places i None) (place (find (keyed vendor code) rest))

pub noting_start : (keys : List Key) (n : ℕ) {all rest : List Avp} → rest ≡ all → length keys ≤ n → Noting keys all (replicate n None) rest
noting_start keys n {rest} e h =
    record {
      long = rw (length-replicate {A = Option ℕ} n None) h;
      first = λ vendor code i k m.
          ap (λ (l : List Avp). place (find (keyed vendor code) l)) (sym e)
          ∙ sym (ap (λ (p : Option ℕ). option_or p (place (find (keyed vendor code) rest))) (get_or-same {A = Option ℕ} n i None));
    }

module _ (keys : List Key) (all : List Avp) (places : List (Option ℕ)) {rest : List Avp} (w : Noting keys all places rest) where
  pub noting_over : (s : List ℕ) → all ≡ items s (avps 0 s) → rest ≡ [] → Noted s keys places
  noting_over s whole e =
      record {
        long = w.long;
        first = λ vendor code i k m.
            sym (ap place (sym (find-first s vendor code) ∙ ap (find (keyed vendor code)) (sym whole))
            ∙ w.first vendor code i k m
            ∙ ap (λ (l : List Avp). option_or (get_or places i None) (place (find (keyed vendor code) l))) e
            ∙ or_nothing (get_or places i None))
            ∙ place-found s (first_of vendor code (avps 0 s));
      }

  module _ {a : Avp} {next : List Avp} (e : rest ≡ a ∷ next) where
    abbrev own : ℕ
    own = key_of a.vendor a.code

    abbrev later : ℕ → ℕ → Option ℕ
    later vendor code = place (find (keyed vendor code) next)

    found_by-step : (vendor code : ℕ) {b : Bool} → keyed vendor code a ≡ b → find (keyed vendor code) rest ≡ cond b (Some a) (find (keyed vendor code) next)
    found_by-step vendor code k = ap (find (keyed vendor code)) e ∙ rw k

    -- a key that is not the AVP's
    kept : (vendor code i : ℕ) → code < 4294967296 → index_of (key_of vendor code) keys ≡ Some i → (key_of vendor code ≡ own → ⊥)
        → place (find (keyed vendor code) all) ≡ option_or (get_or places i None) (later vendor code)
    kept vendor code i k m n =
        w.first vendor code i k m
        ∙ ap (λ (o : Option Avp). option_or (get_or places i None) (place o)) (found_by-step vendor code (other_key vendor code a n))

    module _ {k : Key} (is : k ≡ key_at a) where
      -- a key that is not looked for
      pub noting_other : None ≡ index_of (number k) keys → Noting keys all places next
      noting_other h =
          record {
            long = w.long;
            first = λ vendor code i c m.
                kept vendor code i c m
                (λ q. none-some i (h ∙ ap (λ (x : ℕ). index_of x keys) (ap number is ∙ sym q) ∙ m));
          }

      module _ {i : ℕ} (found : Some i ≡ index_of (number k) keys) (narrow : a.code < 4294967296) where
        here : index_of own keys ≡ Some i
        here = ap (λ (x : Key). index_of (number x) keys) (sym is) ∙ sym found

        same_place : (vendor code j : ℕ) → index_of (key_of vendor code) keys ≡ Some j → key_of vendor code ≡ own → j ≡ i
        same_place vendor code j m q = same_Some j i (sym m ∙ ap (λ (x : ℕ). index_of x keys) q ∙ here)

        -- a key that was met before
        pub noting_again : {p : ℕ} → get_or places i None ≡ Some p → Noting keys all places next
        noting_again {p} n = record { long = w.long; first = λ vendor code j c m. go vendor code j c m (eqb (key_of vendor code) own) refl }
          where
            go : (vendor code j : ℕ) → code < 4294967296 → index_of (key_of vendor code) keys ≡ Some j → (b : Bool) → eqb (key_of vendor code) own ≡ b
                → place (find (keyed vendor code) all) ≡ option_or (get_or places j None) (later vendor code)
            go vendor code j c m true q =
                let l = same_place vendor code j m (eqb-true _ _ q) in
                let t : get_or places j None ≡ Some p = rw l n in
                w.first vendor code j c m ∙ rw t
            go vendor code j c m false q = kept vendor code j c m (eqb-false _ _ q)

        -- a key that is met for the first time
        pub noting_mark : get_or places i None ≡ None → Noting keys all (set places i (Some a.at)) next
        noting_mark o = record { long = rw (length-set places i (Some a.at)) w.long; first = λ vendor code j c m. go vendor code j c m (eqb (key_of vendor code) own) refl }
          where
            room : i < length places
            room = let l = w.long in let b = index_below own keys here in omega arith

            go : (vendor code j : ℕ) → code < 4294967296 → index_of (key_of vendor code) keys ≡ Some j → (b : Bool) → eqb (key_of vendor code) own ≡ b
                → place (find (keyed vendor code) all) ≡ option_or (get_or (set places i (Some a.at)) j None) (later vendor code)
            go vendor code j c m true q =
                let l = same_place vendor code j m (eqb-true _ _ q) in
                let there = found_by-step vendor code (same_key vendor code a c narrow (eqb-true _ _ q)) in
                let free : get_or places j None ≡ None = rw l o in
                let noted : get_or (set places i (Some a.at)) j None ≡ Some a.at = rw l (get_or-set_same places i (Some a.at) None room) in
                w.first vendor code j c m ∙ rw (free, noted) (ap place there)
            go vendor code j c m false q =
                rw (get_or-set_other places i j (Some a.at) None (λ t. eqb-false _ _ q (index_apart (key_of vendor code) own keys (rw t at m) here)))
                (kept vendor code j c m (eqb-false _ _ q))

-- ---- whether a key was met twice

-- the search for a second, where none was met: the keys that have a place are the ones that were met
pub record Once (keys : List Key) (all : List Avp) (places : List (Option ℕ)) (rest : List Avp) : Type 0 where
  pub walked : Walked keys all (map is_some places) rest

map-replicate : {A B : Type 0} (f : A → B) (n : ℕ) (x : A) → map f (replicate n x) ≡ replicate n (f x)
map-replicate f zero x = refl
map-replicate f (suc n) x = ap (λ l. f x ∷ l) (map-replicate f n x)

pub once_start : (keys : List Key) (n : ℕ) {all rest : List Avp} → rest ≡ all → Once keys all (replicate n None) rest
once_start keys n e = record { walked = rw (map-replicate is_some n None) (walked_start keys n e) }

module _ (keys : List Key) (all : List Avp) (places : List (Option ℕ)) {rest : List Avp} (o : Once keys all places rest) where
  pub once_over : (s : List ℕ) → all ≡ items s (avps 0 s) → rest ≡ [] → first_second (map number keys) [] (avps 0 s) ≡ none
  once_over s whole e =
      found_nothing s (first_second (map number keys) [] (avps 0 s))
      (sym (sym (second-first s (map number keys)) ∙ ap (second_in (map number keys) []) (sym whole) ∙ second_over keys all (map is_some places) o.walked e))

  module _ {a : Avp} {next : List Avp} (e : rest ≡ a ∷ next) {k : Key} (is : k ≡ key_at a) where
    pub once_other : None ≡ index_of (number k) keys → Once keys all places next
    once_other h = record { walked = second-other keys all (map is_some places) o.walked e is h }

    pub once_mark : {i : ℕ} → Some i ≡ index_of (number k) keys → length keys ≤ length places → get_or places i None ≡ None → (p : ℕ) → Once keys all (set places i (Some p)) next
    once_mark {i} found room free p =
        let below = index_below (number k) keys (sym found) in
        let flag = get_or-map is_some places i None false (omega arith) ∙ ap is_some free in
        record {
          walked = rw (map-set is_some places i (Some p))
              (second_mark keys all (map is_some places) o.walked e is found (rw (length-map places is_some) room) flag);
        }

-- ---- from a place to its AVP

-- the step at the place of what was found comes to it
pub noted_found : (s : List ℕ) (vendor code : ℕ) {p : ℕ} → Some p ≡ place_of (first_of vendor code (avps 0 s)) → found_by (step_at s p) ≡ found_at s (first_of vendor code (avps 0 s))
unfolding step_at
noted_found s vendor code e = go (first_of vendor code (avps 0 s)) (first_of_stands vendor code 0 s) e
  where
    go : (o : Paper.Option Placed) → ((q : Placed) → o ≡ some q → Stands 0 s q) → {p : ℕ} → Some p ≡ place_of o → found_by (step_at s p) ≡ found_at s o
    go none t {p} e = absurd (none-some p (sym e))
    go (some q) t {p} e =
        let here = t q refl in
        let l = stands_least 0 s q here in
        let m = same_Some p q.at e in
        let z : q.at - 0 ≡ p = omega arith in
        let f : framed (drop p s) ≡ true = rw z at here.right in
        rw (lt-leb (length s) p (omega arith), f) (ap (λ (x : ℕ). found_at s (some (record { at = x; end = q.end; avp = q.avp }))) m)

-- no place, and nothing was found
pub noted_nothing : (s : List ℕ) (f : Paper.Option Placed) → None ≡ place_of f → None ≡ found_at s f
noted_nothing s none e = refl
noted_nothing s (some p) e = absurd (none-some p.at e)

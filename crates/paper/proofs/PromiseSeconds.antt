-- "second of an AVP that the command uses": the first such AVP is there exactly if one of the keys stands twice.
-- Assumes nothing.
use mathlib.Core.Path.{◌≡◌, refl, sym, ap, ◌∙◌}
use mathlib.Core.Bool.{Bool, true, false, cond, ◌||◌, false≢true, or-true}
use mathlib.Core.Option.{Option, none, some}
use mathlib.Core.List.{List, [], ◌∷◌, map}
use Prim.Native.Nat.{ℕ, ◌+◌}
use native.Mathlib.Nat.{zero-add}
use native.Mathlib.Omega.{arith}
use lib.Dec.{leb, eqb}
use borrow.Author.Tests.{eqb-true, eqb-false, eq-eqb, ne_eqb, le-leb}
use Rattle.dictionary.specs.Rows.{key_of}
use Rattle.paper.specs.Find.{member, first_second}
use Rattle.paper.specs.Reader.{Placed, Avps, whole, broken, more}
use Rattle.paper.specs.Profile.{imei}
use Rattle.paper.specs.Request.{avps_of, is_there, used, terminal, key_number, earlier, repeated}
use Rattle.paper.specs.Refusals.{times, twice}
use Rattle.paper.proofs.OptionLaws.{earlier-cases}

pub eqb_sym : (a b : ℕ) → eqb a b ≡ eqb b a
eqb_sym a b = go (eqb a b) refl
  where
    go : (x : Bool) → eqb a b ≡ x → x ≡ eqb b a
    go true e = sym (eq-eqb b a (sym (eqb-true a b e)))
    go false e = sym (ne_eqb b a (λ q. eqb-false a b e (sym q)))

-- one of the keys stands twice, those met before counted
seen_twice : List ℕ → List ℕ → Avps → Bool
seen_twice [] met l = false
seen_twice (k ∷ ks) met l = leb 2 (cond (member k met) 1 0 + times k l) || seen_twice ks met l

none_twice : (ks met : List ℕ) (l : Avps) → ((k : ℕ) → times k l ≡ 0) → seen_twice ks met l ≡ false
unfolding seen_twice
none_twice [] met l h = refl
none_twice (k ∷ ks) met l h = rw (h k, none_twice ks met l h) (go (member k met))
  where
    go : (b : Bool) → leb 2 (cond b 1 0 + 0) || false ≡ false
    go true = refl
    go false = refl

module _ (p : Placed) (rest : Avps) where
  abbrev own : ℕ
  own = key_of p.avp.vendor p.avp.code

  -- an AVP whose key is not one of them
  unused_key : (ks met : List ℕ) → member own ks ≡ false → seen_twice ks met (more p rest) ≡ seen_twice ks met rest
  unfolding seen_twice member times
  unused_key [] met h = refl
  unused_key (k ∷ ks) met h = go (eqb own k) refl (unused_key ks met) h
    where
      go : (b : Bool) → eqb own k ≡ b → (member own ks ≡ false → seen_twice ks met (more p rest) ≡ seen_twice ks met rest) → b || member own ks ≡ false
          → leb 2 (cond (member k met) 1 0 + (cond (eqb own k) 1 0 + times k rest)) || seen_twice ks met (more p rest) ≡ leb 2 (cond (member k met) 1 0 + times k rest) || seen_twice ks met rest
      go true e others q = absurd (false≢true (sym q))
      go false e others q = rw (e, zero-add (times k rest), others q)

  -- one that was met before
  met-key : (ks met : List ℕ) → member own ks ≡ true → member own met ≡ true → seen_twice ks met (more p rest) ≡ true
  unfolding seen_twice member times
  met-key [] met h m = absurd (false≢true h)
  met-key (k ∷ ks) met h m = go (eqb own k) refl (λ q. met-key ks met q m) h
    where
      go : (b : Bool) → eqb own k ≡ b → (member own ks ≡ true → seen_twice ks met (more p rest) ≡ true) → b || member own ks ≡ true
          → leb 2 (cond (member k met) 1 0 + (cond (eqb own k) 1 0 + times k rest)) || seen_twice ks met (more p rest) ≡ true
      go true e others q =
          let here : member k met ≡ true = ap (λ (n : ℕ). member n met) (sym (eqb-true own k e)) ∙ m in
          rw (e, here, le-leb 2 (1 + (1 + times k rest)) (omega arith))
      go false e others q = rw (others q) (or-true (leb 2 (cond (member k met) 1 0 + (cond (eqb own k) 1 0 + times k rest))))

  -- one that was not
  unmet_key : (ks met : List ℕ) → member own met ≡ false → seen_twice ks (own ∷ met) rest ≡ seen_twice ks met (more p rest)
  unfolding seen_twice member times
  unmet_key [] met m = refl
  unmet_key (k ∷ ks) met m = rw (unmet_key ks met m, eqb_sym k own) (go (eqb own k) refl)
    where
      go : (b : Bool) → eqb own k ≡ b
          → leb 2 (cond (b || member k met) 1 0 + times k rest) || seen_twice ks met (more p rest) ≡ leb 2 (cond (member k met) 1 0 + (cond b 1 0 + times k rest)) || seen_twice ks met (more p rest)
      go true e =
          let here : member k met ≡ false = ap (λ (n : ℕ). member n met) (sym (eqb-true own k e)) ∙ m in
          rw (here, zero-add (1 + times k rest))
      go false e = rw (zero-add (times k rest))

second-there : (ks met : List ℕ) (l : Avps) → is_there (first_second ks met l) ≡ seen_twice ks met l
unfolding first_second times
second-there ks met whole = sym (none_twice ks met whole (λ k. refl))
second-there ks met (broken p) = sym (none_twice ks met (broken p) (λ k. refl))
second-there ks met (more p rest) = go (member (own p rest) ks) refl (member (own p rest) met) refl (second-there ks met rest) (second-there ks (own p rest ∷ met) rest)
  where
    go : (a : Bool) → member (own p rest) ks ≡ a → (b : Bool) → member (own p rest) met ≡ b → is_there (first_second ks met rest) ≡ seen_twice ks met rest
        → is_there (first_second ks (own p rest ∷ met) rest) ≡ seen_twice ks (own p rest ∷ met) rest
        → is_there (cond a (cond b (some p) (first_second ks (own p rest ∷ met) rest)) (first_second ks met rest)) ≡ seen_twice ks met (more p rest)
    go false e b m later_on unmet = later_on ∙ sym (unused_key p rest ks met e)
    go true e true m later_on unmet = sym (met-key p rest ks met e m)
    go true e false m later_on unmet = unmet ∙ unmet_key p rest ks met m

twice_unmet : (ks : List ℕ) (l : Avps) → seen_twice ks [] l ≡ twice ks l
unfolding seen_twice twice member
twice_unmet [] l = refl
twice_unmet (k ∷ ks) l = rw (zero-add (times k l), twice_unmet ks l)

earlier-there : (a b : Option Placed) → is_there (earlier a b) ≡ is_there a || is_there b
unfolding earlier
earlier-there none b = refl
earlier-there (some p) none = refl
earlier-there (some p) (some q) = earlier-cases (λ o. is_there o ≡ true) p q (λ h. refl) (λ h. refl)

pub repeated-twice : (m : List ℕ) → is_there (repeated m) ≡ twice (map key_number (used m)) (avps_of m) || twice (key_number imei ∷ []) (terminal m)
unfolding repeated
repeated-twice m =
    earlier-there _ _
    ∙ rw (second-there (map key_number (used m)) [] (avps_of m), second-there (key_number imei ∷ []) [] (terminal m), twice_unmet (map key_number (used m)) (avps_of m), twice_unmet (key_number imei ∷ []) (terminal m))

-- The profile against the paper's list of commands: codes that are no command, flag words; and std's search of its keys is the paper's.
-- Assumes nothing.
use mathlib.Core.Path.{◌≡◌, refl, sym}
use mathlib.Core.Bool.{Bool, true, false, ◌&&◌}
use mathlib.Core.Option.{none}
use mathlib.Core.List.{List, [], ◌∷◌, map}
use Prim.Native.Nat.{ℕ}
use lib.Dec.{eqb}
use borrow.Author.Tests.{eq-eqb, ne_eqb, eqb-true, eqb-false}
use Rattle.std.specs.List.{list_any}
use Rattle.dictionary.specs.declared.Key.{Key}
use Rattle.paper.specs.Profile.{command_in, command_of, commands, ulr, pur, nor, ulr_flags, pur_flags, nor_flags}
use Rattle.paper.specs.Request.{has}
use Rattle.paper.specs.Asked.{flags_key}
use Rattle.request.specs.Profile.{key_at}

module _ (code : ℕ) where
  pub no_command : (code ≡ ulr → ⊥) → (code ≡ pur → ⊥) → (code ≡ nor → ⊥) → none ≡ command_of code
  unfolding command_of commands command_in
  no_command a b d = simp (ne_eqb ulr code (λ e. a (sym e)), ne_eqb pur code (λ e. b (sym e)), ne_eqb nor code (λ e. d (sym e)))

  pub flags_of_ulr : code ≡ ulr → ulr_flags ≡ flags_key code
  unfolding flags_key
  flags_of_ulr e = rw (eq-eqb code ulr e)

  pub flags_of_pur : (code ≡ ulr → ⊥) → code ≡ pur → pur_flags ≡ flags_key code
  unfolding flags_key
  flags_of_pur a e = rw (ne_eqb code ulr a, eq-eqb code pur e)

  pub flags_of_others : (code ≡ ulr → ⊥) → (code ≡ pur → ⊥) → nor_flags ≡ flags_key code
  unfolding flags_key
  flags_of_others a b = rw (ne_eqb code ulr a, ne_eqb code pur b)

-- ---- a key among keys

eqb_turned : (a b : ℕ) → eqb a b ≡ eqb b a
eqb_turned a b = go (eqb a b) refl
  where
    go : (x : Bool) → eqb a b ≡ x → x ≡ eqb b a
    go true e = sym (eq-eqb b a (sym (eqb-true a b e)))
    go false e = sym (ne_eqb b a (λ q. eqb-false a b e (sym q)))

and_turned : (a b : Bool) → a && b ≡ b && a
and_turned true true = refl
and_turned true false = refl
and_turned false true = refl
and_turned false false = refl

pub any-has : (key : Key) (keys : List Key) → list_any (λ (k : Key). eqb k.code key.code && eqb k.vendor key.vendor) keys ≡ has (key_at key) (map key_at keys)
unfolding has
any-has key [] = refl
any-has key (k ∷ keys) = rw (and_turned (eqb k.code key.code) (eqb k.vendor key.vendor), eqb_turned k.vendor key.vendor, eqb_turned k.code key.code, any-has key keys)

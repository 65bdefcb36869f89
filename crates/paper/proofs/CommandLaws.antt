-- A known command is one of three, and what holds of each of them holds of it.
-- Assumes nothing.
use mathlib.Core.Path.{◌≡◌, refl, sym, subst}
use mathlib.Core.Bool.{Bool, true, false, cond, false≢true}
use mathlib.Core.Option.{none, some}
use Prim.Native.Nat.{ℕ}
use lib.Dec.{eqb}
use borrow.Author.Tests.{eqb-true}
use Rattle.paper.specs.Profile.{Command, commands, command_in, command_of, ulr, pur, nor}
use Rattle.paper.specs.Request.{is_command}

pub data Recognized (c : ℕ) : Type 0 where
  a_ulr : c ≡ ulr → Recognized c
  a_pur : c ≡ pur → Recognized c
  a_nor : c ≡ nor → Recognized c

command_choice : (c : ℕ) (a b d : Bool) (x y z : Command) → eqb ulr c ≡ a → eqb pur c ≡ b → eqb nor c ≡ d
    → is_command (cond a (some x) (cond b (some y) (cond d (some z) none))) ≡ true → Recognized c
unfolding is_command
command_choice c true b d x y z p q r h = a_ulr (sym (eqb-true ulr c p))
command_choice c false true d x y z p q r h = a_pur (sym (eqb-true pur c q))
command_choice c false false true x y z p q r h = a_nor (sym (eqb-true nor c r))
command_choice c false false false x y z p q r h = absurd (false≢true h)

pub recognized : (c : ℕ) → is_command (command_of c) ≡ true → Recognized c
unfolding command_of commands command_in
recognized c e = command_choice c (eqb ulr c) (eqb pur c) (eqb nor c) _ _ _ refl refl refl e

pub by-command : (P : ℕ → Type 0) → P ulr → P pur → P nor → {c : ℕ} → Recognized c → P c
by-command P a b d (a_ulr e) = subst P (sym e) a
by-command P a b d (a_pur e) = subst P (sym e) b
by-command P a b d (a_nor e) = subst P (sym e) d

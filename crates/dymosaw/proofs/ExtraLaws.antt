-- The AVPs of a success by the command that code tells from the request's number.
-- Assumes nothing.
use Rattle.std.proofs.Common.{◌≡◌, ℕ, ◌+◌, ◌<◌, Bool, true, false, cond, eqb, List, sym, refl, ap, ◌∙◌, arith, eq-eqb, eqb-true}
use mathlib.Core.Option.{Option, none, some}
use Rattle.wire.specs.Number.{num_at}
use Rattle.paper.specs.declared.Asked.{Asked}
use Rattle.std.specs.Prelude.{Some, None, unwrap_or}
use Rattle.paper.specs.declared.Extra.TheVariants.{Ula, Pua}
use Rattle.paper.specs.Avp.{bit}
use Rattle.paper.specs.Layout.{ambr_at}
use Rattle.paper.specs.Profile.{Command, commands, command_in, command_of, ulr, pur, nor}
use Rattle.paper.specs.Request.{command_code}
use Rattle.paper.specs.Asked.{flags_key, asked_of}
use Rattle.paper.specs.Procedures.{Done, skip_subscriber_data, restriction_of}
use Rattle.paper.specs.Outcome.{success_items}
use Rattle.paper.specs.Shown.{extra_of}
use Rattle.paper.proofs.GivenLaws.{flags-given}
use Rattle.paper.proofs.ReplyShown.{ula_shown, pua_shown, noa_shown}

-- the code of a command that was found, 0 where none was
abbrev code_in : Option Command → ℕ
code_in none = 0
code_in (some c) = c.code

-- a command is found by its own code
code-found : (code n : ℕ) → code_in (command_of code) ≡ n → 0 < n → code ≡ n
unfolding command_of command_in commands
code-found code n = go (eqb ulr code) refl (eqb pur code) refl (eqb nor code) refl
  where
    go : (a : Bool) → eqb ulr code ≡ a → (b : Bool) → eqb pur code ≡ b → (c : Bool) → eqb nor code ≡ c
        → code_in (cond a (command_of ulr) (cond b (command_of pur) (cond c (command_of nor) none))) ≡ n → 0 < n → code ≡ n
    go true p b q c r e h = sym (eqb-true ulr code p) ∙ e
    go false p true q c r e h = sym (eqb-true pur code q) ∙ e
    go false p false q true r e h = sym (eqb-true nor code r) ∙ e
    go false p false q false r e h = absurd (omega arith)

pub ulr-code : (code : ℕ) → command_of ulr ≡ command_of code → code ≡ ulr
unfolding command_of command_in commands
ulr-code code e = code-found code ulr (sym (ap code_in e)) (omega arith)

pub pur-code : (code : ℕ) → command_of pur ≡ command_of code → code ≡ pur
unfolding command_of command_in commands
pur-code code e = code-found code pur (sym (ap code_in e)) (omega arith)

pub nor-code : (code : ℕ) → command_of nor ≡ command_of code → code ≡ nor
unfolding command_of command_in commands
nor-code code e = code-found code nor (sym (ap code_in e)) (omega arith)

-- no command has another code
other-code : (code n : ℕ) → none ≡ command_of code → 0 < code_in (command_of n) → eqb code n ≡ false
other-code code n e h = go (eqb code n) refl
  where
    go : (b : Bool) → eqb code n ≡ b → b ≡ false
    go false q = refl
    go true q = let z : 0 ≡ code_in (command_of n) = ap code_in e ∙ ap (λ (k : ℕ). code_in (command_of k)) (eqb-true code n q) in absurd (omega arith)

module _ (asked : Asked) (m r : List ℕ) (d : Done) (told : asked ≡ asked_of m) where
  own_code : asked.command ≡ command_code m
  unfolding asked_of
  own_code = ap (λ (x : Asked). x.command) told

  -- the flag word of a ULR is ULR-Flags
  skips : command_code m ≡ ulr → bit 2 (unwrap_or asked.flags 0) ≡ skip_subscriber_data m
  unfolding asked_of flags_key
  skips u = ap (λ (x : Asked). bit 2 (unwrap_or x.flags 0)) told ∙ ap (bit 2) (flags-given m) ∙ rw u

  pub ula_extra : command_of ulr ≡ command_of asked.command → {skip : Bool} → skip ≡ bit 2 (unwrap_or asked.flags 0) → {restriction uplink downlink : ℕ} → restriction ≡ restriction_of r → uplink ≡ num_at 4 r ambr_at → downlink ≡ num_at 4 r (ambr_at + 4)
      → extra_of (Some (Ula (cond skip None (Some (record { restriction = restriction; uplink = uplink; downlink = downlink }))))) ≡ success_items m r d
  ula_extra e q a b c =
      let u = sym own_code ∙ ulr-code asked.command e in
      ula_shown m r d (eq-eqb (command_code m) ulr u) (q ∙ skips u) a b c

  pub pua_extra : command_of pur ≡ command_of asked.command → {purges : ℕ} → purges ≡ d.purges → extra_of (Some (Pua purges)) ≡ success_items m r d
  pua_extra e f =
      let u = sym own_code ∙ pur-code asked.command e in
      pua_shown m r d (rw u) (rw u) f

  pub noa_extra : command_of nor ≡ command_of asked.command → extra_of None ≡ success_items m r d
  noa_extra e = let u = sym own_code ∙ nor-code asked.command e in noa_shown m r d (rw u) (rw u)

  pub no_extra : none ≡ command_of asked.command → extra_of None ≡ success_items m r d
  unfolding command_of command_in commands
  no_extra e =
      let o : none ≡ command_of (command_code m) = e ∙ ap command_of own_code in
      noa_shown m r d (other-code (command_code m) ulr o (omega arith)) (other-code (command_code m) pur o (omega arith))

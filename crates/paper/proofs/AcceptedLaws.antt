-- What the tests of a request leave, once none refuses it: the values that the procedures and the table rely on.
-- Assumes nothing.
use mathlib.Core.Path.{◌≡◌, refl, sym, ap, ◌∙◌}
use mathlib.Core.Bool.{Bool, true, false, cond, ◌&&◌, ◌||◌}
use mathlib.Core.Option.{Option, none, some}
use mathlib.Core.List.{List, [], ◌∷◌}
use Prim.Native.Nat.{ℕ, ◌≤◌}
use native.Mathlib.Omega.{arith}
use lib.Dec.{leb, eqb}
use lib.ListN.{length}
use borrow.Author.Tests.{eqb-true, leb-true}
use Rattle.std.proofs.lemmas.Bool.{and_parts}
use Rattle.wire.specs.Stretch.{digits}
use Rattle.paper.specs.Layout.{imsi_size, least_imsi, most_digits}
use Rattle.paper.specs.Reader.{Placed, Avps}
use Rattle.paper.specs.Find.{body_found}
use Rattle.paper.specs.Profile.{Key, Command, commands, command_in, command_of, user_name, origin_host, visited_plmn_id}
use Rattle.paper.specs.Request.{avps_of, find, value_of, is_there, has, used_in, required_in, imei_of, refuse, is_command, command_test, missing, first_absent, absent_test, value_test, imsi_digits, is_name, three_bytes, imei_digits, if_used, values_test, refusal, command_code}
use Rattle.paper.specs.Procedures.{sender, imsi_field}
use Rattle.paper.proofs.ViewLaws.{or_else_none}
use Rattle.paper.proofs.FieldLaws.{length-filled}
use Rattle.paper.proofs.CommandLaws.{Recognized, recognized, by-command}
use Rattle.paper.proofs.PassesLaws.{Passes, refusal-passes, untested}
use Rattle.paper.proofs.ProcedureLaws.{Accepted}

-- ---- the AVPs that every command requires

-- a key that every command requires and uses
pub record Common (k : Key) (o : Option Command) : Type 0 where
  pub required : has k (required_in o) ≡ true
  pub used : has k (used_in o) ≡ true

user-common : {code : ℕ} → Recognized code → Common user_name (command_of code)
unfolding has required_in used_in command_of command_in commands
user-common = by-command (λ c. Common user_name (command_of c)) (record { required = refl; used = refl }) (record { required = refl; used = refl }) (record { required = refl; used = refl })

host-common : {code : ℕ} → Recognized code → Common origin_host (command_of code)
unfolding has required_in used_in command_of command_in commands
host-common = by-command (λ c. Common origin_host (command_of c)) (record { required = refl; used = refl }) (record { required = refl; used = refl }) (record { required = refl; used = refl })

-- ---- a required AVP is there

there_again : (k j : Key) (l : Avps) → eqb k.vendor j.vendor && eqb k.code j.code ≡ true → is_there (find j l) ≡ true → is_there (find k l) ≡ true
there_again k j l e h =
    let v = eqb-true k.vendor j.vendor (and_parts (eqb k.vendor j.vendor) (eqb k.code j.code) e).0 in
    let c = eqb-true k.code j.code (and_parts (eqb k.vendor j.vendor) (eqb k.code j.code) e).1 in
    rw (v, c) h

pub required-there : (ks : List Key) (k : Key) (l : Avps) → first_absent ks l ≡ none → has k ks ≡ true → is_there (find k l) ≡ true
unfolding first_absent has
required-there [] k l e h = let z : ◌≡◌ {A = ℕ} 0 1 = cc in absurd (omega arith)
required-there (j ∷ ks) k l e h = go (is_there (find j l)) refl e (eqb k.vendor j.vendor && eqb k.code j.code) refl h (required-there ks k l)
  where
    go : (b : Bool) → is_there (find j l) ≡ b → cond b (first_absent ks l) (refuse 5005 (some (missing j))) ≡ none
        → (s : Bool) → eqb k.vendor j.vendor && eqb k.code j.code ≡ s → s || has k ks ≡ true
        → (first_absent ks l ≡ none → has k ks ≡ true → is_there (find k l) ≡ true) → is_there (find k l) ≡ true
    go true t e true q h ih = there_again k j l q t
    go true t e false q h ih = ih e h
    go false t e s q h ih = let z : ◌≡◌ {A = ℕ} 0 1 = cc in absurd (omega arith)

-- ---- the values

value_right_lem : (right : List ℕ → Bool) (o : Option Placed) → is_there o ≡ true → value_test right o ≡ none → right (body_found o) ≡ true
unfolding value_test
value_right_lem right none t e = let z : ◌≡◌ {A = ℕ} 0 1 = cc in absurd (omega arith)
value_right_lem right (some p) t e = untested (right p.avp.body) _ e

-- of an AVP that every command requires the data passed its test
common-right : (right : List ℕ → Bool) (k : Key) (m : List ℕ) → Passes m → Common k (command_of (command_code m)) → value_test right (if_used k m) ≡ none → right (value_of k m) ≡ true
unfolding absent_test value_of
common-right right k m t c e =
    let f : if_used k m ≡ find k (avps_of m) = ap (λ (b : Bool). cond b (find k (avps_of m)) none) c.used in
    value_right_lem right (find k (avps_of m)) (required-there (required_in (command_of (command_code m))) k (avps_of m) t.absent c.required) (sym (ap (value_test right) f) ∙ e)

module _ (m : List ℕ) (n : refusal m ≡ none) where
  a-command : Recognized (command_code m)
  unfolding command_test
  a-command = recognized (command_code m) (untested (is_command (command_of (command_code m))) _ (refusal-passes m n).command)

  pub user-digits : imsi_digits (value_of user_name m) ≡ true
  unfolding values_test
  user-digits =
      let t = refusal-passes m n in
      common-right imsi_digits user_name m t (user-common a-command) (or_else_none (value_test imsi_digits (if_used user_name m)) _ t.values).0

  pub sender-name : is_name (sender m) ≡ true
  unfolding values_test
  sender-name =
      let t = refusal-passes m n in
      let a = (or_else_none (value_test imsi_digits (if_used user_name m)) _ t.values).1 in
      common-right is_name origin_host m t (host-common a-command) (or_else_none (value_test is_name (if_used origin_host m)) _ a).0

  imei-passed : value_test imei_digits (imei_of m) ≡ none
  unfolding values_test
  imei-passed =
      let t = refusal-passes m n in
      let a = (or_else_none (value_test imsi_digits (if_used user_name m)) _ t.values).1 in
      let b = (or_else_none (value_test is_name (if_used origin_host m)) _ a).1 in
      let c = (or_else_none (value_test three_bytes (if_used visited_plmn_id m)) _ b).1 in
      (or_else_none (value_test imei_digits (imei_of m)) _ c).0

  -- what the procedures ask of a request
  pub accepted : Accepted m
  accepted = record { sender-name = sender-name; imei-right = λ p e. value_right_lem imei_digits (some p) refl (ap (value_test imei_digits) (sym e) ∙ imei-passed) }

  -- and of its IMEI, as digits beside the request's numbers
  pub imei_digits_lem : is_there (imei_of m) ≡ true → imei_digits (body_found (imei_of m)) ≡ true
  imei_digits_lem t = value_right_lem imei_digits (imei_of m) t imei-passed

  pub user-few : length (value_of user_name m) ≤ most_digits
  unfolding imsi_digits
  user-few =
      let x = value_of user_name m in
      leb-true (length x) most_digits
      (and_parts (leb least_imsi (length x)) (leb (length x) most_digits) (and_parts (leb least_imsi (length x) && leb (length x) most_digits) (digits x) user-digits).0).1

  -- the IMSI "as stored" has 16 bytes
  pub length-imsi : length (imsi_field m) ≡ imsi_size
  unfolding imsi_field
  length-imsi = length-filled most_digits (value_of user_name m) user-few

-- A request that no Result-Code refuses passed every test of 01, and the other way round.
-- Assumes nothing.
use mathlib.Core.Path.{◌≡◌, refl}
use mathlib.Core.Bool.{Bool, true, false, cond}
use mathlib.Core.Option.{none, some}
use mathlib.Core.List.{List}
use Prim.Native.Nat.{ℕ}
use native.Mathlib.Omega.{arith}
use Rattle.paper.specs.Request.{Refusal, version_test, length_test, error_test, fault_test, application_test, command_test, unsupported_test, repeated_test, absent_test, values_test, refusal}
use Rattle.paper.proofs.ViewLaws.{or_else_none}

pub record Passes (m : List ℕ) : Type 0 where
  pub version : version_test m ≡ none
  pub size : length_test m ≡ none
  pub error : error_test m ≡ none
  pub fault : fault_test m ≡ none
  pub application : application_test m ≡ none
  pub command : command_test m ≡ none
  pub unsupported : unsupported_test m ≡ none
  pub repeated : repeated_test m ≡ none
  pub absent : absent_test m ≡ none
  pub values : values_test m ≡ none

pub refusal-passes : (m : List ℕ) → refusal m ≡ none → Passes m
unfolding refusal
refusal-passes m e =
    let a = or_else_none (version_test m) _ e in
    let b = or_else_none (length_test m) _ a.1 in
    let c = or_else_none (error_test m) _ b.1 in
    let d = or_else_none (fault_test m) _ c.1 in
    let f = or_else_none (application_test m) _ d.1 in
    let g = or_else_none (command_test m) _ f.1 in
    let h = or_else_none (unsupported_test m) _ g.1 in
    let i = or_else_none (repeated_test m) _ h.1 in
    let j = or_else_none (absent_test m) _ i.1 in
    record {
      version = a.0;
      size = b.0;
      error = c.0;
      fault = d.0;
      application = f.0;
      command = g.0;
      unsupported = h.0;
      repeated = i.0;
      absent = j.0;
      values = (or_else_none (values_test m) none j.1).0;
    }

pub passes-refusal : (m : List ℕ) → Passes m → refusal m ≡ none
unfolding refusal
passes-refusal m p =
    rw (p.version, p.size, p.error, p.fault, p.application, p.command, p.unsupported, p.repeated, p.absent, p.values)

-- a test that refuses where its condition fails, passed
pub untested : (b : Bool) (x : Refusal) → cond b none (some x) ≡ none → b ≡ true
untested true x e = refl
untested false x e = let z : ◌≡◌ {A = ℕ} 0 1 = cc in absurd (omega arith)

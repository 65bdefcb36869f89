-- What an accepted request comes to: the record with its IMSI, before and after, and the entries of the cancel buffer.
-- Assumes nothing.
use mathlib.Core.Path.{◌≡◌, refl, ap, ◌∙◌}
use mathlib.Core.Option.{Option, none, some}
use Prim.Native.Nat.{ℕ, ◌<◌}
use native.Mathlib.Omega.{arith}
use Rattle.paper.specs.Layout.{most_entries}
use Rattle.paper.specs.Table.{lookup, record_of, count_of}
use Rattle.paper.specs.Request.{refusal}
use Rattle.paper.specs.Procedures.{imsi_field, carried_out}
use Rattle.paper.specs.Clerks.{record_at_place, record_with}
use Rattle.paper.specs.Outcome.{Lent, Outcome, silent, answered, refusal_reply, experimental_reply, success_reply, outcome}
use Rattle.paper.specs.Read.{before, after, entries_in, listed_by}
use Rattle.paper.specs.Refusals.{result, said_by, said}
use Rattle.paper.specs.Promises.{Accepted}
use Rattle.paper.proofs.TableLaws.{lookup_some}
use Rattle.paper.proofs.EntryLaws.{EachOf}
use Rattle.paper.proofs.ProcedureLaws.{carried_lookup, carried_few}
use Rattle.paper.proofs.AcceptedLaws.{accepted}
use Rattle.paper.proofs.OutcomeLaws.{Comes, silence, refused, ruled, done, outcome-comes}
use Rattle.paper.proofs.PromiseTests.{refusal_otherwise}
use Rattle.paper.proofs.PromiseEntries.{Readable, entries_back}
use Rattle.paper.specs.Passed.{Passed}

pub record Success (l : Lent) : Type 0 where
  pub place : ℕ
  pub passed : Passed l
  pub unrefused : refusal l.request ≡ none
  pub found : lookup (imsi_field l.request) l.table ≡ some place
  pub comes : outcome l ≡ answered l (carried_out l.request place l.table).table (carried_out l.request place l.table).entries (success_reply l.request (record_of l.table place) (carried_out l.request place l.table))

by-comes : (l : Lent) (o : Outcome) → Comes l o → outcome l ≡ o → said o ≡ result 2001 → Success l
unfolding said said_by silent answered refusal_reply experimental_reply
by-comes l o (silence n) q e = let z : ◌≡◌ {A = ℕ} 0 1 = cc in absurd (omega arith)
by-comes l o (refused p x r) q e = let c : x.code ≡ 2001 = cc in absurd (refusal_otherwise l.request x r c)
by-comes l o (ruled p n code) q e = let z : ◌≡◌ {A = ℕ} 0 1 = cc in absurd (omega arith)
by-comes l o (done p n i f) q e = record { place = i; passed = p; unrefused = n; found = f; comes = q }

pub success : (l : Lent) → Accepted l → Success l
success l e = by-comes l (outcome l) (outcome-comes l) refl e

module _ (l : Lent) (s : Success l) where
  pub inside : s.place < count_of l.table
  inside = (lookup_some (imsi_field l.request) l.table s.place s.found).0

  pub before-is : before l ≡ record_of l.table s.place
  unfolding record_with record_at_place
  before-is = ap (λ (o : Option ℕ). record_at_place o l.table) s.found

  pub after_is : after l ≡ record_of (carried_out l.request s.place l.table).table s.place
  unfolding record_with record_at_place answered
  after_is =
      let t' = (carried_out l.request s.place l.table).table in
      let same = carried_lookup l.request s.place l.table (accepted l.request s.unrefused) s.passed.table_valid inside (imsi_field l.request) in
      ap (λ (o : Outcome). record_with (imsi_field l.request) o.table) s.comes
      ∙ ap (λ (o : Option ℕ). record_at_place o t') (same ∙ s.found)

  pub listed-is : EachOf Readable (carried_out l.request s.place l.table).entries → listed_by l ≡ (carried_out l.request s.place l.table).entries
  unfolding answered
  listed-is each =
      ap (λ (o : Outcome). entries_in most_entries 0 o.cancel) s.comes
      ∙ entries_back (carried_out l.request s.place l.table).entries l.cancel each (carried_few l.request s.place l.table)

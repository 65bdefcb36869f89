-- Promise: the record of an IMSI, in any valid table and of a request before and after the call.
-- Assumes nothing.
use mathlib.Core.Path.{◌≡◌, refl, sym, ap, ◌∙◌, subst}
use mathlib.Core.Bool.{true}
use mathlib.Core.Option.{Option}
use mathlib.Core.List.{List}
use Prim.Native.Nat.{ℕ}
use Rattle.paper.specs.Table.{valid, lookup, record_of, count_of}
use Rattle.paper.specs.Fields.{filled}
use Rattle.paper.specs.Procedures.{imsi_field}
use Rattle.paper.specs.Clerks.{record_at_place, record_with}
use Rattle.paper.specs.Outcome.{Lent, outcome}
use Rattle.paper.specs.Read.{before, after}
use Rattle.paper.specs.Refusals.{imsi_stored, imsi_sent}
use Rattle.paper.specs.ItsRecord.{ItsRecord, RequestRecord}
use Rattle.paper.proofs.TableLaws.{valid_parts, lookup_some, lookup-at, none_found}
use Rattle.paper.proofs.SaidLaws.{imsi-at}
use Rattle.paper.proofs.OutcomeLaws.{outcome-valid}
use Rattle.paper.proofs.PromiseUntouched.{outcome-lookup}

pub its_record : (imsi t : List ℕ) → valid t ≡ true → ItsRecord imsi t (lookup imsi t) (record_with imsi t)
unfolding count_of record_with record_at_place record_of
its_record imsi t v =
    record {
      counted = λ i e. (lookup_some imsi t i e).0;
      has_imsi = λ i e. sym (imsi-at t i) ∙ (lookup_some imsi t i e).1;
      bytes = λ i e. ap (λ (o : Option ℕ). record_at_place o t) e;
      no_other = λ i j e h q. let at = lookup-at imsi t j (valid_parts t v) h (imsi-at t j ∙ q) in cc;
      none_has = λ e j h q. none_found imsi t j (valid_parts t v) e h (imsi-at t j ∙ q);
      no_bytes = λ e. ap (λ (o : Option ℕ). record_at_place o t) e;
    }

-- the IMSI of User-Name, as stored
imsi_sent_lem : (m : List ℕ) → imsi_field m ≡ imsi_sent m
unfolding imsi_field filled imsi_stored
imsi_sent_lem m = refl

pub request_record : (l : Lent) → valid l.table ≡ true → RequestRecord l.request l.table (outcome l).table (before l) (after l)
request_record l v =
    record {
      place = lookup (imsi_field l.request) l.table;
      was = rw (sym (imsi_sent_lem l.request)) (its_record (imsi_field l.request) l.table v);
      is =
          rw (sym (imsi_sent_lem l.request))
          (subst (λ (o : Option ℕ). ItsRecord (imsi_field l.request) (outcome l).table o (after l)) (outcome-lookup l (imsi_field l.request))
          (its_record (imsi_field l.request) (outcome l).table (outcome-valid l v)));
    }

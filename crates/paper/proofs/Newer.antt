-- Demand 3 over `outcome`: a request from a newer node comes to what the request itself comes to; with an added AVP that has M it is refused for the
-- first such AVP, and nothing is changed. Assumes nothing.
use mathlib.Core.Path.{◌≡◌, refl, sym, ap, ◌∙◌}
use mathlib.Core.Bool.{true}
use mathlib.Core.Option.{Option, none, some}
use mathlib.Core.List.{List, []}
use Prim.Native.Nat.{ℕ}
use lib.ListN.{length, drop}
use borrow.Author.Tests.{le-ltb}
use Rattle.dictionary.specs.Rows.{kind_of}
use Rattle.paper.specs.Avp.{Avp}
use Rattle.paper.specs.Reader.{most_groups}
use Rattle.paper.specs.Widened.{shown_of}
use Rattle.paper.specs.Layout.{message_header, least_request, most_request}
use Rattle.paper.specs.Table.{lookup, record_of}
use Rattle.paper.specs.Request.{command_code, view_of, Refusal}
use Rattle.paper.specs.Procedures.{Entry, imsi_field}
use Rattle.paper.specs.Answer.{Reply}
use Rattle.paper.specs.Outcome.{Lent, answered, refusal_reply, experimental_reply, success_reply, by_verdict, by_record, by_refusal, outcome}
use Rattle.paper.specs.Newer.{seen_by, top_level, SameHeader, Fits, WidenedRequest, asking, Accepted, NewerSame, unsupported_answer, unsupported_outcome, NewerUnsupported}
use Rattle.paper.proofs.WidenedView.{widened_view}
use Rattle.paper.proofs.NewerTree.{view-refused}
use Rattle.paper.proofs.NewerUse.{used_part}
use Rattle.paper.proofs.PassesLaws.{Passes, passes-refusal}
use Rattle.paper.proofs.NewerRequest.{Like, known_of, passes-clear, clear-seen, refused-second, passes-second}
use Rattle.paper.proofs.NewerAccepted.{Tested, tested_outcome, accepted_tested, accepted-passes}
use Rattle.paper.proofs.NewerCommands.{imsi_kept, answer_kept, experimental_kept, done_kept, items_kept}
use Rattle.paper.proofs.EntryLaws.{no_entries}

-- ---- refused for an unknown AVP

abbrev unsupported : Avp → Refusal
unsupported a = record { code = 5001; failed = some a; echo = true }

refused-outcome : (l : Lent) (a : Avp) → answered l l.table [] (refusal_reply (unsupported a)) ≡ unsupported_outcome l a
unfolding answered refusal_reply unsupported_outcome unsupported_answer
refused-outcome l a = rw no_entries

-- ---- requests that agree

module _ (l : Lent) {n : List ℕ} {a : Option Avp} (p : Passes l.request) (k : Like l.request n a) where
  answered_kept : (t : List ℕ) (es : List Entry) (y : Reply) → answered (asking l n) t es y ≡ answered l t es y
  unfolding answered asking
  answered_kept t es y = rw (answer_kept p k l.host l.realm y)

  verdict_kept : (i : ℕ) (r : List ℕ) (o : Option ℕ) → by_verdict (asking l n) i r o ≡ by_verdict l i r o
  unfolding by_verdict asking success_reply
  verdict_kept i r (some code) = answered_kept l.table [] (experimental_reply code)
  verdict_kept i r none = rw (done_kept p k i l.table, items_kept p k r) (answered_kept _ _ _)

  record_kept : (o : Option ℕ) → by_record (asking l n) o ≡ by_record l o
  unfolding by_record asking
  record_kept none = answered_kept _ _ _
  record_kept (some i) = rw (experimental_kept p k (record_of l.table i)) (verdict_kept i (record_of l.table i) _)

  pub outcome_kept : a ≡ none → Tested l → Tested (asking l n) → outcome (asking l n) ≡ outcome l
  unfolding by_refusal asking
  outcome_kept e t u =
      tested_outcome (asking l n) u
      ∙ rw (passes-refusal n (passes-second p k e), passes-refusal l.request p, imsi_kept p k) (record_kept (lookup (imsi_field l.request) l.table))
      ∙ sym (tested_outcome l t)

  pub outcome-refused : (x : Avp) → a ≡ some x → Tested (asking l n) → outcome (asking l n) ≡ unsupported_outcome l x
  unfolding by_refusal asking
  outcome-refused x e t =
      tested_outcome (asking l n) t ∙ rw (refused-second p k x e) (answered_kept l.table [] (refusal_reply (unsupported x)) ∙ refused-outcome l x)

-- ---- the promises

-- a widened request is tested like the request
pub asked_tested : (l : Lent) (n : List ℕ) → Tested l → SameHeader l.request n → Fits n → Tested (asking l n)
unfolding asking
asked_tested l n t h f =
    record {
      buffers = t.buffers;
      names = t.names;
      table = t.table;
      size = rw (le-ltb (length n) least_request f.least, le-ltb most_request (length n) f.most);
      kind = rw h.request t.kind;
    }

-- a widened request agrees with the request
pub widened_like : (m n : List ℕ) (a : Option Avp) → Passes m → WidenedRequest m n a → Like m n a
unfolding view_of known_of
widened_like m n a p w =
    let c = command_code m in
    let second = view-refused kind_of (seen_by c) (λ vendor code x. x) most_groups message_header (drop message_header n) in
    let k = widened_view kind_of (seen_by c) w.avps most_groups message_header message_header (clear-seen c m (passes-clear m p)) in
    record {
      header = w.header;
      fits = w.fits;
      fault = sym second.fault ∙ k.fault;
      unsupported = ap shown_of (sym second.unsupported) ∙ k.unsupported;
      tree = ap (used_part c top_level) k.known;
    }

pub newer_same : NewerSame
newer_same l n h w =
    let p = accepted-passes l h in
    let t = accepted_tested l h in
    outcome_kept l p (widened_like l.request n none p w) refl t (asked_tested l n t w.header w.fits)

pub newer_unsupported : NewerUnsupported
newer_unsupported l n a h w =
    let p = accepted-passes l h in
    outcome-refused l p (widened_like l.request n (some a) p w) a refl (asked_tested l n (accepted_tested l h) w.header w.fits)

-- what comes to the same is accepted too, so that one change may follow another
pub accepted_again : (l : Lent) (n : List ℕ) → Accepted l → outcome (asking l n) ≡ outcome l → Accepted (asking l n)
accepted_again l n h e = rw e h

-- What an answered call leaves, from what its parts wrote: refusals with an answer, Experimental results, success.
-- Assumes nothing.
use Rattle.std.proofs.Common.{◌≡◌, ℕ, ◌+◌, ◌≤◌, Bool, true, List, [], length, sym, refl, ap, ◌∙◌, subst, zero-add}
use mathlib.Core.Option.{none}
use Rattle.std.specs.Prelude as Given
use Rattle.std.specs.Prelude.{Result, Ok, Err, Some, None, IfSome}
use Rattle.wire.specs.Put.{put, Wrote}
use Rattle.paper.specs.declared.Verdict.{Verdict}
use Rattle.paper.specs.declared.Verdict.TheVariants.{Base, Experimental}
use Rattle.paper.specs.declared.ExperimentalCode.{ExperimentalCode}
use Rattle.paper.specs.declared.Failed.{Failed}
use Rattle.paper.specs.declared.Extra.{Extra}
use Rattle.paper.specs.Layout.{record_size, imsi_size, most_digits, most_entries}
use Rattle.paper.specs.Fields.{filled}
use Rattle.paper.specs.Profile.{user_name}
use Rattle.paper.specs.Table.{valid, record_at, record_of, lookup}
use Rattle.paper.specs.Request.{refusal, value_of, imei_digits, is_name}
use Rattle.paper.specs.Asked.{imei_in}
use Rattle.paper.specs.Procedures.{Entry, sender, experimental, carried_out, cancel_bytes, imsi_field}
use Rattle.paper.specs.Answer.{Reply, answer}
use Rattle.paper.specs.Shown.{verdict_of, extra_of, reply_of}
use Rattle.paper.specs.ShownIn.{ShownIn}
use Rattle.paper.specs.Outcome.{Lent, Outcome, answered, experimental_reply, success_items, by_verdict, by_record, by_refusal}
use Rattle.paper.specs.Passed.{Passed}
use Rattle.paper.proofs.TableLaws.{lookup_some}
use Rattle.paper.proofs.StoreLaws.{inside-valid}
use Rattle.paper.proofs.AcceptedLaws.{sender-name, user-few, length-imsi}
use Rattle.paper.proofs.GivenLaws.{digits-given}
use Rattle.paper.proofs.ProcedureLaws.{carried_each, carried_few}
use Rattle.paper.proofs.ListedLaws.{carried_numbered}
use Rattle.paper.proofs.AnswerSizes as Sizes
use Rattle.paper.proofs.AnswerSizes.{ReplyTo}
use Rattle.paper.proofs.ReplyShown.{refusal-shown, experimental-shown, success-shown}
use Rattle.answer.specs.Ask.{AnswerAsk, said}
use Rattle.answer.specs.declared.reply.Reply as Written
use Rattle.answer.proofs.AskLaws.{answer-ask}
use Rattle.procedures.specs.Values.{Held, code_of, Carried}
use Rattle.request.specs.declared.tests.Refusal as Request
use Rattle.request.specs.Test.{refusal_in, PlacesIn, Answers}
use Rattle.table.specs.Found.{place_of}
use Rattle.dymosaw.specs.Serve.{came_to, entries_in}
use Rattle.dymosaw.proofs.CountLaws.{entries-counted}

-- ---- what was written is the outcome

-- an answer at the start of its buffer, and a list at the start of its own
pub answered_came : (l : Lent) (t : List ℕ) (es : List Entry) (v : Verdict) (y : Reply) {n k : ℕ} {a c : List ℕ} → y.verdict ≡ verdict_of v → k ≡ length es
    → Wrote l.answer 0 (answer l.request l.host l.realm y) a n → c ≡ put 0 (cancel_bytes most_entries es) l.cancel
    → came_to (Ok (record { verdict = v; length = n; listed = k })) t a c ≡ answered l t es y
unfolding answered
answered_came l t es v y said count w list =
    let size = w.next ∙ zero-add (length (answer l.request l.host l.realm y)) in
    rw (size, count, w.made, list, said)

pub reply_said : (m : List ℕ) (v : Verdict) (f : Given.Option Failed) (x : Given.Option Extra) (echo : Bool) → (reply_of m v f x echo).verdict ≡ verdict_of v
unfolding reply_of
reply_said m v f x echo = refl

-- what an Experimental-Result replies
abbrev replied : ExperimentalCode → Written.Reply
replied c = record { verdict = Experimental c; failed = None; extra = None; echo = true }

said-replied : (l : Lent) (c : ExperimentalCode) {y : Written.Reply} → y ≡ replied c → answered l l.table [] (said l.request y) ≡ answered l l.table [] (experimental_reply c.0)
said-replied l c e = ap (λ (y : Written.Reply). answered l l.table [] (said l.request y)) e ∙ ap (answered l l.table []) (experimental-shown l.request c.0)

-- ---- what the writer of the answer asks

module _ (l : Lent) (p : Passed l) where
  ask_for : (f : Given.Option Failed) {y : Reply} → ShownIn l.request f → ReplyTo l.request y → AnswerAsk l.answer l.request l.host l.realm f y
  ask_for f r t = answer-ask l.answer l.request l.host l.realm f p.answer_room p.least p.most p.host_name p.realm_name r t

  pub ask-experimental : refusal l.request ≡ none → (c : ExperimentalCode) → {y : Written.Reply} → y ≡ replied c → AnswerAsk l.answer l.request l.host l.realm y.failed (said l.request y)
  ask-experimental n c e =
      subst (λ (y : Written.Reply). AnswerAsk l.answer l.request l.host l.realm y.failed (said l.request y)) (sym e)
      (subst (AnswerAsk l.answer l.request l.host l.realm None) (sym (experimental-shown l.request c.0)) (ask_for None tt (Sizes.experimental c.0 n)))

  pub ask-success : refusal l.request ≡ none → (r : List ℕ) (i : ℕ) (x : Given.Option Extra) → extra_of x ≡ success_items l.request r (carried_out l.request i l.table)
      → AnswerAsk l.answer l.request l.host l.realm None (reply_of l.request (Base (record { 0 = 2001 })) None x true)
  ask-success n r i x e =
      subst (AnswerAsk l.answer l.request l.host l.realm None) (sym (success-shown l.request r (carried_out l.request i l.table) x e)) (ask_for None tt (Sizes.success r _ n))

-- ---- a refusal with a Result-Code

module _ (l : Lent) {r : Result (Unit {0}) Request.Refusal} (j : Answers l.request (refusal l.request) r) where
  module _ (x : Request.Refusal) (e : r ≡ Err x) where
    the_refusal : refusal l.request ≡ refusal_in l.request (Err x)
    the_refusal = sym j.same ∙ ap (refusal_in l.request) e

    pub ask-refusal : Passed l → AnswerAsk l.answer l.request l.host l.realm x.failed (reply_of l.request (Base x.code) x.failed None x.echo)
    ask-refusal p =
        subst (AnswerAsk l.answer l.request l.host l.realm x.failed) (sym (refusal-shown l.request _ x.failed refl))
        (ask_for l p x.failed (subst (PlacesIn l.request) e j.places) (Sizes.refused _ the_refusal))

    pub refused-outcome : {o : Outcome} → o ≡ answered l l.table [] (reply_of l.request (Base x.code) x.failed None x.echo) → o ≡ by_refusal l (refusal l.request)
    unfolding by_refusal
    refused-outcome e = e ∙ ap (answered l l.table []) (refusal-shown l.request _ x.failed refl) ∙ sym (ap (by_refusal l) the_refusal)

  module _ {u : Unit {0}} (e : r ≡ Ok u) where
    pub none_fails : refusal l.request ≡ none
    none_fails = sym j.same ∙ ap (refusal_in l.request) e

    pub accepted-outcome : {o : Outcome} → o ≡ by_record l (lookup (imsi_field l.request) l.table) → o ≡ by_refusal l (refusal l.request)
    unfolding by_refusal
    accepted-outcome q = q ∙ sym (ap (by_refusal l) none_fails)

-- ---- no such IMSI, and a record found

module _ (l : Lent) {r : Given.Option ℕ} (f : place_of r ≡ lookup (imsi_field l.request) l.table) where
  pub unknown-outcome : r ≡ None → {y : Written.Reply} → y ≡ replied (record { 0 = 5001 }) → {o : Outcome} → o ≡ answered l l.table [] (said l.request y) → o ≡ by_record l (lookup (imsi_field l.request) l.table)
  unfolding by_record
  unknown-outcome e y q = q ∙ said-replied l (record { 0 = 5001 }) y ∙ ap (by_record l) (sym (ap place_of e) ∙ f)

  module _ (i : ℕ) (e : r ≡ Some i) where
    pub found_held : valid l.table ≡ true → Held l.table i
    found_held v = record { right = v; below = (lookup_some (imsi_field l.request) l.table i (sym f ∙ ap place_of e)).0 }

    pub found-outcome : {o : Outcome} → o ≡ by_verdict l i (record_of l.table i) (experimental l.request (record_of l.table i)) → o ≡ by_record l (lookup (imsi_field l.request) l.table)
    unfolding by_record
    found-outcome q = q ∙ ap (by_record l) (sym (ap place_of e) ∙ f)

-- ---- an Experimental-Result, and success

module _ (l : Lent) (i : ℕ) {r : Result (Unit {0}) ExperimentalCode} (f : code_of r ≡ experimental l.request (record_of l.table i)) where
  pub ruled-outcome : (c : ExperimentalCode) → r ≡ Err c → {y : Written.Reply} → y ≡ replied c → {o : Outcome} → o ≡ answered l l.table [] (said l.request y)
      → o ≡ by_verdict l i (record_of l.table i) (experimental l.request (record_of l.table i))
  unfolding by_verdict
  ruled-outcome c e y q = q ∙ said-replied l c y ∙ ap (by_verdict l i (record_of l.table i)) (sym (ap code_of e) ∙ f)

  pub fine-outcome : {u : Unit {0}} → r ≡ Ok u → {o : Outcome} → o ≡ by_verdict l i (record_of l.table i) none → o ≡ by_verdict l i (record_of l.table i) (experimental l.request (record_of l.table i))
  fine-outcome e q = q ∙ ap (by_verdict l i (record_of l.table i)) (sym (ap code_of e) ∙ f)

pub granted : (l : Lent) (i : ℕ) (x : Given.Option Extra) {f n k : ℕ} {t a c : List ℕ} → Held l.table i → Carried (carried_out l.request i l.table) l.cancel f t c
    → extra_of x ≡ success_items l.request (record_of l.table i) (carried_out l.request i l.table)
    → Wrote l.answer 0 (answer l.request l.host l.realm (reply_of l.request (Base (record { 0 = 2001 })) None x true)) a n
    → k ≡ entries_in c
    → came_to (Ok (record { verdict = Base (record { 0 = 2001 }); length = n; listed = k })) t a c ≡ by_verdict l i (record_of l.table i) none
unfolding by_verdict
granted l i x {f} {n} {k} {t} {a} {c} held did e w count =
    let m = l.request in
    let d = carried_out m i l.table in
    let es = d.entries in
    let listed = entries-counted (sender m) es l.cancel (carried_each m i l.table held.right held.below) (carried_numbered m i l.table) (carried_few m i l.table) in
    answered_came l t es (Base (record { 0 = 2001 })) _ (reply_said m _ None x true) (count ∙ ap entries_in did.did.list ∙ listed) w did.did.list
    ∙ ap (λ (u : List ℕ). answered l u es (reply_of m (Base (record { 0 = 2001 })) None x true)) did.did.table
    ∙ ap (answered l d.table es) (success-shown m (record_of l.table i) d x e)

-- ---- what the procedures ask

pub held_inside : {t : List ℕ} {i : ℕ} → Held t i → record_at i + record_size ≤ length t
held_inside {t} {i} h = inside-valid i t h.right h.below

pub named-sender : (m : List ℕ) {x : List ℕ} → x ≡ sender m → refusal m ≡ none → is_name x ≡ true
named-sender m e n = rw e (sender-name m n)

pub few-digits : (m : List ℕ) {x : List ℕ} → x ≡ value_of user_name m → refusal m ≡ none → length x ≤ most_digits
few-digits m e n = rw e (user-few m n)

-- the IMSI "as stored", of the digits that were read
pub imsi-stored : (m : List ℕ) {x f : List ℕ} → f ≡ filled most_digits x → x ≡ value_of user_name m → f ≡ imsi_field m
unfolding imsi_field
imsi-stored m e d = e ∙ ap (filled most_digits) d

pub imsi-long : (m : List ℕ) {f : List ℕ} → f ≡ imsi_field m → refusal m ≡ none → length f ≡ imsi_size
imsi-long m e n = rw e (length-imsi m n)

pub imei-told : (m : List ℕ) {o : Given.Option (List ℕ)} → o ≡ imei_in m → refusal m ≡ none → IfSome o (λ x. imei_digits x ≡ true)
imei-told m e n = subst (λ (o : Given.Option (List ℕ)). IfSome o (λ x. imei_digits x ≡ true)) (sym e) (digits-given m n)

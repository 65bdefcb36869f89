-- Promise: every answer, read by our message reader, has no fault and holds what 01 says, for each kind of outcome.
-- Assumes nothing.
use mathlib.Core.Path.{◌≡◌, refl, sym, ap, ◌∙◌, subst}
use mathlib.Core.Bool.{true, not, false≢true}
use mathlib.Core.Option.{Option, none, some}
use mathlib.Core.List.{List, [], ◌∷◌}
use Prim.Native.Nat.{ℕ, ◌≤◌}
use native.Mathlib.Omega.{arith}
use lib.ListN.{length, drop}
use borrow.Author.Tests.{ne_eqb}
use Rattle.wire.specs.Number.{Bytes}
use Rattle.dictionary.specs.Rows.{kind_of}
use Rattle.paper.specs.declared.Visit.TheVariants.{Clean}
use Rattle.paper.specs.Avp.{Writable}
use Rattle.paper.specs.Reader.{Faulty, most_groups, view, told}
use Rattle.paper.specs.Layout.{most_entries}
use Rattle.paper.specs.Table.{record_of}
use Rattle.paper.specs.Request.{Refusal, avps_of, view_of, find, value_of, number_of, refusal}
use Rattle.paper.specs.Procedures.{Entry, Done, sender, carried_out}
use Rattle.paper.specs.Answer.{Reply, reply_avps}
use Rattle.paper.specs.Passed.{Passed}
use Rattle.paper.specs.Outcome.{Lent, Outcome, silent, answered, refusal_reply, experimental_reply, success_reply, outcome}
use Rattle.paper.specs.Read.{before, answer_of, entries_in, listed_by}
use Rattle.paper.specs.Refusals.{Said, result, said_by, said, is_answered}
use Rattle.paper.specs.Promises.{Accepted}
use Rattle.paper.specs.Profile.{Key, key}
use Rattle.paper.specs.Find.{body_found}
use Rattle.paper.specs.Reader.{Placed}
use Rattle.wire.specs.Number.{num_at}
use Rattle.paper.specs.Firsts.{IsFirst, Keyed, top_of}
use Rattle.paper.specs.ReadBack.{data_in, Held, ReadAs, is_faulty, unechoed, failed_by, held_laid, holds, HeaderRead, ListRead, ReadBack, AnswersReadBack}
use Rattle.paper.proofs.OptionLaws.{Holds}
use Rattle.paper.proofs.FirstLaws.{avps_lie, place_of, first_keyed}
use Rattle.paper.proofs.EntryLaws.{EachOf, Listable}
use Rattle.paper.proofs.ListedLaws.{Numbered, carried_numbered}
use Rattle.paper.proofs.ProcedureLaws.{carried_each, carried_few}
use Rattle.paper.proofs.PassesLaws.{refusal-passes}
use Rattle.paper.proofs.AnswerParts.{length-answer}
use Rattle.paper.proofs.AnswerSizes as Sizes
use Rattle.paper.proofs.AnswerSizes.{ReplyTo, answer-fours}
use Rattle.paper.proofs.OutcomeLaws.{Comes, silence, refused, ruled, done, outcome-comes}
use Rattle.paper.proofs.PromiseTests.{refusal_otherwise}
use Rattle.paper.proofs.PromiseNumbers.{number-said}
use Rattle.paper.proofs.PromiseEntries.{Readable, entries_back, list_read}
use Rattle.paper.proofs.PromiseSuccess.{Success, success, inside, before-is}
use Rattle.paper.proofs.ReadBackAvps.{seen, held_laid_lem, Reads, read_held}
use Rattle.paper.proofs.ReadBackHeader.{told_by, header_read, answer-is, behind-is, answer-avps, answer-short}
use Rattle.paper.proofs.ReadBackPlaces.{failed-read, failed_writable}
use Rattle.paper.proofs.ReadBackRefusals.{no_fault, refusal-told}
use Rattle.paper.proofs.ReadBackParts.{Made, none_made, success-made, Promised, holds-made}
use Rattle.paper.proofs.ReadBackCodes.{proper, told_proper, codes-read}

-- ---- the entries of the cancel buffer

readable-each : (sent : List ℕ) (es : List Entry) → EachOf (Listable sent) es → EachOf Numbered es → EachOf Readable es
readable-each sent [] a b = tt
readable-each sent (e ∷ es) a b = (record { node = b.0; size = a.0.size }, readable-each sent es a.1 b.1)

-- ---- an answer of which the promise holds

-- what a call comes to: the list, the reply, and what the promise says of it
record Answers (l : Lent) (t : List ℕ) (es : List Entry) (y : Reply) : Type 0 where
  comes : outcome l ≡ answered l t es y
  passed : Passed l
  reply : ReplyTo l.request y
  promised : Promised l.request (before l) y
  writable : Holds Writable (failed_by l.request (told_by y.verdict))
  readable : EachOf Readable es
  few : length es ≤ most_entries

module _ (l : Lent) (t : List ℕ) (es : List Entry) (y : Reply) (k : Answers l t es y) where
  its_said : said (outcome l) ≡ told_by y.verdict
  unfolding said answered
  its_said = ap said k.comes

  -- its AVPs, wherever they stand
  abbrev its_avps : List ℕ
  its_avps = reply_avps l.request l.host l.realm y

  abbrev its_held : Held
  its_held = holds l.request l.host l.realm (before l) (told_by y.verdict)

  its_bytes : Made most_groups its_held its_avps
  its_bytes = holds-made l.request l.host l.realm (before l) y k.promised k.writable

  its_reading : Reads most_groups 20 its_avps its_held
  its_reading =
      let s = answer-short l t es y k.comes k.passed in
      rw its_bytes.bytes at (read_held most_groups its_held its_bytes.sound (rw its_bytes.bytes s) 20)

  visited : told (view_of (answer_of l)) ≡ Clean
  unfolding view_of
  visited = ap (λ (x : List ℕ). told (view kind_of seen most_groups 20 x)) (behind-is l t es y k.comes k.passed) ∙ its_reading.clean

  held : ReadAs (avps_of (answer_of l)) its_held
  held = rw (answer-avps l t es y k.comes k.passed) its_reading.these

  laid : drop 20 (answer_of l) ≡ held_laid its_held
  laid = behind-is l t es y k.comes k.passed ∙ sym its_bytes.bytes ∙ sym (held_laid_lem most_groups its_held its_bytes.sound)

  data_found_lem : (o : Option Placed) → body_found o ≡ data_in o
  unfolding data_in
  data_found_lem none = refl
  data_found_lem (some p) = refl

  value_read : (m : List ℕ) (k : Key) → value_of k m ≡ data_in (find k (avps_of m))
  unfolding value_of
  value_read m k = data_found_lem (find k (avps_of m))

  number_read : (m : List ℕ) (k : Key) → number_of k m ≡ num_at 4 (data_in (find k (avps_of m))) 0
  unfolding number_of
  number_read m k = ap (λ (x : List ℕ). num_at 4 x 0) (value_read m k)

  found : (vendor code : ℕ) → IsFirst place_of (Keyed (top_of l.request) vendor code) (find (key vendor code) (avps_of l.request))
  unfolding avps_of
  found vendor code = first_keyed vendor code 20 _ (top_of l.request) (avps_lie 20 (drop 20 l.request))

  its_header : HeaderRead l.request (answer_of l) (told_by y.verdict)
  its_header =
      let n = length-answer l.request l.host l.realm y k.passed.least in
      let s = answer-short l t es y k.comes k.passed in
      rw (answer-is l t es y k.comes)
      (header_read l.request l.host l.realm y k.passed.least (omega arith) (answer-fours l.request l.host l.realm k.reply))

  its_size : length (answer_of l) ≡ (outcome l).size
  unfolding answered
  its_size = ap length (answer-is l t es y k.comes) ∙ sym (ap (λ (o : Outcome). o.size) k.comes)

  its_entries : listed_by l ≡ es
  unfolding answered
  its_entries = ap (λ (o : Outcome). entries_in most_entries 0 o.cancel) k.comes ∙ entries_back es l.cancel k.readable k.few

  its_list : length (listed_by l) ≡ (outcome l).listed
  unfolding answered
  its_list = ap length its_entries ∙ sym (ap (λ (o : Outcome). o.listed) k.comes)

  its_cancel : ListRead (outcome l).cancel (listed_by l)
  unfolding answered
  its_cancel = rw (its_entries, k.comes) (list_read es l.cancel k.readable k.few)

  answer-reads : Bytes l.request → ReadBack l (outcome l)
  answer-reads b =
      let s = told_by y.verdict in
      record {
        header = rw its_said its_header;
        no_fault = visited;
        holding = rw its_said held;
        bytes = rw its_said laid;
        first_found = found;
        value_found = λ vendor code. value_read l.request (key vendor code);
        number_found = λ vendor code. number_read l.request (key vendor code);
        inside_found = λ p. refl;
        failed = rw its_said (failed-read l.request k.passed.least b s (rw k.promised.failed at k.promised.there));
        size = its_size;
        codes = rw its_said (codes-read l.request l.host l.realm (before l) (answer_of l) s (subst (λ (s : Said). proper s ≡ true) its_said (told_proper l)) held);
        listed = its_list;
        cancel = its_cancel;
      }

-- ---- each kind of outcome

unrefused_echoes : (m : List ℕ) → refusal m ≡ none → not (is_faulty (view_of m).fault) ≡ true
unfolding is_faulty
unrefused_echoes m n = ap (λ (o : Option Faulty). not (is_faulty o)) (no_fault m (refusal-passes m n).fault)

-- a Result-Code of 01's table
refusal_promised : (m r : List ℕ) (x : Refusal) → refusal m ≡ some x → Promised m r (refusal_reply x)
unfolding refusal_reply said_by
refusal_promised m r x e =
    let t = refusal-told m e in
    record { echo = t.echo; failed = t.failed; there = t.there; extra = rw (ne_eqb x.code 2001 (refusal_otherwise m x e)) none_made }

-- an Experimental-Result
experimental_promised : (m r : List ℕ) (code : ℕ) → refusal m ≡ none → Promised m r (experimental_reply code)
unfolding experimental_reply said_by unechoed failed_by
experimental_promised m r code n = record { echo = sym (unrefused_echoes m n); failed = refl; there = refl; extra = none_made }

-- success
success_promised : (m : List ℕ) (i : ℕ) (t : List ℕ) → refusal m ≡ none → Promised m (record_of t i) (success_reply m (record_of t i) (carried_out m i t))
unfolding success_reply said_by unechoed failed_by
success_promised m i t n = record { echo = sym (unrefused_echoes m n); failed = refl; there = refl; extra = success-made m i t }

refused_answers : (l : Lent) → Bytes l.request → Passed l → (x : Refusal) → refusal l.request ≡ some x → outcome l ≡ answered l l.table [] (refusal_reply x)
    → Answers l l.table [] (refusal_reply x)
refused_answers l b p x e q =
    record {
      comes = q;
      passed = p;
      reply = Sizes.refused x e;
      promised = refusal_promised l.request (before l) x e;
      writable = failed_writable l.request p.least b (told_by (refusal_reply x).verdict);
      readable = tt;
      few = omega arith;
    }

ruled_answers : (l : Lent) → Passed l → refusal l.request ≡ none → (code : ℕ) → outcome l ≡ answered l l.table [] (experimental_reply code) → Answers l l.table [] (experimental_reply code)
unfolding experimental_reply said_by failed_by
ruled_answers l p n code q =
    record { comes = q; passed = p; reply = Sizes.experimental code n; promised = experimental_promised l.request (before l) code n; writable = tt; readable = tt; few = omega arith }

module _ (l : Lent) (s : Success l) where
  abbrev done-by : Done
  done-by = carried_out l.request s.place l.table

  success_answers : Answers l done-by.table done-by.entries (success_reply l.request (record_of l.table s.place) done-by)
  unfolding success_reply said_by failed_by
  success_answers =
      let m = l.request in
      let i = s.place in
      record {
        comes = s.comes;
        passed = s.passed;
        reply = Sizes.success (record_of l.table i) done-by s.unrefused;
        promised = rw (before-is l s) (success_promised m i l.table s.unrefused);
        writable = tt;
        readable = readable-each (sender m) done-by.entries (carried_each m i l.table s.passed.table_valid (inside l s)) (carried_numbered m i l.table);
        few = carried_few m i l.table;
      }

-- what the answer of an accepted request holds
pub accepted-holds : (l : Lent) → Accepted l → ReadAs (avps_of (answer_of l)) (holds l.request l.host l.realm (before l) (result 2001))
unfolding success_reply said_by
accepted-holds l a = held l _ _ _ (success_answers l (success l a))

by-comes : (l : Lent) → Bytes l.request → (o : Outcome) → Comes l o → outcome l ≡ o → (o.verdict ≡ none → ⊥) → ReadBack l (outcome l)
unfolding silent
by-comes l b o (silence n) q a = absurd (a refl)
by-comes l b o (refused p x e) q a = answer-reads l _ _ _ (refused_answers l b p x e q) b
by-comes l b o (ruled p n code) q a = answer-reads l _ _ _ (ruled_answers l p n code q) b
by-comes l b o (done p n i f) q a = answer-reads l _ _ _ (success_answers l (record { place = i; passed = p; unrefused = n; found = f; comes = q })) b

-- a call that comes to the number 0 has an answer
has-answer : (l : Lent) → (outcome l).number ≡ 0 → (outcome l).verdict ≡ none → ⊥
has-answer l n e = false≢true (sym (ap is_answered e) ∙ (number-said l).answered.0 n)

pub answers_read_back : AnswersReadBack
answers_read_back l b n = by-comes l b (outcome l) (outcome-comes l) refl (has-answer l n)

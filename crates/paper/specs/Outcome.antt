-- What a request comes to, for all bytes: the number returned, the answer's length, and every byte of table, answer buffer and cancel buffer after the call.
-- Assumes nothing.
use Rattle.std.specs.Prelude.{true, cond, ◌&&◌, ◌||◌, not, List, [], ◌++◌, ℕ, length, ltb}
use Rattle.std.proofs.Math.Option.{Option, none, some}
use Rattle.wire.specs.Put.{put}
use Rattle.paper.specs.Layout.{least_answer, cancel_size, least_request, most_request, most_entries}
use Rattle.paper.specs.Profile.{ula_flags, pua_flags}
use Rattle.paper.specs.Table.{valid, lookup, record_of}
use Rattle.paper.specs.Request.{is_request, is_name, Refusal, refusal}
use Rattle.paper.specs.Procedures.{Entry, Done, imsi_field, experimental, carried_out, cancel_bytes, is_ulr, is_pur, skip_subscriber_data}
use Rattle.paper.specs.Answer as Answer
use Rattle.paper.specs.Answer.{Verdict, Reply, answer, number_item, subscription_item}

-- the buffers that a caller lends, and the own names
pub record Lent : Type 0 where
  pub table : List ℕ
  pub request : List ℕ
  pub host : List ℕ
  pub realm : List ℕ
  pub answer : List ℕ
  pub cancel : List ℕ

-- `verdict` and `listed`, what the answer says and how many nodes are listed, are for the caller who does not read the answer
pub record Outcome : Type 0 where
  pub number : ℕ
  pub size : ℕ
  pub verdict : Option Verdict
  pub listed : ℕ
  pub table : List ℕ
  pub answer : List ℕ
  pub cancel : List ℕ

-- a refusal without an answer: "the answer length is 0 and all buffers stay as they came"
unfoldable pub silent : ℕ → Lent → Outcome
silent n l = record { number = n; size = 0; verdict = none; listed = 0; table = l.table; answer = l.answer; cancel = l.cancel }

-- an answer: "Later bytes of the buffer stay"; "Every answered request writes all 136 bytes; later bytes stay."
unfoldable pub answered : Lent → List ℕ → List Entry → Reply → Outcome
answered l t es y =
    record {
      number = 0;
      size = length (answer l.request l.host l.realm y);
      verdict = some y.verdict;
      listed = length es;
      table = t;
      answer = put 0 (answer l.request l.host l.realm y) l.answer;
      cancel = put 0 (cancel_bytes most_entries es) l.cancel;
    }

unfoldable pub refusal_reply : Refusal → Reply
refusal_reply x = record { verdict = Answer.base x.code; failed = x.failed; extra = []; echo = x.echo }

unfoldable pub experimental_reply : ℕ → Reply
experimental_reply code = record { verdict = Answer.experimental code; failed = none; extra = []; echo = true }

-- "on success ULA-Flags 1, and Subscription-Data unless skipped, or PUA-Flags"
unfoldable pub success_items : List ℕ → List ℕ → Done → List ℕ
success_items m r d =
    cond (is_ulr m) (number_item ula_flags 1 ++ cond (skip_subscriber_data m) [] (subscription_item r)) (cond (is_pur m) (number_item pua_flags d.purges) [])

unfoldable pub success_reply : List ℕ → List ℕ → Done → Reply
success_reply m r d = record { verdict = Answer.base 2001; failed = none; extra = success_items m r d; echo = true }

-- a record that was found: an Experimental-Result, or success
unfoldable pub by_verdict : Lent → ℕ → List ℕ → Option ℕ → Outcome
by_verdict l i r (some code) = answered l l.table [] (experimental_reply code)
by_verdict l i r none =
    answered l (carried_out l.request i l.table).table (carried_out l.request i l.table).entries (success_reply l.request r (carried_out l.request i l.table))

-- "5001 no such IMSI"
unfoldable pub by_record : Lent → Option ℕ → Outcome
by_record l none = answered l l.table [] (experimental_reply 5001)
by_record l (some i) = by_verdict l i (record_of l.table i) (experimental l.request (record_of l.table i))

unfoldable pub by_refusal : Lent → Option Refusal → Outcome
by_refusal l (some x) = answered l l.table [] (refusal_reply x)
by_refusal l none = by_record l (lookup (imsi_field l.request) l.table)

-- "Tested in this order": 3, 5, 4, 1, 2
unfoldable pub outcome : Lent → Outcome
outcome l =
    cond (ltb (length l.answer) least_answer || ltb (length l.cancel) cancel_size) (silent 3 l)
    (cond (not (is_name l.host && is_name l.realm)) (silent 5 l)
    (cond (not (valid l.table)) (silent 4 l)
    (cond (ltb (length l.request) least_request || ltb most_request (length l.request)) (silent 1 l)
    (cond (not (is_request l.request)) (silent 2 l)
    (by_refusal l (refusal l.request))))))

-- What the tests of a correction say of the frame and the table, and what a judgement comes to.
-- Assumes nothing.
use Rattle.std.specs.Prelude.{◌≡◌, ℕ, ◌+◌, ◌≤◌, true, List, length, get_or, Result, Ok, Err, IfOk}
use Rattle.wire.specs.Number.{num_at}
use Rattle.paper.specs.Layout.{record_size}
use Rattle.paper.specs.Table.{valid, lookup, record_at}
use Rattle.paper.specs.Correction.{frame_head, frame_version, frame_kind, frame_imsi, frame_value, value_size, value_right, Corrected, accepted, refused, on_record, corrected}
use Rattle.correction.specs.declared.judge.Accepted.{Accepted}
use Rattle.correction.specs.declared.kind.Kind.{Kind}
use Rattle.correction.specs.declared.refusal.Refusal.{Refusal}
use Rattle.correction.specs.Kind.{code_of}
use Rattle.correction.specs.Refusal.{number_of}

-- the frame passes 11, 12 and 13, and this is its kind
pub record HeadRight (f : List ℕ) (k : Kind) : Type 0 where
  pub long : frame_head ≤ length f
  pub whole : num_at 2 f 0 ≡ length f
  pub version : get_or f 2 0 ≡ frame_version
  pub kind : code_of k ≡ frame_kind f

-- the frame passes 14 and 15
pub record ValueRight (f : List ℕ) : Type 0 where
  pub sized : length f ≡ frame_head + value_size (frame_kind f)
  pub right : value_right (frame_kind f) (frame_value f) ≡ true

-- the frame is refused so by every valid table
abbrev pub Refused : List ℕ → Refusal → Type 0
Refused f e = (t : List ℕ) → valid t ≡ true → corrected t f ≡ refused (number_of e) t

-- the tests 16 and 17: the record whose fields are altered, or the refusal
pub record RecordFound (t f : List ℕ) (i : ℕ) : Type 0 where
  pub inside : record_at i + record_size ≤ length t
  pub accepts : on_record (lookup (frame_imsi f) t) f t ≡ accepted i f t

abbrev pub RecordRefused : List ℕ → List ℕ → Refusal → Type 0
RecordRefused t f e = on_record (lookup (frame_imsi f) t) f t ≡ refused (number_of e) t

-- what a judgement of the table and the frame comes to
abbrev pub judged_as : Result Accepted Refusal → List ℕ → List ℕ → Corrected
judged_as (Err e) t f = refused (number_of e) t
judged_as (Ok a) t f = accepted a.record f t

-- what an accepted frame is written with: the record lies in the table, and the value has the size of its kind
pub record Ready (a : Accepted) (t f : List ℕ) : Type 0 where
  pub inside : record_at a.record + record_size ≤ length t
  pub sized : length f ≡ frame_head + value_size (frame_kind f)
  pub kind : code_of a.kind ≡ frame_kind f

pub record Judges (r : Result Accepted Refusal) (t f : List ℕ) (x : Corrected) : Type 0 where
  pub outcome : judged_as r t f ≡ x
  pub ready : IfOk r (λ a. Ready a t f)

-- The header of an answer, read from its bytes, and what stands behind it.
-- Assumes nothing.
use mathlib.Core.Path.{◌≡◌, refl, sym, ap, ◌∙◌, subst}
use mathlib.Core.Bool.{Bool, true, false, cond, ◌&&◌}
use mathlib.Core.Option.{some}
use mathlib.Core.List.{List, [], ◌∷◌, ◌++◌}
use Prim.Native.Nat.{ℕ, ◌+◌, ◌-◌, ◌/◌, ◌%◌, ◌^◌, ◌≤◌, ◌<◌}
use native.Mathlib.Nat.{zero-add}
use native.Mathlib.Omega.{arith}
use lib.Dec.{leb, eqb}
use lib.ListN.{length, take, drop, get_or, get_or-append}
use lib.Seq.{drop_at, get_or-append-add}
use borrow.Author.Tests.{leb-true, leb-false, eq-eqb, ne_eqb}
use Rattle.wire.specs.Number.{be, num_at}
use Rattle.wire.specs.Put.{part, put}
use Rattle.wire.proofs.ListLaws.{length_part, get_d_part}
use Rattle.wire.proofs.NumberLaws.{num_at_agree}
use Rattle.wire.proofs.PutLaws.{take_put}
use Rattle.paper.specs.Reader.{avps}
use Rattle.paper.specs.Request.{is_proxiable, avps_of}
use Rattle.paper.specs.Procedures.{Entry}
use Rattle.paper.specs.Answer as Answer
use Rattle.paper.specs.Answer.{Verdict, Reply, is_protocol_error, reply_flags, reply_avps, message, answer}
use Rattle.paper.specs.Outcome.{Lent, Outcome, answered, outcome}
use Rattle.paper.specs.Passed.{Passed}
use Rattle.paper.specs.Read.{answer_of}
use Rattle.paper.specs.Refusals.{Said, said_by}
use Rattle.paper.specs.ReadBack.{is3xxx, HeaderRead}
use Rattle.paper.proofs.AnswerParts.{length-answer, answer-length-field, fours-add}
use Rattle.paper.proofs.OutcomeLaws.{outcome-size}
use Rattle.paper.proofs.ReadBackAvps.{short}

-- what an answer with this verdict tells
abbrev pub told_by : Verdict → Said
told_by v = said_by 0 (some v)

-- "E set for 3xxx"
thousands : (code : ℕ) → eqb (code / 1000) 3 ≡ leb 3000 code && leb code 3999
thousands code = go (leb 3000 code) refl (leb code 3999) refl
  where
    go : (a : Bool) → leb 3000 code ≡ a → (b : Bool) → leb code 3999 ≡ b → eqb (code / 1000) 3 ≡ a && b
    go true p true q = let h = leb-true 3000 code p in let k = leb-true code 3999 q in eq-eqb (code / 1000) 3 (omega arith)
    go true p false q = let k = leb-false code 3999 q in ne_eqb (code / 1000) 3 (λ e. omega arith)
    go false p b q = let k = leb-false 3000 code p in ne_eqb (code / 1000) 3 (λ e. omega arith)

error-told : (v : Verdict) → is_protocol_error v ≡ is3xxx (told_by v)
unfolding is_protocol_error said_by
error-told (Answer.base code) = thousands code
error-told (Answer.experimental code) = refl

module _ (m host realm : List ℕ) (y : Reply) (least : 20 ≤ length m) where
  abbrev its : List ℕ
  its = answer m host realm y

  -- "command, application and both identifiers as received"
  byte_copied : (i : ℕ) → i < 15 → get_or its (5 + i) 0 ≡ get_or m (5 + i) 0
  unfolding answer message
  byte_copied i h =
      let n = length_part 5 15 m (omega arith) in
      let front : List ℕ = 1 ∷ (be 3 (20 + length (reply_avps m host realm y)) ++ (reply_flags m y.verdict ∷ [])) in
      get_or-append-add front (part 5 15 m ++ reply_avps m host realm y) i 0
      ∙ get_or-append (part 5 15 m) (reply_avps m host realm y) 0 i (omega arith) ∙ get_d_part 5 15 m i h

  number-copied : (n at : ℕ) → 5 ≤ at → at + n ≤ 20 → num_at n its at ≡ num_at n m at
  number-copied n at h k = num_at_agree n at at its m (λ i q. let e : at + i ≡ 5 + (at + i - 5) = omega arith in rw e (byte_copied (at + i - 5) (omega arith)))

  pub header_read : length its < 256 ^ 3 → length (reply_avps m host realm y) % 4 ≡ 0 → HeaderRead m its (told_by y.verdict)
  unfolding answer message reply_flags
  header_read own fours =
      record {
        version = refl;
        own_length = answer-length-field m host realm y least own;
        fours = rw (length-answer m host realm y least) (fours-add 20 _ refl fours);
        flags = ap (λ (b : Bool). cond (is_proxiable m) 64 0 + cond b 32 0) (error-told y.verdict);
        command = number-copied 3 5 (omega arith) (omega arith);
        application = number-copied 4 8 (omega arith) (omega arith);
        hop_by_hop = number-copied 4 12 (omega arith) (omega arith);
        end_to_end = number-copied 4 16 (omega arith) (omega arith);
      }

-- ---- the answer of a call

behind-header : (m host realm : List ℕ) (y : Reply) → 20 ≤ length m → drop 20 (answer m host realm y) ≡ reply_avps m host realm y
unfolding answer message
behind-header m host realm y h = drop_at (part 5 15 m) (reply_avps m host realm y) 15 (length_part 5 15 m (omega arith))

module _ (l : Lent) (t : List ℕ) (es : List Entry) (y : Reply) (comes : outcome l ≡ answered l t es y) where
  pub answer-is : answer_of l ≡ answer l.request l.host l.realm y
  unfolding answered
  answer-is =
      let a = answer l.request l.host l.realm y in
      ap (λ (o : Outcome). take o.size o.answer) comes
      ∙ ap (λ (n : ℕ). take n (put 0 a l.answer)) (sym (zero-add (length a)))
      ∙ take_put 0 a l.answer (omega arith)

  module _ (p : Passed l) where
    pub behind-is : drop 20 (answer_of l) ≡ reply_avps l.request l.host l.realm y
    behind-is = ap (drop 20) answer-is ∙ behind-header l.request l.host l.realm y p.least

    pub answer-avps : avps_of (answer_of l) ≡ avps 20 (reply_avps l.request l.host l.realm y)
    unfolding avps_of
    answer-avps = ap (avps 20) behind-is

    pub answer-short : length (reply_avps l.request l.host l.realm y) ≤ short
    unfolding answered
    answer-short =
        let n = length-answer l.request l.host l.realm y p.least in
        let k : length (answer l.request l.host l.realm y) ≤ 4292 = subst (λ (o : Outcome). o.size ≤ 4292) comes (outcome-size l) in
        omega arith

-- The desk's turns: what each kind of frame leaves in the desk's buffer.
-- Assumes nothing.
use Rattle.std.proofs.Common.{◌≡◌, ℕ, ◌+◌, ◌-◌, ◌%◌, ◌^◌, ◌<◌, ◌≤◌, Bool, true, false, ◌&&◌, eqb, List, ◌++◌, length, get_or, take, drop, sym, refl, ap, ◌∙◌, subst, zero-add, arith, length-drop, length-take-le, take_all, le-ltb, lt-ltb, eq-eqb, ne_eqb}
use Rattle.std.proofs.lemmas.Bool.{false≢true}
use mathlib.Core.Option.{some}
use Rattle.wire.specs.Number.{num_at}
use Rattle.wire.specs.Put.{put, Wrote}
use Rattle.wire.proofs.PutLaws.{put_same, length-put}
use Rattle.paper.specs.declared.Line.{Line}
use Rattle.paper.specs.declared.Verdict.{Verdict}
use Rattle.paper.specs.Shown.{verdict_of}
use Rattle.paper.specs.Table.{valid}
use Rattle.paper.specs.Correction.{Corrected, corrected}
use Rattle.paper.specs.Outcome.{outcome}
use Rattle.paper.specs.Desk.{Turn, letter_c, letter_r, letter_t, letter_x, plain, desk_lent, answer_line, answer_turn, table_turn, request_turn, correction_turn, last_turn, size_right, frame_right, rest_size, by_frame_kind, turn, desk_head, most_frame, line_bytes}
use Rattle.paper.proofs.TableLaws.{valid_parts}
use Rattle.paper.proofs.DeskLaws.{size-least, size-most, frame_parts}
use Rattle.dymosaw.specs.declared.desk.Desk.{Desk}
use Rattle.dymosaw.specs.declared.desk.Turned.{Turned}
use Rattle.dymosaw.specs.declared.desk.Stepped.{Stepped}
use Rattle.std.specs.Prelude.{Result, Ok, Err, Some, cond, ◌≢◌}
use Rattle.std.specs.declared.ops.ControlFlow.{ControlFlow}
use Rattle.std.specs.declared.ops.ControlFlow.TheVariants.{Continue, Break}
use Rattle.dymosaw.specs.declared.serve.Answered.{Answered}
use Rattle.dymosaw.specs.declared.serve.Silent.{Silent}
use Rattle.dymosaw.specs.Serve.{number_of_silent, number_of, size_of, said_by, listed_by}
use Rattle.dymosaw.specs.Serve as Serve
use Rattle.dymosaw.specs.Entry as Entry
use Rattle.dymosaw.specs.declared.desk.Kind.{Kind}
use Rattle.dymosaw.specs.declared.desk.Kind.TheVariants.{Table, Request, Correction}
use Rattle.dymosaw.specs.Desk.{table_room, turn_of, turn_for, table_in, desk_at, Framed, Made, Told}

-- ---- the buffer

pub valid-fits : (d : List ℕ) → valid d ≡ true → length d ≤ table_room
valid-fits d e = let v = (valid_parts d e).header in let few = v.few in let whole = v.whole in omega arith

pub front_kept : (b : List ℕ) (n : ℕ) → n ≤ length b → b ≡ put 0 (take n b) b
front_kept b n h = sym (put_same 0 n b (omega arith))

pub front_stored : (b x : List ℕ) (n : ℕ) → length x ≡ n → x ++ drop n b ≡ put 0 x b
unfolding put
front_stored b x n e = let z : n ≡ 0 + length x = omega arith in rw z

-- ---- a turn that was made

made-at : {u : Turn} (l : Line) (t : List ℕ) → turn_of l t true ≡ u → (b b' : List ℕ) (n : ℕ) → n ≡ length t → b' ≡ put 0 t b
    → Made u b b' (record { line = l; used = Continue n })
made-at l t e b b' n s p =
    subst (λ (v : Turn). Made v b b' (record { line = l; used = Continue n })) e
    (record { line = refl; used = ap Continue s; buffer = p; ended = λ q. absurd (false≢true (sym q)) })

pub made : {u : Turn} {l : Line} {t : List ℕ} → turn_of l t true ≡ u → {b b' : List ℕ} {n : ℕ} → n ≡ length t → b' ≡ put 0 t b → Made u b b' (record { line = l; used = Continue n })
made {l = l} {t = t} e {b} {b'} {n} s p = made-at l t e b b' n s p

-- the table stays
pub made_kept : {u : Turn} {l : Line} {b : List ℕ} {n : ℕ} → n ≤ length b → turn_of l (take n b) true ≡ u → Made u b b (record { line = l; used = Continue n })
made_kept {l = l} {b = b} {n = n} h e = made-at l (take n b) e b b n (sym (length-take-le n b h)) (front_kept b n h)

-- the table was written where it stands
pub made-there : {u : Turn} {l : Line} {x b : List ℕ} {n : ℕ} → length x ≡ n → turn_of l x true ≡ u → Made u b (x ++ drop n b) (record { line = l; used = Continue n })
made-there {l = l} {x = x} {b = b} {n = n} s e = made-at l x e b (x ++ drop n b) n (sym s) (front_stored b x n s)

-- the run ends, the table's size by any name
pub made-ended-at : {u : Turn} {l : Line} {b : List ℕ} {n k : ℕ} → n ≤ length b → turn_of l (take n b) false ≡ u → k ≡ n → Made u b b (record { line = l; used = Break k })
made-ended-at {l = l} {b = b} {n = n} {k = k} h e s =
    subst (λ (v : Turn). Made v b b (record { line = l; used = Break k })) e
    (record { line = refl; used = ap Break (s ∙ sym (length-take-le n b h)); buffer = front_kept b n h; ended = λ q. refl })

pub made-ended : {u : Turn} {l : Line} {b : List ℕ} {n : ℕ} → n ≤ length b → turn_of l (take n b) false ≡ u → Made u b b (record { line = l; used = Break n })
made-ended h e = made-ended-at h e refl

pub made_as : {u v : Turn} {b b' : List ℕ} {r : Turned} → u ≡ v → Made u b b' r → Made v b b' r
made_as {b = b} {b' = b'} {r = r} e m = subst (λ (w : Turn). Made w b b' r) e m

-- ---- a request's line

abbrev line_for : Result Answered Silent → Line
line_for r = answer_line (number_of r) (said_by r) (size_of r) (listed_by r)

pub refused-line : {r : Result Answered Silent} (refusal : Silent) → r ≡ Err refusal → {n : ℕ} → n ≡ number_of_silent refusal → {l : Line} → l ≡ plain letter_r n
    → l ≡ answer_line (number_of r) (said_by r) (size_of r) (listed_by r)
unfolding answer_line
refused-line refusal e k p = p ∙ ap (plain letter_r) k ∙ ap line_for (sym e)

pub answered-line : {r : Result Answered Silent} (x : Answered) (w : Verdict) → r ≡ Ok x → x.verdict ≡ w
    → answer_line 0 (some (verdict_of w)) x.length x.listed ≡ answer_line (number_of r) (said_by r) (size_of r) (listed_by r)
answered-line x w e q = ap (λ (v : Verdict). answer_line 0 (some (verdict_of v)) x.length x.listed) (sym q) ∙ ap line_for (sym e)

-- ---- the kinds

module _ (t d : List ℕ) where
  pub table_taken : valid d ≡ true → {l : Line} → l ≡ plain letter_t 0 → turn_of l d true ≡ table_turn t d
  unfolding table_turn
  table_taken e p = rw (e, p)

  pub table-refused : valid d ≡ false → {l : Line} → l ≡ plain letter_t 4 → turn_of l t true ≡ table_turn t d
  unfolding table_turn
  table-refused e p = rw (e, p)

  pub answered-turn : (r : Result Answered Silent) {x a c : List ℕ} → Serve.came_to r x a c ≡ outcome (desk_lent t d) → {l : Line} → l ≡ answer_line (number_of r) (said_by r) (size_of r) (listed_by r)
      → turn_of l x true ≡ request_turn t d
  unfolding request_turn answer_turn
  answered-turn r {x} e p = ap (λ (k : Line). turn_of k x true) p ∙ ap answer_turn e

  pub corrected-turn : {n : ℕ} {x : List ℕ} → Entry.came_to n x ≡ corrected t d → {l : Line} → l ≡ plain letter_c n → turn_of l x true ≡ correction_turn t d
  unfolding correction_turn
  corrected-turn {n} {x} e p = ap (λ (k : Line). turn_of k x true) p ∙ ap (λ (c : Corrected). turn_of (plain letter_c c.number) c.table true) e

-- the kinds by their numbers
module _ (t d : List ℕ) (kind : ℕ) where
  pub kind-table : kind ≡ 1 → table_turn t d ≡ by_frame_kind kind t d
  unfolding by_frame_kind
  kind-table e = rw (eq-eqb kind 1 e)

  pub kind-request : kind ≡ 2 → request_turn t d ≡ by_frame_kind kind t d
  unfolding by_frame_kind
  kind-request e = rw e

  pub kind-correction : kind ≡ 3 → correction_turn t d ≡ by_frame_kind kind t d
  unfolding by_frame_kind
  kind-correction e = rw e

  pub kind-other : kind ≢ 1 → kind ≢ 2 → kind ≢ 3 → last_turn t ≡ by_frame_kind kind t d
  unfolding by_frame_kind
  kind-other a b c = rw (ne_eqb kind 1 a, ne_eqb kind 2 b, ne_eqb kind 3 c)

pub last_plain : (t : List ℕ) {l : Line} → l ≡ plain letter_x 0 → turn_of l t false ≡ last_turn t
unfolding last_turn
last_plain t p = rw p

-- ---- any frame

pub frame_tested : (f : List ℕ) {n : ℕ} {s : Bool} → n ≡ num_at 4 f 0 → s ≡ size_right n → s && (eqb (length f) n && eqb (get_or f 4 0) 1) ≡ frame_right f
unfolding frame_right
frame_tested f e p = rw (p, e)

pub frame-short : (f : List ℕ) → length f < desk_head → false ≡ frame_right f
frame-short f h = go (frame_right f) refl
  where
    go : (b : Bool) → frame_right f ≡ b → false ≡ b
    go false e = refl
    go true e = let long = (frame_parts f e).long in absurd (omega arith)

-- the part of a frame behind its head, as code lends it
pub turn-right : (t f : List ℕ) → frame_right f ≡ true → by_frame_kind (get_or f 5 0) t (take (length f - desk_head) (drop desk_head f)) ≡ turn t f
unfolding turn
turn-right t f e =
    let l = length-drop desk_head f in
    ap (by_frame_kind (get_or f 5 0) t) (take_all (length f - desk_head) (drop desk_head f) (omega arith)) ∙ rw e

-- ---- the kind of a frame

abbrev pub code_of : Kind → ℕ
code_of Table = 1
code_of Request = 2
code_of Correction = 3

pub of_kind : (f : List ℕ) → frame_right f ≡ true → (k : Kind) → get_or f 5 0 ≡ code_of k → Framed f (Some k)
unfolding turn by_frame_kind
of_kind f e Table p = ((frame_parts f e).long, λ t. rw (e, p))
of_kind f e Request p = ((frame_parts f e).long, λ t. rw (e, p))
of_kind f e Correction p = ((frame_parts f e).long, λ t. rw (e, p))

pub no_kind : (f : List ℕ) → frame_right f ≡ true → get_or f 5 0 ≢ 1 → get_or f 5 0 ≢ 2 → get_or f 5 0 ≢ 3 → (t : List ℕ) → last_turn t ≡ turn t f
unfolding turn by_frame_kind
no_kind f e a b c t = rw (e, ne_eqb (get_or f 5 0) 1 a, ne_eqb (get_or f 5 0) 2 b, ne_eqb (get_or f 5 0) 3 c)

pub not_right : (f : List ℕ) → frame_right f ≡ false → (t : List ℕ) → last_turn t ≡ turn t f
unfolding turn
not_right f e t = rw e

-- the same of a kind that was read
pub kind_taken : (f t : List ℕ) (j : Kind) {k : Kind} → k ≡ j → Framed f (Some k) → turn_for j t (take (length f - desk_head) (drop desk_head f)) ≡ turn t f
kind_taken f t j e h =
    let l = length-drop desk_head f in
    ap (turn_for j t) (take_all (length f - desk_head) (drop desk_head f) (omega arith)) ∙ ap (λ (i : Kind). turn_for i t (drop desk_head f)) (sym e) ∙ h.1 t

-- ---- the bytes behind a length field

pub rest-short : (h : List ℕ) → length h < 4 → 0 ≡ rest_size h
unfolding rest_size
rest-short h e = rw (lt-ltb (length h) 4 e)

pub rest-right : (h : List ℕ) → 4 ≤ length h → {n : ℕ} → n ≡ num_at 4 h 0 → size_right n ≡ true → n - 4 ≡ rest_size h
unfolding rest_size
rest-right h e p s = rw (le-ltb (length h) 4 e, ← p, s)

pub rest-wrong : (h : List ℕ) → 4 ≤ length h → {n : ℕ} → n ≡ num_at 4 h 0 → size_right n ≡ false → 0 ≡ rest_size h
unfolding rest_size
rest-wrong h e p s = rw (le-ltb (length h) 4 e, ← p, s)

-- a right size leaves room for the length field, and is no larger than the largest frame
pub size-within : (n : ℕ) → size_right n ≡ true → (4 ≤ n) × (4 + (n - 4) ≤ most_frame)
size-within n e = let a = size-least n e in let b = size-most n e in (omega arith, omega arith)

-- ---- the step

-- a table's bytes with the next frame's number, where the run goes on and where it ends
abbrev pub numbered : ℕ → ControlFlow ℕ ℕ → ControlFlow Desk Desk
numbered k (Continue n) = Continue (desk_at n k)
numbered k (Break n) = Break (desk_at n k)

numbered_either : (goes_on : Bool) (n k : ℕ) → numbered k (cond goes_on (Continue n) (Break n)) ≡ cond goes_on (Continue (desk_at n k)) (Break (desk_at n k))
numbered_either true n k = refl
numbered_either false n k = refl

-- a turn that was made, and its line
pub told : (f : List ℕ) {b b' l l' t : List ℕ} {d : Desk} {r : Turned} {size : ℕ} {next : ControlFlow Desk Desk} → t ≡ table_in d b → Made (turn t f) b b' r → Wrote l 0 (line_bytes d.number r.line) l' size
    → next ≡ numbered ((d.number + 1) % 2 ^ 64) r.used
    → Told (turn (table_in d b) f) d b l b' l' (record { line = size; next = next })
told f {b = b} {l = l} {d = d} e m w n =
    let u = made_as (ap (λ (x : List ℕ). turn x f) e) m in
    record {
      next = n ∙ ap (numbered ((d.number + 1) % 2 ^ 64)) u.used ∙ numbered_either _ _ _;
      buffer = u.buffer;
      ended = u.ended;
      size = w.next ∙ zero-add (length (line_bytes d.number _)) ∙ ap (λ (x : Line). length (line_bytes d.number x)) u.line;
      line = w.made ∙ ap (λ (x : Line). put 0 (line_bytes d.number x) l) u.line;
    }

-- a line that fits leaves the length of its buffer
pub told-length : {u : Turn} {d : Desk} {b l b' l' : List ℕ} {r : Stepped} → Told u d b l b' l' r → r.line ≤ length l → length l' ≡ length l
told-length {u} {d} {l = l} t h =
    let size = t.size in
    ap length t.line ∙ length-put 0 (line_bytes d.number u.line) l (omega arith)

-- One outcome for one input, of each public call that writes; demand 3 as a caller from Rattle and one from C see it; and the promises are not empty.
-- Assumes nothing.
use mathlib.Core.Path.{◌≡◌, refl, sym, ap, ◌∙◌, subst}
use mathlib.Core.Bool.{cond}
use mathlib.Core.Logic.{◌≢◌}
use mathlib.Core.Option.{Option, none, some}
use mathlib.Core.List.{List, [], ◌∷◌, ◌++◌}
use Prim.Native.Nat.{ℕ, ◌<◌, ◌+◌, ◌*◌, ◌%◌, ◌^◌}
use Rattle.std.specs.Prelude.{Result, Ok, Err, ⊤}
use native.Mathlib.Omega.{arith}
use lib.Dec.{eqb}
use lib.ListN.{take, replicate}
use Rattle.wire.specs.Number.{Bytes}
use Rattle.wire.specs.Stretch.{all_in}
use Rattle.paper.specs.declared.Verdict.{Verdict}
use Rattle.paper.specs.declared.Verdict.TheVariants.{Base, Experimental}
use Rattle.paper.specs.Answer as Answer
use Rattle.paper.specs.Attach.{attach_request, table_after, attach_answer, attach_cancel, attach_lent, attach_outcome}
use Rattle.paper.specs.Correction.{Corrected, corrected}
use Rattle.paper.specs.Newer as Newer
use Rattle.paper.specs.Newer.{Accepting, Accepted}
use Rattle.paper.specs.Outcome.{Outcome, outcome}
use Rattle.paper.specs.Read.{codes_in}
use Rattle.paper.specs.ReadBack.{codes_told}
use Rattle.paper.specs.Refusals as Refusals
use Rattle.paper.specs.Shown.{verdict_of}
use Rattle.paper.proofs.ClosedAttach as paper-attach
use Rattle.paper.proofs.Newer as paper-newer
use Rattle.correction.specs.Refusal as Correcting
use Rattle.correction.specs.declared.refusal.Refusal as Correct
use Rattle.correction.specs.declared.refusal.Refusal.TheVariants.{TableNotValid, LengthWrong, VersionWrong, KindUnknown, LengthWrongForKind, ValueNotValid, NoSuchImsi, ChangeDiffers}
use Rattle.dymosaw.specs.declared.serve.Answered.{Answered}
use Rattle.dymosaw.specs.declared.serve.Silent.{Silent}
use Rattle.dymosaw.specs.declared.serve.Silent.TheVariants.{RequestSize, NotRequest, ShortBuffer, TableNotValid as InvalidTable, OwnNameNotValid}
use Rattle.dymosaw.specs.Serve.{number_of_silent, number_of, size_of, said_by, listed_by}
use Rattle.promises.specs.Calls.{ServeCall, RequestCall, served, SameServed, SameRequested}
use Rattle.promises.specs.Promises.{AcceptingBytes, success, experimental, ServeNewerSame, RequestNewerSame, answer_of, ServeOnce, RequestOnce, CorrectOnce, EntryOnce, AttachSucceeds}
use Rattle.promises.proofs.CallLaws.{for_c, bytes-seen}
use Rattle.promises.proofs.ReadBack.{answers_read_back}
use Rattle.promises.proofs.Newer.{newer_same}

-- ---- `serve`: its answer is read off the outcome

same-verdict : (v w : Verdict) → some (verdict_of w) ≡ some (verdict_of v) → w ≡ v
same-verdict (Base c) (Base d) e = let q : d.0 ≡ c.0 = cc in ap (λ (n : ℕ). Base (record { 0 = n })) q
same-verdict (Experimental c) (Experimental d) e = let q : d.0 ≡ c.0 = cc in ap (λ (n : ℕ). Experimental (record { 0 = n })) q
same-verdict (Base c) (Experimental d) e = let z : ◌≡◌ {A = ℕ} 0 1 = cc in absurd (omega arith)
same-verdict (Experimental c) (Base d) e = let z : ◌≡◌ {A = ℕ} 0 1 = cc in absurd (omega arith)

-- the refusal that has the number
silent_numbered : ℕ → Silent
silent_numbered n = cond (eqb n 1) RequestSize (cond (eqb n 2) NotRequest (cond (eqb n 3) ShortBuffer (cond (eqb n 4) InvalidTable OwnNameNotValid)))

silent_back : (refusal : Silent) → silent_numbered (number_of_silent refusal) ≡ refusal
unfolding silent_numbered
silent_back RequestSize = refl
silent_back NotRequest = refl
silent_back ShortBuffer = refl
silent_back InvalidTable = refl
silent_back OwnNameNotValid = refl

silent_above : (refusal : Silent) → 0 < number_of_silent refusal
silent_above RequestSize = omega arith
silent_above NotRequest = omega arith
silent_above ShortBuffer = omega arith
silent_above InvalidTable = omega arith
silent_above OwnNameNotValid = omega arith

same_answer : (r q : Result Answered Silent) → number_of q ≡ number_of r → size_of q ≡ size_of r → said_by q ≡ said_by r → listed_by q ≡ listed_by r → q ≡ r
same_answer (Err x) (Err y) number size said listed = ap Err (sym (silent_back y) ∙ ap silent_numbered number ∙ silent_back x)
same_answer (Err x) (Ok b) number size said listed = absurd (omega (arith, silent_above x, number))
same_answer (Ok a) (Err y) number size said listed = absurd (omega (arith, silent_above y, number))
same_answer (Ok a) (Ok b) number size said listed = ap Ok (rw (same-verdict a.verdict b.verdict said, size, listed))

-- two calls that came to the same
same-served : (c d : ServeCall) → (served d).left ≡ (served c).left → SameServed c d
same-served c d e =
    record {
      result = same_answer c.result d.result (ap (λ (o : Outcome). o.number) e) (ap (λ (o : Outcome). o.size) e) (ap (λ (o : Outcome). o.verdict) e) (ap (λ (o : Outcome). o.listed) e);
      table = ap (λ (o : Outcome). o.table) e;
      answer = ap (λ (o : Outcome). o.answer) e;
      cancel = ap (λ (o : Outcome). o.cancel) e;
    }

pub serve_newer_same : ServeNewerSame
serve_newer_same c d n h w e = same-served c d (newer_same (served c) (served d) n h w e)

pub serve_once : ServeOnce
serve_once c d e = same-served c d (d.met ∙ ap outcome e ∙ sym c.met)

-- ---- `dymosaw_request`

same_requested : (c d : RequestCall) → outcome d.given ≡ outcome c.given → SameRequested c d
same_requested c d e =
    record {
      result = d.met.result ∙ ap (λ (x : Outcome). x.number * 2 ^ 32 + x.size) e ∙ sym c.met.result;
      table = d.met.table ∙ ap (λ (x : Outcome). x.table) e ∙ sym c.met.table;
      answer = d.met.answer ∙ ap (λ (x : Outcome). x.answer) e ∙ sym c.met.answer;
      cancel = d.met.cancel ∙ ap (λ (x : Outcome). x.cancel) e ∙ sym c.met.cancel;
    }

-- what an answer says is what `outcome` says
told-success : (n : ℕ) (v : Option Answer.Verdict) → codes_told (Refusals.said_by n v) ≡ 2001 ∷ 0 ∷ [] → Accepting v
unfolding codes_told Refusals.said_by
told-success n none e = let z : ◌≡◌ {A = ℕ} 0 2001 = cc in absurd (omega arith)
told-success n (some (Answer.base code)) e = let q : code ≡ 2001 = cc in rw q Newer.success
told-success n (some (Answer.experimental code)) e = let z : ◌≡◌ {A = ℕ} 0 2001 = cc in absurd (omega arith)

told-experimental : (n : ℕ) (v : Option Answer.Verdict) (c : ℕ) → c ≢ 0 → codes_told (Refusals.said_by n v) ≡ 0 ∷ c ∷ [] → Accepting v
unfolding codes_told Refusals.said_by
told-experimental n none c ne e = let z : c ≡ 0 = cc in absurd (ne z)
told-experimental n (some (Answer.base code)) c ne e = let z : c ≡ 0 = cc in absurd (ne z)
told-experimental n (some (Answer.experimental code)) c ne e = Newer.experimental code

bytes_accepting : (o : Outcome) (a : List ℕ) → codes_in a ≡ codes_told (Refusals.said o) → AcceptingBytes a → Accepting o.verdict
unfolding Refusals.said
bytes_accepting o a e (success q) = told-success o.number o.verdict (sym e ∙ q)
bytes_accepting o a e (experimental code ne q) = told-experimental o.number o.verdict code ne (sym e ∙ q)

pub request_newer_same : RequestNewerSame
request_newer_same c d n z h w e =
    let k = (for_c c).0 in
    let s = (for_c c).1 in
    let a : answer_of k ≡ take (c.result % 2 ^ 32) c.answer = cc in
    let r = answers_read_back k (s.number ∙ z) in
    let v = bytes_accepting k.left (answer_of k) r.codes (subst AcceptingBytes (sym a) h) in
    let accepted : Accepted c.given = subst (λ (o : Outcome). Accepting o.verdict) (k.met ∙ ap outcome s.lent) v in
    same_requested c d (ap outcome e ∙ paper-newer.newer_same c.given n accepted w)

pub request_once : RequestOnce
request_once c d e = same_requested c d (ap outcome e)

-- ---- corrections

-- the refusal that has the number
refusal_numbered : ℕ → Correct.Refusal
refusal_numbered n =
    cond (eqb n 4) TableNotValid (cond (eqb n 11) LengthWrong (cond (eqb n 12) VersionWrong (cond (eqb n 13) KindUnknown (cond (eqb n 14) LengthWrongForKind (cond (eqb n 15) ValueNotValid (cond (eqb n 16) NoSuchImsi ChangeDiffers))))))

-- the answer that has it
answer_numbered : ℕ → Result ⊤ Correct.Refusal
answer_numbered n = cond (eqb n 0) (Ok tt) (Err (refusal_numbered n))

number_back : (r : Result ⊤ Correct.Refusal) → answer_numbered (Correcting.number_for r) ≡ r
unfolding answer_numbered refusal_numbered
number_back (Ok u) = refl
number_back (Err TableNotValid) = refl
number_back (Err LengthWrong) = refl
number_back (Err VersionWrong) = refl
number_back (Err KindUnknown) = refl
number_back (Err LengthWrongForKind) = refl
number_back (Err ValueNotValid) = refl
number_back (Err NoSuchImsi) = refl
number_back (Err ChangeDiffers) = refl

-- two corrections of one table by one frame
same-corrected : {t u f g : List ℕ} {x y : Corrected} → x ≡ corrected t f → y ≡ corrected u g → u ≡ t → g ≡ f → y ≡ x
same-corrected e h p q = cc

pub correct_once : CorrectOnce
correct_once c d p q =
    let e = same-corrected c.met d.met p q in
    record {
      result = sym (number_back d.result) ∙ ap answer_numbered (ap (λ (x : Corrected). x.number) e) ∙ number_back c.result;
      after = ap (λ (x : Corrected). x.table) e;
    }

pub entry_once : EntryOnce
entry_once c d p q =
    let e = same-corrected c.met d.met p q in
    record { result = ap (λ (x : Corrected). x.number) e; after = ap (λ (x : Corrected). x.table) e }

-- ---- not empty

attach-bytes : Bytes attach_request
unfolding attach_request all_in
attach-bytes = bytes-seen attach_request refl

-- there is such a call
pub attach_call : ServeCall
unfolding attach_lent attach_outcome
attach_call =
    record {
      given = attach_lent;
      bytes = attach-bytes;
      result = Ok (record { verdict = Base (record { 0 = 2001 }); length = 200; listed = 2 });
      table = table_after;
      answer = attach_answer ++ replicate 4152 255;
      cancel = attach_cancel ++ replicate 4 255;
      met = sym paper-attach.attach_succeeds;
    }

pub attach_succeeds : AttachSucceeds
unfolding attach_call
attach_succeeds c e =
    let s = serve_once attach_call c e in
    record { result = s.result; table = s.table; answer = s.answer; cancel = s.cancel }

-- Laws of the whole answer: its flags, its header in front of its AVPs, its AVPs by the parts that are written one after another.
-- Assumes nothing.
use mathlib.Core.Path.{◌≡◌, sym, ap, ◌∙◌}
use mathlib.Core.Bool.{Bool, true, false, cond}
use mathlib.Core.List.{List, ◌∷◌, ◌++◌, append_assoc}
use Prim.Native.Nat.{ℕ, ◌+◌, ◌/◌, ◌%◌, ◌^◌, ◌≤◌, ◌<◌}
use native.Mathlib.Omega.{arith}
use lib.ListN.{length, get_or, length-append}
use lib.Dec.{eqb}
use borrow.Author.Tests.{eq-eqb, ne_eqb}
use Rattle.std.specs.Prelude.{Option}
use Rattle.wire.specs.Number.{be}
use Rattle.wire.specs.Put.{part, Wrote}
use Rattle.wire.proofs.PutLaws.{wrote_under, wrote-same}
use Rattle.wire.proofs.ListLaws.{length_part}
use Rattle.paper.specs.Profile.{auth_session_state, origin_host, origin_realm}
use Rattle.paper.specs.Request.{is_proxiable}
use Rattle.paper.specs.Answer as Answer
use Rattle.paper.specs.Answer.{item, number_item, result_item, failed_item, is_protocol_error, reply_flags, Reply, reply_avps, message, answer}
use Rattle.paper.specs.Shown.{verdict_of, failed_in, extra_of, reply_of}
use Rattle.paper.specs.declared.ResultCode.{ResultCode}
use Rattle.paper.specs.declared.ExperimentalCode.{ExperimentalCode}
use Rattle.paper.specs.declared.Verdict.{Verdict}
use Rattle.paper.specs.declared.Verdict.TheVariants.{Base, Experimental}
use Rattle.paper.specs.declared.Failed.{Failed}
use Rattle.paper.specs.declared.Extra.{Extra}
use Rattle.avp.proofs.WriteLaws.{flags-and-length}
use Rattle.answer.specs.Parts.{session_echo, proxy_echo, own_items, header_bytes}

-- ---- flags

pub error-base : {v : Verdict} {code : ResultCode} → v ≡ Base code → eqb (code.0 / 1000) 3 ≡ is_protocol_error (verdict_of v)
unfolding is_protocol_error
error-base e = rw e

pub error-experimental : {v : Verdict} {code : ExperimentalCode} → v ≡ Experimental code → false ≡ is_protocol_error (verdict_of v)
unfolding is_protocol_error
error-experimental e = rw e

-- P as received
pub proxiable : (m : List ℕ) → get_or m 4 0 / 64 % 2 ≡ 1 → ◌≡◌ {A = ℕ} 64 (cond (is_proxiable m) 64 0)
proxiable m e = rw (eq-eqb (get_or m 4 0 / 64 % 2) 1 e)

pub not-proxiable : (m : List ℕ) → (get_or m 4 0 / 64 % 2 ≡ 1 → ⊥) → ◌≡◌ {A = ℕ} 0 (cond (is_proxiable m) 64 0)
not-proxiable m e = rw (ne_eqb (get_or m 4 0 / 64 % 2) 1 e)

pub flag_most : (m : List ℕ) {p : ℕ} → p ≡ cond (is_proxiable m) 64 0 → p ≤ 64
flag_most m e = rw e (go (is_proxiable m))
  where
    go : (b : Bool) → cond b 64 0 ≤ 64
    go true = omega arith
    go false = omega arith

-- E where it is set
module _ (m : List ℕ) (v : Answer.Verdict) {p : ℕ} (f : p ≡ cond (is_proxiable m) 64 0) where
  pub flags_with_error : is_protocol_error v ≡ true → p + 32 ≡ reply_flags m v
  unfolding reply_flags
  flags_with_error e = rw (f, e)

  pub flags_without_error : is_protocol_error v ≡ false → p ≡ reply_flags m v
  unfolding reply_flags
  flags_without_error e = rw e (f ∙ omega arith)

-- ---- the header

-- version and length are one number of four bytes
pub header_parts : (n flags : ℕ) (m : List ℕ) → n < 16777216 → flags < 256 → be 4 (16777216 + n) ++ (be 1 flags ++ part 5 15 m) ≡ header_bytes n flags m
unfolding header_bytes
header_parts n flags m h k =
    let e : flags / 256 ^ 0 % 256 ≡ flags = omega arith in
    ap (λ (x : List ℕ). x ++ (be 1 flags ++ part 5 15 m)) (flags-and-length 1 n (omega arith) h) ∙ ap (λ (x : ℕ). 1 ∷ (be 3 n ++ (x ∷ part 5 15 m))) e

pub length-header : (n flags : ℕ) (m : List ℕ) → 20 ≤ length m → length (header_bytes n flags m) ≡ 20
unfolding header_bytes
length-header n flags m h = let l = length_part 5 15 m (omega arith) in omega arith

module _ (m host realm : List ℕ) (y : Reply) where
  header-and-avps : (n flags : ℕ) → n ≡ 20 + length (reply_avps m host realm y) → flags ≡ reply_flags m y.verdict
      → header_bytes n flags m ++ reply_avps m host realm y ≡ answer m host realm y
  unfolding header_bytes answer message
  header-and-avps n flags e f = rw (e, f)

  -- the AVPs behind 20 bytes, then the header
  pub wrote-answer : {l l₁ l₂ : List ℕ} {n flags q : ℕ} → 20 ≤ length m → 20 ≤ length l → flags ≡ reply_flags m y.verdict
      → Wrote l 20 (reply_avps m host realm y) l₁ n → Wrote l₁ 0 (header_bytes n flags m) l₂ q → Wrote l 0 (answer m host realm y) l₂ n
  wrote-answer {l} {l₁} {l₂} {n} {flags} h k f w u =
      let e = length-header n flags m h in
      let i : 0 + length (header_bytes n flags m) ≡ 20 = omega arith in
      wrote-same (header-and-avps n flags w.next f) (wrote_under (omega arith) (rw (sym i) at w) u)

-- ---- the AVPs

module _ (m host realm : List ℕ) (v : Verdict) (f : Option Failed) (x : Option Extra) (echo : Bool) where
  pub reply_parts : session_echo m echo ++ (result_item (verdict_of v) ++ (own_items host realm ++ (failed_item (failed_in m f) ++ (extra_of x ++ proxy_echo m echo))))
      ≡ reply_avps m host realm (reply_of m v f x echo)
  unfolding reply_avps reply_of
  reply_parts =
      ap (λ (t : List ℕ). session_echo m echo ++ (result_item (verdict_of v) ++ t))
      (append_assoc (number_item auth_session_state 1) (item origin_host host ++ item origin_realm realm) _
      ∙ ap (λ (t : List ℕ). number_item auth_session_state 1 ++ t) (append_assoc (item origin_host host) (item origin_realm realm) _))

  pub length_parts : length (reply_avps m host realm (reply_of m v f x echo))
      ≡ length (session_echo m echo) + (length (result_item (verdict_of v)) + (length (own_items host realm) + (length (failed_item (failed_in m f)) + (length (extra_of x) + length (proxy_echo m echo)))))
  length_parts = ap length (sym reply_parts) ∙ simp length-append

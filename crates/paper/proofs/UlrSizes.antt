-- An accepted ULR holds eight required AVPs beside Session-Id, which take 76 bytes at least and are not echoed.
-- Assumes nothing.
use mathlib.Core.Path.{◌≡◌, refl, sym, ap, ◌∙◌}
use mathlib.Core.Bool.{Bool, true, false, cond}
use mathlib.Core.Option.{Option, none, some}
use mathlib.Core.List.{List, [], ◌∷◌, map}
use Prim.Native.Nat.{ℕ, ◌+◌, ◌-◌, ◌≤◌}
use native.Mathlib.Omega.{arith}
use lib.ListN.{length, drop}
use lib.Dec.{eqb}
use borrow.Author.Tests.{eqb-true}
use Rattle.std.proofs.lemmas.Bool.{and_parts}
use Rattle.dictionary.specs.Rows.{key_of}
use Rattle.paper.specs.Avp.{Avp, has_v, head_size, flags_of, vendor_of, avp_of, size_of, flags_for}
use Rattle.paper.specs.Reader.{Placed, Avps, avps}
use Rattle.paper.specs.Find.{has_key, member}
use Rattle.paper.specs.Profile.{ulr, Key, commands, command_in, command_of, session_id, auth_session_state, origin_host, origin_realm, destination_realm, user_name, proxy_info, rat_type, ulr_flags, visited_plmn_id}
use Rattle.paper.specs.Request.{avps_of, find, is_there, required_in, refuse, key_number, missing, first_absent, absent_test, refusal, command_code}
use Rattle.paper.specs.Procedures.{is_ulr}
use Rattle.paper.proofs.AvpLaws.{head_size-most, padded-least}
use Rattle.paper.proofs.AvpsLaws.{stands_avp, first_of_stands, first_of-key}
use Rattle.paper.proofs.PassesLaws.{refusal-passes}
use Rattle.paper.proofs.WrittenLaws.{vendor_without_V}
use Rattle.paper.proofs.OptionLaws.{Holds}
use Rattle.paper.proofs.Totals.{total, size_if, totals, distinct, keys-and-others, first_takes, first_of_all}
use Rattle.paper.proofs.AnswerParts.{echo_size}
use Rattle.paper.proofs.EchoSizes.{all_inside, echoed_session, echoed_proxies}

-- ---- an accepted ULR holds eight AVPs besides

-- the least that an AVP of the key takes
abbrev least_size : Key → ℕ
least_size k = head_size (flags_for k.vendor true)

unfoldable least_sizes : List Key → ℕ
least_sizes [] = 0
least_sizes (k ∷ ks) = least_size k + least_sizes ks

-- an AVP with a vendor has V
own_head : (s : List ℕ) (vendor : ℕ) → vendor_of s ≡ vendor → head_size (flags_for vendor true) ≤ head_size (flags_of s)
unfolding head_size flags_for
own_head s vendor e = go (has_v (flags_of s)) refl
  where
    go : (b : Bool) → has_v (flags_of s) ≡ b → head_size (flags_for vendor true) ≤ cond b 12 8
    go true q = head_size-most (flags_for vendor true)
    go false q = rw (sym e ∙ vendor_without_V s q) (omega arith)

head_is-part : (a : Avp) → head_size a.flags ≤ size_of a
unfolding size_of
head_is-part a = let p = padded-least (head_size a.flags + length a.body) in omega arith

module _ (at : ℕ) (s : List ℕ) where
  read-least : (k : Key) (p : Placed) → find k (avps at s) ≡ some p → least_size k ≤ size_of p.avp
  unfolding has_key avp_of
  read-least k p e =
      let x = drop (p.at - at) s in
      let a : p.avp ≡ avp_of x = stands_avp at s p (first_of_stands k.vendor k.code at s p e) in
      let v = eqb-true p.avp.vendor k.vendor (and_parts (eqb p.avp.vendor k.vendor) (eqb p.avp.code k.code) (first_of-key k.vendor k.code (avps at s) p e)).0 in
      let w : vendor_of x ≡ k.vendor = sym (ap (λ (b : Avp). b.vendor) a) ∙ v in
      let f : head_size p.avp.flags ≡ head_size (flags_of x) = ap (λ (b : Avp). head_size b.flags) a in
      let o = own_head x k.vendor w in
      let h = head_is-part p.avp in
      omega arith

  -- AVPs that are there take what they take at least
  required-take : (ks : List Key) → first_absent ks (avps at s) ≡ none → least_sizes ks ≤ totals (map key_number ks) (avps at s)
  unfolding first_absent totals least_sizes
  required-take [] e = omega arith
  required-take (k ∷ ks) e = go (required-take ks) (find k (avps at s)) refl (first_takes k.vendor k.code (avps at s)) e
    where
      l : Avps
      l = avps at s

      go : (first_absent ks l ≡ none → least_sizes ks ≤ totals (map key_number ks) l) → (o : Option Placed) → find k l ≡ o
          → Holds (λ p. size_of p.avp ≤ total (size_if (key_number k)) l) o → cond (is_there o) (first_absent ks l) (refuse 5005 (some (missing k))) ≡ none
          → least_size k + least_sizes ks ≤ total (size_if (key_number k)) l + totals (map key_number ks) l
      go ih none q t r = let z : ◌≡◌ {A = ℕ} 0 1 = cc in absurd (omega arith)
      go ih (some p) q t r = let h = read-least k p q in let i = ih r in omega arith

-- what a ULR requires but Session-Id
abbrev besides : List Key
besides = auth_session_state ∷ origin_host ∷ origin_realm ∷ destination_realm ∷ user_name ∷ rat_type ∷ ulr_flags ∷ visited_plmn_id ∷ []

besides_take : least_sizes besides ≡ 76
unfolding least_sizes head_size flags_for
besides_take = refl

besides_distinct : distinct (key_number session_id ∷ key_number proxy_info ∷ map key_number besides) ≡ true
unfolding distinct member key_of
besides_distinct = refl

module _ (m : List ℕ) (h : 20 ≤ length m) (u : is_ulr m ≡ true) (n : refusal m ≡ none) where
  ulr_requires : first_absent (session_id ∷ besides) (avps_of m) ≡ none
  unfolding absent_test required_in command_of command_in commands
  ulr_requires = rw (eqb-true (command_code m) ulr u) at (refusal-passes m n).absent

  besides_there : first_absent besides (avps_of m) ≡ none
  unfolding first_absent
  besides_there = go (is_there (find session_id (avps_of m))) ulr_requires
    where
      go : (b : Bool) → cond b (first_absent besides (avps_of m)) (refuse 5005 (some (missing session_id))) ≡ none → first_absent besides (avps_of m) ≡ none
      go true e = e
      go false e = let z : ◌≡◌ {A = ℕ} 0 1 = cc in absurd (omega arith)

  pub ulr-echo-fits : echo_size m + 76 + 20 ≤ length m
  unfolding avps_of totals
  ulr-echo-fits =
      let s = echoed_session m h in
      let f = first_of_all (key_number session_id) (avps_of m) in
      let p = echoed_proxies m h in
      let t = required-take 20 (drop 20 m) besides besides_there in
      let b = besides_take in
      let k = keys-and-others (key_number session_id ∷ key_number proxy_info ∷ map key_number besides) besides_distinct (avps_of m) in
      let a = all_inside m h in
      omega arith

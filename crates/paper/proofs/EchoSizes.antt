-- What an answer echoes and what it shows of a request: Session-Id, the Proxy-Infos and the AVP that Failed-AVP shows are different AVPs of the request, or
-- the shown one lies inside a further AVP, so that together they take no more than the request has behind its header.
-- Assumes nothing.
use mathlib.Core.Path.{◌≡◌, refl, sym, ap, ◌∙◌}
use mathlib.Core.Logic.{◌≢◌}
use mathlib.Core.Bool.{Bool, true, false, cond, ◌&&◌, ◌||◌, false≢true}
use mathlib.Core.Option.{Option, none, some}
use mathlib.Core.List.{List, [], ◌∷◌, ◌++◌, map}
use Prim.Native.Nat.{ℕ, ◌+◌, ◌*◌, ◌≤◌, ◌<◌}
use native.Mathlib.Omega.{arith}
use lib.ListN.{length, drop, length-append, length-drop}
use lib.Dec.{eqb}
use borrow.Author.Tests.{eqb-true, eqb-false, eq-eqb, ne_eqb}
use Rattle.dictionary.specs.declared.Kind.{Kind}
use Rattle.dictionary.specs.declared.Kind.TheVariants.{Any, Group, Closed, Unknown}
use Rattle.dictionary.specs.Rows.{key_of, rows, kind_with, kind_in, kind_of}
use Rattle.paper.specs.Avp.{Avp, padded, size_of, written}
use Rattle.paper.specs.Reader.{Placed, Avps, whole, broken, more, sizes, body_at, view}
use Rattle.paper.specs.Find.{has_key, first_of, member, first_second}
use Rattle.paper.specs.Layout.{message_header}
use Rattle.paper.specs.Profile.{Key, Command, ulr, pur, nor, commands, command_in, command_of, session_id, proxy_info, terminal_information, imei}
use Rattle.paper.specs.Request.{avps_of, find, has, inside, used_in, used, terminal, imei_of, earlier, key_number, repeated, command_code}
use Rattle.paper.specs.Answer.{item, echoed, each_of}
use Rattle.paper.proofs.AvpLaws.{head_size-least}
use Rattle.paper.proofs.AvpsLaws.{cond_cases, sizes-most}
use Rattle.paper.proofs.OptionLaws.{Holds, holds-map, holds_both, earlier-cases}
use Rattle.paper.proofs.Totals.{total, number_of, size_if, size_other, totals, distinct, keys-and-others, key_among_others, key_among_all, size_if_key, first_takes, first_size, first_of_all, second_of_keys, second_takes}
use Rattle.paper.proofs.ShownSizes.{view_small, body_takes}
use Rattle.paper.proofs.AnswerParts.{length-base, echo_size}

-- ---- what is echoed

-- an AVP echoed without V takes no more than it took
echo_takes : (code : ℕ) (mandatory : Bool) (a : Avp) → length (written 0 code mandatory a.body) ≤ size_of a
unfolding size_of padded
echo_takes code mandatory a = let h = head_size-least a.flags in rw (length-base code mandatory a.body) (omega arith)

-- the number of a key without a vendor is that of no other key
key_test : (code : ℕ) (a : Avp) → code < 4294967296 → eqb (number_of a) (key_of 0 code) ≡ has_key 0 code a
unfolding key_of has_key
key_test code a h = go (eqb a.vendor 0) (eqb a.code code) refl refl
  where
    mine : ℕ
    mine = a.vendor * 4294967296 + a.code

    sought : ℕ
    sought = 0 * 4294967296 + code

    go : (v c : Bool) → eqb a.vendor 0 ≡ v → eqb a.code code ≡ c → eqb mine sought ≡ v && c
    go true true p q = let x = eqb-true a.vendor 0 p in let y = eqb-true a.code code q in eq-eqb mine sought (omega arith)
    go true false p q = let x = eqb-true a.vendor 0 p in ne_eqb mine sought (λ e. eqb-false a.code code q (omega arith))
    go false c p q = ne_eqb mine sought (λ e. eqb-false a.vendor 0 p (omega arith))

module _ (code : ℕ) (h : code < 4294967296) where
  echoed-first : (l : Avps) → length (echoed (record { vendor = 0; code = code }) (first_of 0 code l)) ≤ first_size (key_of 0 code) l
  unfolding first_of first_size echoed
  echoed-first whole = omega arith
  echoed-first (broken p) = omega arith
  echoed-first (more p rest) = rw (key_test code p.avp h) (go (echoed-first rest) (has_key 0 code p.avp))
    where
      key : Key
      key = record { vendor = 0; code = code }

      go : length (echoed key (first_of 0 code rest)) ≤ first_size (key_of 0 code) rest
          → (b : Bool) → length (echoed key (cond b (some p) (first_of 0 code rest))) ≤ cond b (size_of p.avp) (first_size (key_of 0 code) rest)
      go r true = echo_takes code _ p.avp
      go r false = r

  each_takes : (l : Avps) → length (each_of (record { vendor = 0; code = code }) l) ≤ total (size_if (key_of 0 code)) l
  unfolding each_of total
  each_takes whole = omega arith
  each_takes (broken p) = omega arith
  each_takes (more p rest) =
      let r = each_takes rest in
      let e = echo_takes code true p.avp in
      let key : Key = record { vendor = 0; code = code } in
      cond_cases (λ x. length x ≤ size_if (key_of 0 code) p.avp + total (size_if (key_of 0 code)) rest) (has_key 0 code p.avp)
      {x = item key p.avp.body ++ each_of key rest} {y = each_of key rest}
      (λ q. let k = size_if_key 0 code p.avp q in rw length-append (omega arith)) (λ q. omega arith)

-- the keys that are echoed, and the AVPs of other keys
abbrev pub echo_keys : List ℕ
echo_keys = key_number session_id ∷ key_number proxy_info ∷ []

abbrev pub others : List ℕ → ℕ
others m = total (size_other echo_keys) (avps_of m)

echo_distinct : distinct echo_keys ≡ true
unfolding distinct member key_of
echo_distinct = refl

kind_session : kind_of 0 263 ≡ Any
unfolding kind_of kind_in kind_with key_of rows
kind_session = refl

kind_proxy : kind_of 0 284 ≡ Closed
unfolding kind_of kind_in kind_with key_of rows
kind_proxy = refl

-- Session-Id is known and no group; Proxy-Info is not entered
echo-known : (a : Avp) → member (number_of a) echo_keys ≡ true → (kind_of a.vendor a.code ≢ Group) × (kind_of a.vendor a.code ≢ Unknown)
unfolding kind_of kind_in member
echo-known a e = go (eqb (number_of a) (key_number session_id)) (eqb (number_of a) (key_number proxy_info)) refl refl e
  where
    plain : (k : Kind) → k ≡ Any → (k ≢ Group) × (k ≢ Unknown)
    plain k q = (λ r. let z : ◌≡◌ {A = ℕ} 0 1 = cc in absurd (omega arith), λ r. let z : ◌≡◌ {A = ℕ} 0 1 = cc in absurd (omega arith))

    shut : (k : Kind) → k ≡ Closed → (k ≢ Group) × (k ≢ Unknown)
    shut k q = (λ r. let z : ◌≡◌ {A = ℕ} 0 1 = cc in absurd (omega arith), λ r. let z : ◌≡◌ {A = ℕ} 0 1 = cc in absurd (omega arith))

    go : (s p : Bool) → eqb (number_of a) (key_number session_id) ≡ s → eqb (number_of a) (key_number proxy_info) ≡ p → s || (p || false) ≡ true
        → (kind_with (number_of a) rows ≢ Group) × (kind_with (number_of a) rows ≢ Unknown)
    go true p q r t = plain (kind_with (number_of a) rows) (ap (λ (n : ℕ). kind_with n rows) (eqb-true _ _ q) ∙ kind_session)
    go false true q r t = shut (kind_with (number_of a) rows) (ap (λ (n : ℕ). kind_with n rows) (eqb-true _ _ r) ∙ kind_proxy)
    go false false q r t = absurd (false≢true t)

-- ---- the request has room for what is echoed and what is shown

-- the AVP fits into the request beside what is echoed
abbrev pub Fits : List ℕ → Avp → Type 0
Fits m a = size_of a + echo_size m + 20 ≤ length m

abbrev pub Shown : List ℕ → Option Placed → Type 0
Shown m o = Holds (λ p. Fits m p.avp) o

module _ (m : List ℕ) (h : 20 ≤ length m) where
  pub all_inside : sizes (avps_of m) + 20 ≤ length m
  unfolding avps_of
  all_inside = let s = rw length-drop at (sizes-most 20 (drop 20 m)) in omega arith

  pub echoed_session : length (echoed session_id (find session_id (avps_of m))) ≤ first_size (key_number session_id) (avps_of m)
  echoed_session = echoed-first 263 (omega arith) (avps_of m)

  pub echoed_proxies : length (each_of proxy_info (avps_of m)) ≤ total (size_if (key_number proxy_info)) (avps_of m)
  echoed_proxies = each_takes 284 (omega arith) (avps_of m)

  -- the AVPs of the echoed keys and all others
  pub echo-and-others : total (size_if (key_number session_id)) (avps_of m) + total (size_if (key_number proxy_info)) (avps_of m) + others m + 20 ≤ length m
  unfolding totals
  echo-and-others = let k = keys-and-others echo_keys echo_distinct (avps_of m) in let a = all_inside in omega arith

  fits_among_others : (a : Avp) → size_of a ≤ others m → Fits m a
  fits_among_others a k =
      let s = echoed_session in
      let f = first_of_all (key_number session_id) (avps_of m) in
      let p = echoed_proxies in
      let e = echo-and-others in
      omega arith

  -- an AVP of another key, or inside one
  fits_of_key : (n : ℕ) → member n echo_keys ≡ false → (a : Avp) → size_of a ≤ total (size_if n) (avps_of m) → Fits m a
  fits_of_key n e a k = fits_among_others a (let o = key_among_others n echo_keys e (avps_of m) in omega arith)

  pub echo-fits : echo_size m + 20 ≤ length m
  echo-fits =
      let s = echoed_session in
      let f = first_of_all (key_number session_id) (avps_of m) in
      let p = echoed_proxies in
      let e = echo-and-others in
      omega arith

  -- the first of a key that is not echoed
  pub found-fits : (k : Key) → member (key_number k) echo_keys ≡ false → Shown m (find k (avps_of m))
  found-fits k e = holds-map (λ p l. fits_of_key (key_number k) e p.avp l) (find k (avps_of m)) (first_takes k.vendor k.code (avps_of m))

  -- ---- unknown AVPs

  -- however deep groups are entered
  pub unsupported-fits : (left : ℕ) → Shown m (view kind_of (λ vendor code x. x) left message_header (drop message_header m)).unsupported
  unfolding avps_of
  unsupported-fits left =
      holds-map (λ p l. fits_among_others p.avp l) (view kind_of (λ vendor code x. x) left message_header (drop message_header m)).unsupported
      (view_small kind_of (λ vendor code x. x) echo_keys echo-known left message_header (drop message_header m))

  -- ---- IMEIs

  -- the AVPs inside Terminal-Information take no more than it does
  inside_takes : (o : Option Placed) → Holds (λ p. size_of p.avp ≤ total (size_if (key_number terminal_information)) (avps_of m)) o
      → sizes (inside o) ≤ total (size_if (key_number terminal_information)) (avps_of m)
  unfolding sizes
  inside_takes none h = omega arith
  inside_takes (some p) h = let s = sizes-most (body_at p) p.avp.body in let b = body_takes p.avp in omega arith

  terminal_takes : sizes (terminal m) ≤ total (size_if (key_number terminal_information)) (avps_of m)
  unfolding terminal sizes
  terminal_takes =
      cond_cases (λ l. sizes l ≤ total (size_if (key_number terminal_information)) (avps_of m)) (has terminal_information (used m))
      (λ e. inside_takes (find terminal_information (avps_of m)) (first_takes terminal_information.vendor terminal_information.code (avps_of m))) (λ e. omega arith)

  fits_in_terminal : (a : Avp) → size_of a ≤ sizes (terminal m) → Fits m a
  unfolding member key_of
  fits_in_terminal a k = fits_of_key (key_number terminal_information) refl a (let t = terminal_takes in omega arith)

  pub imei-fits : Shown m (imei_of m)
  imei-fits =
      holds-map (λ p l. fits_in_terminal p.avp (let a = key_among_all (key_number imei) (terminal m) in omega arith)) (imei_of m)
      (first_takes imei.vendor imei.code (terminal m))

  -- ---- the first that is a second

  -- no command uses Proxy-Info in this sense
  proxy_excepted : (code : ℕ) → member (key_number proxy_info) (map key_number (used_in (command_of code))) ≡ false
  unfolding command_of command_in commands used_in member key_of
  proxy_excepted code =
      let Excepted : Option Command → Type 0 = λ c. member (key_number proxy_info) (map key_number (used_in c)) ≡ false in
      cond_cases Excepted (eqb ulr code) (λ e. refl) (λ e. cond_cases Excepted (eqb pur code) (λ f. refl) (λ f. cond_cases Excepted (eqb nor code) (λ g. refl) (λ g. refl)))

  -- a second Session-Id fits beside the first, a second of another key beside both
  second_fits : (a : Avp) → member (number_of a) (map key_number (used m)) ≡ true
      → size_of a + first_size (number_of a) (avps_of m) ≤ total (size_if (number_of a)) (avps_of m) → Fits m a
  unfolding member
  second_fits a u k = go (eqb (number_of a) (key_number session_id)) (eqb (number_of a) (key_number proxy_info)) refl refl
    where
      go : (s p : Bool) → eqb (number_of a) (key_number session_id) ≡ s → eqb (number_of a) (key_number proxy_info) ≡ p → Fits m a
      go true p q r =
          let l = rw (eqb-true (number_of a) (key_number session_id) q) at k in
          let s = echoed_session in
          let e = echoed_proxies in
          let o = echo-and-others in
          omega arith
      go false true q r = absurd (false≢true (sym (proxy_excepted (command_code m)) ∙ rw (eqb-true (number_of a) (key_number proxy_info) r) at u))
      go false false q r = fits_of_key (number_of a) (rw (q, r)) a (omega arith)

  pub repeated-fits : Shown m (repeated m)
  unfolding repeated earlier member
  repeated-fits =
      let top = first_second (map key_number (used m)) [] (avps_of m) in
      let deep = first_second (key_number imei ∷ []) [] (terminal m) in
      earlier-fits top deep
      (holds_both (λ p u k. second_fits p.avp u k) top (second_of_keys (map key_number (used m)) [] (avps_of m)) (second_takes (map key_number (used m)) [] (avps_of m)))
      (holds-map (λ p k. fits_in_terminal p.avp (let a = key_among_all (number_of p.avp) (terminal m) in omega arith)) deep (second_takes (key_number imei ∷ []) [] (terminal m)))
    where
      earlier-fits : (o q : Option Placed) → Shown m o → Shown m q → Shown m (earlier o q)
      earlier-fits none q a b = b
      earlier-fits (some p) none a b = a
      earlier-fits (some p) (some q) a b = earlier-cases (Shown m) p q (λ h. b) (λ h. a)

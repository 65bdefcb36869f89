-- "second of an AVP that the command uses [..]; the first in message order": what the test finds is that AVP.
-- Assumes nothing.
use mathlib.Core.Path.{◌≡◌, refl, sym, ap, ◌∙◌, subst, subst₂}
use mathlib.Core.Bool.{Bool, true, false, cond, ◌&&◌, ◌||◌, false≢true, or-true}
use mathlib.Core.Option.{Option, none, some}
use mathlib.Core.List.{List, [], ◌∷◌, map}
use Prim.Native.Nat.{ℕ, ◌+◌, ◌-◌, ◌≤◌, ◌<◌}
use native.Mathlib.Omega.{arith}
use lib.ListN.{length, drop}
use lib.Dec.{ltb, eqb}
use borrow.Author.Tests.{eqb-true, eqb-false, eq-eqb, ne_eqb, ltb-true}
use Rattle.std.proofs.lemmas.Bool.{and_parts}
use Rattle.wire.specs.Number.{Bytes}
use Rattle.wire.proofs.NumberLaws.{num_at-lt, bytes-part}
use Rattle.dictionary.specs.Rows.{key_of}
use Rattle.paper.specs.Avp.{avp_of}
use Rattle.paper.specs.Reader.{Placed, Avps, whole, broken, more, body_at}
use Rattle.paper.specs.Find.{member, first_second}
use Rattle.paper.specs.Profile.{Key, ulr, pur, nor, commands, command_in, command_of, terminal_information, imei}
use Rattle.paper.specs.Request.{command_code, avps_of, find, inside, has, used_in, used, terminal, key_number, earlier, repeated}
use Rattle.paper.specs.ShownIn.{StandsIn, HeadIn}
use Rattle.paper.specs.Refusals.{used_said}
use Rattle.paper.specs.Firsts.{IsFirst, Among, here, behind, Leads, Second, top_of, inside_of, Used, Repeats, of_command, of_terminal}
use Rattle.paper.proofs.OptionLaws.{earlier-cases}
use Rattle.paper.proofs.SaidLaws.{used_as_said}
use Rattle.paper.proofs.AvpsLaws.{cond_cases, some_injective}
use Rattle.paper.proofs.StandsIn.{AllIn, inside_all_in}
use Rattle.paper.proofs.ShownLaws.{found-earlier, all_in_lem, top-standing}
use Rattle.paper.proofs.VisitLaws.{Found, found_none}
use Rattle.paper.proofs.FirstLaws.{each_among, Lies, body_end, avps_lie, behind-later, NoLater, place_of, found_leads, leads_found}

-- ---- keys as numbers

abbrev codes : ℕ
codes = 4294967296

same_key : (v c v' c' : ℕ) → c < codes → c' < codes → key_of v c ≡ key_of v' c' → (v ≡ v') × (c ≡ c')
unfolding key_of
same_key v c v' c' h k e = (omega arith, omega arith)

key_test : (v c v' c' : ℕ) → c < codes → c' < codes → eqb (key_of v c) (key_of v' c') ≡ eqb v v' && eqb c c'
key_test v c v' c' h k = go (eqb v v') refl (eqb c c') refl
  where
    go : (a : Bool) → eqb v v' ≡ a → (b : Bool) → eqb c c' ≡ b → eqb (key_of v c) (key_of v' c') ≡ a && b
    go true e true f = rw (eqb-true v v' e, eqb-true c c' f) (eq-eqb (key_of v' c') (key_of v' c') refl)
    go true e false f = ne_eqb _ _ (λ q. eqb-false c c' f (same_key v c v' c' h k q).1)
    go false e b f = ne_eqb _ _ (λ q. eqb-false v v' e (same_key v c v' c' h k q).0)

unfoldable small : List Key → Bool
small [] = true
small (k ∷ ks) = ltb k.code codes && small ks

member-has : (ks : List Key) → small ks ≡ true → (k : Key) → k.code < codes → member (key_number k) (map key_number ks) ≡ has k ks
unfolding member has small
member-has [] s k h = refl
member-has (x ∷ xs) s k h =
    let n = ltb-true x.code codes (and_parts (ltb x.code codes) (small xs) s).0 in
    rw (key_test k.vendor k.code x.vendor x.code h n, member-has xs (and_parts (ltb x.code codes) (small xs) s).1 k h)

-- ---- the AVPs that a command uses

has-used : (m : List ℕ) (k : Key) → has k (used m) ≡ has k (used_said (command_code m))
has-used m k = ap (has k) (used_as_said (command_code m))

used_small : (n : ℕ) → small (used_in (command_of n)) ≡ true
unfolding command_of command_in commands used_in small
used_small n =
    cond_cases (λ o. small (used_in o) ≡ true) (eqb ulr n) (λ e. refl)
    (λ e. cond_cases (λ o. small (used_in o) ≡ true) (eqb pur n) (λ f. refl)
    (λ f. cond_cases (λ o. small (used_in o) ≡ true) (eqb nor n) (λ g. refl) (λ g. refl)))

-- ---- the first that is a second, by key numbers

abbrev key_at : Placed → ℕ
key_at p = key_of p.avp.vendor p.avp.code

-- another of its key was met before the list, or stands in the list before it
data Prior (met : List ℕ) (l : Avps) (p : Placed) : Type 0 where
  met-before : member (key_at p) met ≡ true → Prior met l p
  stood_before : {q : Placed} → Among l q → key_at q ≡ key_at p → q.at < p.at → Prior met l p

record Repeated (keys met : List ℕ) (l : Avps) (p : Placed) : Type 0 where
  there : Among l p
  used : member (key_at p) keys ≡ true
  prior : Prior met l p

-- none is met before the first AVP but outside the list
met-here : (at to : ℕ) {met : List ℕ} {p : Placed} {rest : Avps} → Lies at to (more p rest) → Prior met (more p rest) p → member (key_at p) met ≡ true
met-here at to e (met-before h) = h
met-here at to e (stood_before here k h) = absurd (omega arith)
met-here at to {p} e (stood_before (behind a) k h) = let b = behind-later at to p e a in absurd (omega arith)

prior_behind : {met : List ℕ} {p q : Placed} {rest : Avps} → Prior met (more q rest) p → Prior (key_at q ∷ met) rest p
unfolding member
prior_behind {p} {q} (met-before h) = met-before (rw h (or-true (eqb (key_at p) (key_at q))))
prior_behind {p} {q} (stood_before here k h) = met-before (rw (eq-eqb (key_at p) (key_at q) (sym k)))
prior_behind (stood_before (behind a) k h) = stood_before a k h

prior_other : (keys : List ℕ) {met : List ℕ} {p q : Placed} {rest : Avps} → member (key_at q) keys ≡ false → member (key_at p) keys ≡ true → Prior met (more q rest) p → Prior met rest p
prior_other keys f t (met-before h) = met-before h
prior_other keys f t (stood_before here k h) = absurd (false≢true (sym f ∙ ap (λ (n : ℕ). member n keys) k ∙ t))
prior_other keys f t (stood_before (behind a) k h) = stood_before a k h

prior_ahead : (at to : ℕ) {met : List ℕ} {p q : Placed} {rest : Avps} → Lies at to (more q rest) → Among rest p → Prior (key_at q ∷ met) rest p → Prior met (more q rest) p
unfolding member
prior_ahead at to {met} {p} {q} {rest} e a (met-before h) = go (eqb (key_at p) (key_at q)) refl h
  where
    go : (b : Bool) → eqb (key_at p) (key_at q) ≡ b → b || member (key_at p) met ≡ true → Prior met (more q rest) p
    go true f t = stood_before here (sym (eqb-true (key_at p) (key_at q) f)) (behind-later at to q e a)
    go false f t = met-before t
prior_ahead at to e a (stood_before b k h) = stood_before (behind b) k h

prior_further : {met : List ℕ} {p q : Placed} {rest : Avps} → Prior met rest p → Prior met (more q rest) p
prior_further (met-before h) = met-before h
prior_further (stood_before a k h) = stood_before (behind a) k h

module _ (keys : List ℕ) where
  repeated-is : (at to : ℕ) (met : List ℕ) (l : Avps) (p : Placed) → Lies at to l → first_second keys met l ≡ some p → Repeated keys met l p
  unfolding first_second
  repeated-is at to met whole p e f = found_none (Repeated keys met whole) p f
  repeated-is at to met (broken q) p e f = found_none (Repeated keys met (broken q)) p f
  repeated-is at to met (more q rest) p e f =
      go (member (key_at q) keys) refl (member (key_at q) met) refl (repeated-is (body_end q) to (key_at q ∷ met) rest p e.2) (repeated-is (body_end q) to met rest p e.2) f
    where
      go : (b : Bool) → member (key_at q) keys ≡ b → (c : Bool) → member (key_at q) met ≡ c
          → (first_second keys (key_at q ∷ met) rest ≡ some p → Repeated keys (key_at q ∷ met) rest p) → (first_second keys met rest ≡ some p → Repeated keys met rest p)
          → cond b (cond c (some q) (first_second keys (key_at q ∷ met) rest)) (first_second keys met rest) ≡ some p → Repeated keys met (more q rest) p
      go true t true u i j k = subst (Repeated keys met (more q rest)) (some_injective k) (record { there = here; used = t; prior = met-before u })
      go true t false u i j k = let r = i k in record { there = behind r.there; used = r.used; prior = prior_ahead at to e r.there r.prior }
      go false t c u i j k = let r = j k in record { there = behind r.there; used = r.used; prior = prior_further r.prior }

  repeated-first : (at to : ℕ) {met : List ℕ} {l : Avps} {p : Placed} → Lies at to l → Among l p → member (key_at p) keys ≡ true → Prior met l p → NoLater place_of (first_second keys met l) p
  unfolding first_second
  repeated-first at to e (here {p}) u h = (p, rw (u, met-here at to e h), omega arith)
  repeated-first at to {met} e (behind {p} {q} {rest} a) u h =
      go (member (key_at q) keys) refl (member (key_at q) met) (behind-later at to q e a) (repeated-first (body_end q) to e.2 a u (prior_behind h))
      (λ f. repeated-first (body_end q) to e.2 a u (prior_other keys f u h))
    where
      go : (b : Bool) → member (key_at q) keys ≡ b → (c : Bool) → q.at < p.at → NoLater place_of (first_second keys (key_at q ∷ met) rest) p
          → (member (key_at q) keys ≡ false → NoLater place_of (first_second keys met rest) p)
          → NoLater place_of (cond b (cond c (some q) (first_second keys (key_at q ∷ met) rest)) (first_second keys met rest)) p
      go true t true k f g = (q, refl, omega arith)
      go true t false k f g = f
      go false t c k f g = g t

-- ---- the first that is a second, by keys

abbrev key_in : Placed → Key
key_in p = record { vendor = p.avp.vendor; code = p.avp.code }

-- a second of one of the keys, by its own
record Seconds (ks : List Key) (l : Avps) (p : Placed) : Type 0 where
  used : has (key_in p) ks ≡ true
  second : Second l p.avp.vendor p.avp.code p

module _ (ks : List Key) (short : small ks ≡ true) (at to : ℕ) (l : Avps) (e : Lies at to l) (low : (q : Placed) → Among l q → q.avp.code < codes) where
  seconds_is : (p : Placed) → first_second (map key_number ks) [] l ≡ some p → Seconds ks l p
  unfolding member
  seconds_is p f = go (repeated-is (map key_number ks) at to [] l p e f)
    where
      by : Among l p → Prior [] l p → Second l p.avp.vendor p.avp.code p
      by a (met-before h) = absurd (false≢true h)
      by a (stood_before {q} b k h) =
          let s = same_key _ _ _ _ (low q b) (low p a) k in
          record { one = record { there = a; of_vendor = refl; of_code = refl }; other = q; another = record { there = b; of_vendor = s.0; of_code = s.1 }; before = h }

      go : Repeated (map key_number ks) [] l p → Seconds ks l p
      go r = record { used = sym (member-has ks short (key_in p) (low p r.there)) ∙ r.used; second = by r.there r.prior }

  seconds_first : (vendor code : ℕ) (p : Placed) → has (record { vendor = vendor; code = code }) ks ≡ true → Second l vendor code p → NoLater place_of (first_second (map key_number ks) [] l) p
  seconds_first vendor code p h s =
      let o = s.one in
      let x = s.another in
      let u : has (key_in p) ks ≡ true = rw (o.of_vendor, o.of_code) h in
      let k : key_at s.other ≡ key_at p = rw (x.of_vendor, x.of_code, o.of_vendor, o.of_code) in
      repeated-first (map key_number ks) at to e o.there (member-has ks short (key_in p) (low p o.there) ∙ u) (stood_before x.there k s.before)

-- ---- the earlier of two

place_found : {p x : Placed} (n : ℕ) → some p ≡ some x → x.at ≤ n → p.at ≤ n
place_found n e h = subst (λ (q : Placed). q.at ≤ n) (sym (some_injective e)) h

earlier-left : (a b : Option Placed) (y : Placed) → NoLater place_of a y → NoLater place_of (earlier a b) y
unfolding earlier
earlier-left none b y n = found_none (λ x. NoLater place_of (earlier none b) y) n.0 n.1
earlier-left (some p) none y n = n
earlier-left (some p) (some q) y n =
    let i = place_found y.at n.1 n.2 in
    earlier-cases (λ o. NoLater place_of o y) p q (λ h. (q, refl, omega arith)) (λ h. (p, refl, i))

earlier-right : (a b : Option Placed) (y : Placed) → NoLater place_of b y → NoLater place_of (earlier a b) y
unfolding earlier
earlier-right none b y n = n
earlier-right (some p) none y n = found_none (λ x. NoLater place_of (earlier (some p) none) y) n.0 n.1
earlier-right (some p) (some q) y n =
    let i = place_found y.at n.1 n.2 in
    earlier-cases (λ o. NoLater place_of o y) p q (λ h. (q, refl, i)) (λ h. (p, refl, omega arith))

-- ---- of a request

imei-key : (p : Placed) → has (key_in p) (imei ∷ []) ≡ true → (p.avp.vendor ≡ 10415) × (p.avp.code ≡ 1402)
unfolding has
imei-key p e = go (eqb p.avp.vendor 10415) refl (eqb p.avp.code 1402) refl e
  where
    go : (a : Bool) → eqb p.avp.vendor 10415 ≡ a → (b : Bool) → eqb p.avp.code 1402 ≡ b → (a && b) || false ≡ true → (p.avp.vendor ≡ 10415) × (p.avp.code ≡ 1402)
    go true f true g h = (eqb-true _ _ f, eqb-true _ _ g)
    go true f false g h = absurd (false≢true h)
    go false f b g h = absurd (false≢true h)

low_in : (m : List ℕ) → Bytes m → (l : Avps) → AllIn m l → (q : Placed) → Among l q → q.avp.code < codes
unfolding avp_of
low_in m b l all q a =
    let t = each_among (StandsIn m) (HeadIn m) all a in
    rw t.avp (num_at-lt 4 _ 0 (bytes-part q.at (q.end - q.at) m b))

module _ (m : List ℕ) (long : 20 ≤ length m) (b : Bytes m) where
  abbrev top-first : Option Placed
  top-first = first_second (map key_number (used m)) [] (avps_of m)

  abbrev inner_first : Option Placed
  inner_first = first_second (key_number imei ∷ []) [] (terminal m)

  top-lies : Lies 20 (20 + length (drop 20 m)) (avps_of m)
  unfolding avps_of
  top-lies = avps_lie 20 (drop 20 m)

  top_low : (q : Placed) → Among (avps_of m) q → q.avp.code < codes
  top_low = low_in m b (avps_of m) (all_in_lem m long)

  top-is : Found (Repeats m) top-first
  unfolding avps_of
  top-is p f =
      let s = seconds_is (used m) (used_small (command_code m)) 20 _ (avps_of m) top-lies top_low p f in
      of_command (sym (has-used m (key_in p)) ∙ s.used) s.second

  -- the AVPs inside the first Terminal-Information
  module _ (g : Placed) (f : find terminal_information (avps_of m) ≡ some g) where
    inner_lies : Lies (body_at g) (body_end g) (inside_of g)
    inner_lies = avps_lie (body_at g) g.avp.body

    inner_low : (q : Placed) → Among (inside_of g) q → q.avp.code < codes
    inner_low = low_in m b (inside_of g) (inside_all_in m g (top-standing m long terminal_information g f))

    inner_second : (p : Placed) → first_second (key_number imei ∷ []) [] (inside_of g) ≡ some p → Second (inside_of g) 10415 1402 p
    unfolding small
    inner_second p e =
        let s = seconds_is (imei ∷ []) refl (body_at g) (body_end g) (inside_of g) inner_lies inner_low p e in
        let k = imei-key p s.used in
        subst₂ (λ (v c : ℕ). Second (inside_of g) v c p) k.0 k.1 s.second

    inner_no_later : (p : Placed) → Second (inside_of g) 10415 1402 p → NoLater place_of (first_second (key_number imei ∷ []) [] (inside_of g)) p
    unfolding small has
    inner_no_later p s = seconds_first (imei ∷ []) refl (body_at g) (body_end g) (inside_of g) inner_lies inner_low 10415 1402 p refl s

  inner_is : Found (Repeats m) inner_first
  unfolding terminal avps_of first_second
  inner_is p f = go (has terminal_information (used m)) refl (find terminal_information (avps_of m)) refl f
    where
      go : (c : Bool) → has terminal_information (used m) ≡ c → (o : Option Placed) → find terminal_information (avps_of m) ≡ o → first_second (key_number imei ∷ []) [] (cond c (inside o) whole) ≡ some p → Repeats m p
      go false u o e h = found_none (Repeats m) p h
      go true u none e h = found_none (Repeats m) p h
      go true u (some g) e h = of_terminal (sym (has-used m terminal_information) ∙ u) (found_leads 10415 1401 20 _ (avps_of m) g top-lies e) (inner_second g e p h)

  inner_first-is : (g p : Placed) → Used m 10415 1401 → Leads (top_of m) 10415 1401 g → Second (inside_of g) 10415 1402 p → NoLater place_of inner_first p
  unfolding terminal avps_of
  inner_first-is g p u k s =
      let f = leads_found 10415 1401 20 _ (top_of m) g top-lies k in
      rw (has-used m terminal_information ∙ u, f) (inner_no_later g f p s)

  no_later : (p : Placed) → Repeats m p → NoLater place_of (repeated m) p
  unfolding repeated avps_of
  no_later p (of_command {vendor} {code} u s) =
      earlier-left top-first inner_first p
      (seconds_first (used m) (used_small (command_code m)) 20 _ (avps_of m) top-lies top_low vendor code p (has-used m (record { vendor = vendor; code = code }) ∙ u) s)
  no_later p (of_terminal {g} u k s) = earlier-right top-first inner_first p (inner_first-is g p u k s)

  -- what 5009 shows is the first second of what the command uses
  pub first-repeated : IsFirst place_of (Repeats m) (repeated m)
  unfolding repeated
  first-repeated = record { is = found-earlier (Repeats m) top-first inner_first top-is inner_is; first = no_later }

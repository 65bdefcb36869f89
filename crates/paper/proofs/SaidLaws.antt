-- What the list of refusals says by its own numbers is what the profile, the tests and the table say.
-- Assumes nothing.
use mathlib.Core.Path.{◌≡◌, refl, sym, ap, ◌∙◌, subst}
use mathlib.Core.Bool.{Bool, true, false, cond, ◌||◌, not}
use mathlib.Core.Option.{none, some}
use mathlib.Core.List.{List, [], ◌∷◌}
use Prim.Native.Nat.{ℕ, zero, suc, ◌+◌, ◌*◌}
use native.Mathlib.Nat.{zero-add, add-zero}
use native.Mathlib.Omega.{arith}
use lib.Dec.{eqb}
use borrow.Author.Tests.{eqb-true}
use Rattle.wire.specs.Number.{num_at}
use Rattle.wire.specs.Put.{part}
use Rattle.wire.specs.Stretch.{same}
use Rattle.paper.specs.Reader.{whole}
use Rattle.paper.specs.Find as Find
use Rattle.paper.specs.Find.{member}
use Rattle.paper.specs.Profile.{Key, key, commands, command_in, command_of, user_name, origin_host, visited_plmn_id, terminal_information}
use Rattle.paper.specs.Table.{record_of, imsi_of, count_of, seek, lookup}
use Rattle.paper.specs.Request.{avps_of, value_of, find, inside, has, used_in, required_in, terminal, if_used}
use Rattle.paper.specs.Procedures.{has_plmn}
use Rattle.paper.specs.Clerks.{is_none}
use Rattle.paper.specs.Refusals.{required_by, used_by, avps_by, required_said, used_said, user_name_of, origin_host_of, visited_plmn_id_of, in_terminal, some_below, lists_imsi}
use Rattle.paper.proofs.PromiseSeconds.{eqb_sym}
use Rattle.paper.proofs.TableLaws.{part_of_record}

-- ---- the AVPs of a command

-- each of the three commands, and any other code
pub by_code : (P : ℕ → Type 0) → P 316 → P 321 → P 323 → (c : ℕ) → (eqb c 316 ≡ false → eqb c 321 ≡ false → eqb c 323 ≡ false → P c) → P c
by_code P a b d c other = go (eqb c 316) refl (eqb c 321) refl (eqb c 323) refl
  where
    go : (x : Bool) → eqb c 316 ≡ x → (y : Bool) → eqb c 321 ≡ y → (z : Bool) → eqb c 323 ≡ z → P c
    go true p y q z r = subst P (sym (eqb-true c 316 p)) a
    go false p true q z r = subst P (sym (eqb-true c 321 q)) b
    go false p false q true r = subst P (sym (eqb-true c 323 r)) d
    go false p false q false r = other p q r

-- the profile's rows are those of 01's sentences, AVP by AVP
pub used_as_said : (c : ℕ) → used_in (command_of c) ≡ used_said c
unfolding commands command_in command_of used_in required_by used_by avps_by member
used_as_said c =
    by_code (λ c. used_in (command_of c) ≡ used_said c) refl refl refl c (λ p q r. rw (eqb_sym 316 c, eqb_sym 321 c, eqb_sym 323 c, p, q, r))

pub required_as_said : (c : ℕ) → required_in (command_of c) ≡ required_said c
unfolding commands command_in command_of required_in required_by avps_by member
required_as_said c =
    by_code (λ c. required_in (command_of c) ≡ required_said c) refl refl refl c (λ p q r. rw (eqb_sym 316 c, eqb_sym 321 c, eqb_sym 323 c, p, q, r))

-- a command uses the AVP exactly if it is one of these
module _ (k : Key) (by : List ℕ) (a : has k (used_said 316) ≡ member 316 by) (b : has k (used_said 321) ≡ member 321 by) (d : has k (used_said 323) ≡ member 323 by)
    (others : (c : ℕ) → eqb c 316 ≡ false → eqb c 321 ≡ false → eqb c 323 ≡ false → member c by ≡ false) where
  uses : (c : ℕ) → has k (used_said c) ≡ member c by
  unfolding required_by used_by avps_by member has
  uses c = by_code (λ c. has k (used_said c) ≡ member c by) a b d c (λ p q r. rw (p, q, r, others c p q r))

  used-first : (m : List ℕ) → if_used k m ≡ cond (member (num_at 3 m 5) by) (find k (avps_of m)) none
  used-first m = ap (λ (x : Bool). cond x (find k (avps_of m)) none) (ap (has k) (used_as_said (num_at 3 m 5)) ∙ uses (num_at 3 m 5))

pub user-name-said : (m : List ℕ) → if_used user_name m ≡ user_name_of m
unfolding required_by used_by avps_by member has
user-name-said = used-first user_name (316 ∷ 321 ∷ 323 ∷ []) refl refl refl (λ c p q r. rw (p, q, r))

pub origin_host-said : (m : List ℕ) → if_used origin_host m ≡ origin_host_of m
unfolding required_by used_by avps_by member has
origin_host-said = used-first origin_host (316 ∷ 321 ∷ 323 ∷ []) refl refl refl (λ c p q r. rw (p, q, r))

pub visited_plmn_id_said : (m : List ℕ) → if_used visited_plmn_id m ≡ visited_plmn_id_of m
unfolding required_by used_by avps_by member has
visited_plmn_id_said = used-first visited_plmn_id (316 ∷ []) refl refl refl (λ c p q r. rw p)

pub terminal-said : (m : List ℕ) → terminal m ≡ in_terminal m
unfolding terminal required_by used_by avps_by member has
terminal-said m =
    go (has terminal_information (used_in (command_of (num_at 3 m 5))))
    ∙ ap inside (used-first terminal_information (316 ∷ 323 ∷ []) refl refl refl (λ c p q r. rw (p, r)) m)
  where
    go : (b : Bool) → cond b (inside (find terminal_information (avps_of m))) whole ≡ inside (cond b (find terminal_information (avps_of m)) none)
    go true = refl
    go false = refl

-- ---- one of the numbers below another

some_first : (f : ℕ → Bool) (n : ℕ) → some_below f (suc n) ≡ f 0 || some_below (λ j. f (suc j)) n
unfolding some_below
some_first f zero = go (f 0)
  where
    go : (b : Bool) → b ≡ b || false
    go true = refl
    go false = refl
some_first f (suc n) = ap (λ (b : Bool). b || f (suc n)) (some_first f n) ∙ go (f 0)
  where
    go : (b : Bool) → (b || some_below (λ j. f (suc j)) n) || f (suc n) ≡ b || (some_below (λ j. f (suc j)) n || f (suc n))
    go true = refl
    go false = refl

-- ---- the IMSI of a record

pub imsi-at : (t : List ℕ) (i : ℕ) → imsi_of (record_of t i) ≡ part (8 + 256 * i) 16 t
imsi-at t i = part_of_record t i 0 16 (omega arith) ∙ ap (λ (k : ℕ). part k 16 t) (add-zero (8 + 256 * i))

seek-said : (imsi t : List ℕ) (f : ℕ → Bool) (a n : ℕ) → ((j : ℕ) → same (imsi_of (record_of t (a + j))) imsi ≡ f j) → is_none (seek imsi t a n) ≡ not (some_below f n)
unfolding seek some_below
seek-said imsi t f a zero h = refl
seek-said imsi t f a (suc n) h =
    ap (λ (b : Bool). is_none (cond b (some a) (seek imsi t (suc a) n))) (ap (λ (k : ℕ). same (imsi_of (record_of t k)) imsi) (sym (add-zero a)) ∙ h 0)
    ∙ go (f 0) (seek-said imsi t (λ j. f (suc j)) (suc a) n (λ j. ap (λ (k : ℕ). same (imsi_of (record_of t k)) imsi) (shift j) ∙ h (suc j)))
    ∙ ap not (sym (some_first f n))
  where
    shift : (j : ℕ) → suc a + j ≡ a + suc j
    shift j = omega arith

    go : (b : Bool) → is_none (seek imsi t (suc a) n) ≡ not (some_below (λ j. f (suc j)) n)
        → is_none (cond b (some a) (seek imsi t (suc a) n)) ≡ not (b || some_below (λ j. f (suc j)) n)
    go true e = refl
    go false e = e

pub no_imsi-said : (imsi t : List ℕ) → is_none (lookup imsi t) ≡ not (lists_imsi t imsi)
unfolding lookup count_of
no_imsi-said imsi t =
    seek-said imsi t (λ i. same (part (8 + 256 * i) 16 t) imsi) 0 (num_at 2 t 6)
    (λ j. ap (λ (k : ℕ). same (imsi_of (record_of t k)) imsi) (zero-add j) ∙ ap (λ (x : List ℕ). same x imsi) (imsi-at t j))

-- ---- the PLMNs of a record

pub plmn-listed : (plmn r : List ℕ) (n : ℕ) → has_plmn plmn r n ≡ some_below (λ k. same (part (32 + 3 * k) 3 r) plmn) n
unfolding has_plmn some_below
plmn-listed plmn r zero = refl
plmn-listed plmn r (suc n) = rw (plmn-listed plmn r n)

-- "Origin-Host, once found, is handed on": the part that is handed on is the data of the first AVP (0, 264)
pub host_handed : (m : List ℕ) → Find.origin_host m ≡ value_of (key 0 264) m
unfolding Find.origin_host value_of avps_of
host_handed m = refl

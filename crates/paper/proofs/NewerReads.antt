-- Two requests of one command that agree in the AVPs it uses: what the registry looks for in them is the same. Assumes nothing.
use mathlib.Core.Path.{◌≡◌, refl, sym, ap, ◌∙◌}
use mathlib.Core.Bool.{Bool, true, false, cond}
use mathlib.Core.Option.{Option, none, some}
use mathlib.Core.List.{List, [], ◌∷◌, map}
use Prim.Native.Nat.{ℕ}
use native.Mathlib.Omega.{arith}
use lib.Dec.{eqb}
use Rattle.std.proofs.lemmas.Bool.{and_parts}
use Rattle.dictionary.specs.Rows.{key_of, kind_of}
use Rattle.paper.specs.Reader.{Placed, Avps, whole, Known}
use Rattle.paper.specs.Find.{body_found, member, first_second}
use Rattle.paper.specs.Profile.{Key, command_of, proxy_info, terminal_information, imei}
use Rattle.paper.specs.Request.{find, is_there, inside, has, used_in, required_in, key_number, first_absent}
use Rattle.paper.specs.Answer.{each_of}
use Rattle.paper.specs.Newer.{top_level, in_terminal, is_key, below, uses, named_bits, named_use, seen_by}
use Rattle.paper.proofs.TestLaws.{or_implies, or_right, or_only}
use Rattle.paper.proofs.CommandLaws.{Recognized}
use Rattle.paper.proofs.NewerTree.{Tree, known-inside, first_kids, seen_found}
use Rattle.paper.proofs.NewerUse.{used_part, first_kept, each_kept, kids_kept, second_kept}
use Rattle.paper.proofs.NewerFacts.{Sees, facts, own_facts, is_seen, all_seen, sees_named, sees_whole, named-whole, is_whole, unknown_outside}
use Rattle.paper.proofs.KindLaws.{leaf-not-group, leaf-not-unknown}

-- ---- an AVP that was found, by its data

abbrev pub data_found : Option Placed → Option (List ℕ)
data_found o = seen_found (λ x. x) o

seen_as : (see see' : List ℕ → List ℕ) → ((x : List ℕ) → see x ≡ see' x) → (o : Option Placed) → seen_found see o ≡ seen_found see' o
seen_as see see' h none = refl
seen_as see see' h (some p) = ap some (h p.avp.body)

-- both are there or none is
pub seen-there : (see : List ℕ → List ℕ) (o o' : Option Placed) → seen_found see o' ≡ seen_found see o → is_there o' ≡ is_there o
seen-there see none none e = refl
seen-there see none (some p) e = let z : ◌≡◌ {A = ℕ} 0 1 = cc in absurd (omega arith)
seen-there see (some p) none e = let z : ◌≡◌ {A = ℕ} 0 1 = cc in absurd (omega arith)
seen-there see (some p) (some q) e = refl

-- what is seen of the data, or of no data
pub seen-body : (see : List ℕ → List ℕ) (o o' : Option Placed) → seen_found see o' ≡ seen_found see o → see (body_found o') ≡ see (body_found o)
seen-body see none none e = refl
seen-body see none (some p) e = let z : ◌≡◌ {A = ℕ} 0 1 = cc in absurd (omega arith)
seen-body see (some p) none e = let z : ◌≡◌ {A = ℕ} 0 1 = cc in absurd (omega arith)
seen-body see (some p) (some q) e = cc

-- ---- two lists of AVPs that agree in what the command uses

-- "IMEI directly in Terminal-Information", where the command uses that
abbrev pub terminal_of : ℕ → Avps → Avps
terminal_of c l = cond (has terminal_information (used_in (command_of c))) (inside (find terminal_information l)) whole

module _ {c : ℕ} (r : Recognized c) {l l' : Avps} {k k' : Known} (t : Tree kind_of (seen_by c) l k) (t' : Tree kind_of (seen_by c) l' k')
    (e : used_part c top_level k' ≡ used_part c top_level k) where
  pub found_kept : (key : Key) (see : List ℕ → List ℕ) → Sees c key see → seen_found see (find key l') ≡ seen_found see (find key l)
  found_kept key see h =
      sym (seen_as _ _ h.all (find key l'))
      ∙ first_kept c top_level t t' e key.vendor key.code h.looks (leaf-not-group _ h.kind) (leaf-not-unknown _ h.kind)
      ∙ seen_as _ _ h.all (find key l)

  pub whole_kept : (key : Key) → is_whole c key ≡ true → data_found (find key l') ≡ data_found (find key l)
  whole_kept key h = found_kept key (λ x. x) (sees_whole c key h)

  pub proxies_kept : each_of proxy_info l' ≡ each_of proxy_info l
  proxies_kept =
      let h = sees_whole c proxy_info (facts r).proxy in
      each_kept c top_level t t' e 0 284 h.looks (leaf-not-group _ h.kind) (leaf-not-unknown _ h.kind) h.all

  -- ---- what is required

  absent_kept : (ks : List Key) → all_seen c ks ≡ true → first_absent ks l' ≡ first_absent ks l
  unfolding first_absent all_seen
  absent_kept [] h = refl
  absent_kept (key ∷ ks) h =
      let see = named_use key.vendor key.code in
      let f = found_kept key see (sees_named c key (and_parts (is_seen c key) _ h).0) in
      rw (seen-there see (find key l) (find key l') f, absent_kept ks (and_parts (is_seen c key) _ h).1)

  pub required_kept : first_absent (required_in (command_of c)) l' ≡ first_absent (required_in (command_of c)) l
  required_kept = absent_kept (required_in (command_of c)) (facts r).required

  -- ---- seconds

  pub second-used_kept : is_there (first_second (map key_number (used_in (command_of c))) [] l') ≡ is_there (first_second (map key_number (used_in (command_of c))) [] l)
  unfolding uses member
  second-used_kept =
      second_kept c top_level t t' e (map key_number (used_in (command_of c))) (unknown_outside (map key_number (used_in (command_of c))) (facts r).keys)
      (λ v n h. or_right (eqb (key_of v n) (key_number proxy_info)) _ h)

  -- ---- Terminal-Information

  module _ (h : has terminal_information (used_in (command_of c)) ≡ true) where
    imei-used : (v n : ℕ) → is_key imei v n ≡ true → uses c in_terminal v n ≡ true
    unfolding uses
    imei-used v n q = rw (q, h)

    imei-seen : (x : List ℕ) → seen_by c 10415 1402 x ≡ x
    unfolding seen_by named_bits key_of
    imei-seen x = rw (or_right (uses c top_level 10415 1402) (uses c in_terminal 10415 1402) (imei-used 10415 1402 refl)) (named-whole imei x refl)

    terminal-used : uses c top_level 10415 1401 ≡ true
    terminal-used = or_implies _ _ (facts r).terminal h

    terminal_tree : {l : Avps} {k : Known} → Tree kind_of (seen_by c) l k → Tree kind_of (seen_by c) (inside (find terminal_information l)) (first_kids 10415 1401 k)
    terminal_tree u = known-inside kind_of (seen_by c) 10415 1401 own_facts.terminal_group u

    terminal_kept : used_part c in_terminal (first_kids 10415 1401 k') ≡ used_part c in_terminal (first_kids 10415 1401 k)
    unfolding below key_of
    terminal_kept = kids_kept c top_level t t' e 10415 1401 terminal-used

    imei-inside : data_found (find imei (inside (find terminal_information l'))) ≡ data_found (find imei (inside (find terminal_information l)))
    unfolding key_of
    imei-inside =
        sym (seen_as _ _ imei-seen (find imei (inside (find terminal_information l'))))
        ∙ first_kept c in_terminal (terminal_tree t) (terminal_tree t') terminal_kept 10415 1402 (imei-used 10415 1402 refl) (leaf-not-group _ own_facts.imei_leaf) (leaf-not-unknown _ own_facts.imei_leaf)
        ∙ seen_as _ _ imei-seen (find imei (inside (find terminal_information l)))

    second-inside : is_there (first_second (key_number imei ∷ []) [] (inside (find terminal_information l'))) ≡ is_there (first_second (key_number imei ∷ []) [] (inside (find terminal_information l)))
    unfolding member
    second-inside =
        second_kept c in_terminal (terminal_tree t) (terminal_tree t') terminal_kept (key_number imei ∷ []) (unknown_outside (key_number imei ∷ []) own_facts.imei_known)
        (λ v n q. imei-used v n (or_only (is_key imei v n) q))

  pub imei_kept : data_found (find imei (terminal_of c l')) ≡ data_found (find imei (terminal_of c l))
  imei_kept = go (has terminal_information (used_in (command_of c))) imei-inside
    where
      found : Bool → Avps → Option (List ℕ)
      found b x = data_found (find imei (cond b (inside (find terminal_information x)) whole))

      go : (b : Bool) → (b ≡ true → found true l' ≡ found true l) → found b l' ≡ found b l
      go true h = h refl
      go false h = refl

  pub second-imei_kept : is_there (first_second (key_number imei ∷ []) [] (terminal_of c l')) ≡ is_there (first_second (key_number imei ∷ []) [] (terminal_of c l))
  second-imei_kept = go (has terminal_information (used_in (command_of c))) second-inside
    where
      there : Bool → Avps → Bool
      there b x = is_there (first_second (key_number imei ∷ []) [] (cond b (inside (find terminal_information x)) whole))

      go : (b : Bool) → (b ≡ true → there true l' ≡ there true l) → there b l' ≡ there b l
      go true h = h refl
      go false h = refl

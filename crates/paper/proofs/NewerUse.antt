-- The part of a tree of known AVPs that a command uses: what is looked for there is found as in the tree, so that two lists of AVPs which agree in it are
-- read alike. Assumes nothing.
use mathlib.Core.Path.{◌≡◌, refl, sym, ap, ◌∙◌}
use mathlib.Core.Logic.{◌≢◌}
use mathlib.Core.Bool.{true, false, cond}
use mathlib.Core.List.{List, [], ◌∷◌, ◌++◌}
use Prim.Native.Nat.{ℕ}
use lib.Dec.{eqb}
use borrow.Author.Tests.{eqb-true}
use Rattle.std.proofs.lemmas.Bool.{and_parts}
use Rattle.dictionary.specs.Rows.{key_of, kind_of}
use Rattle.dictionary.specs.declared.Kind.TheVariants.{Group, Unknown}
use Rattle.paper.specs.Reader.{Avps, Known, end, leaf, node, beside}
use Rattle.paper.specs.Find.{first_of, member, first_second}
use Rattle.paper.specs.Request.{is_there}
use Rattle.paper.specs.Answer.{item, each_of}
use Rattle.paper.specs.Newer.{Level, below, uses, seen_by}
use Rattle.paper.proofs.AvpsLaws.{cond_cases}
use Rattle.paper.proofs.TestLaws.{cond_map, cond_same, cond_where}
use Rattle.paper.proofs.NewerTree.{Tree, keyed, first_leaf, first_kids, second_in, each_leaf, seen_found, known-first, known-each, known-second}

-- ---- the used part

module _ (command : ℕ) where
  unfoldable pub used_part : Level → Known → Known
  used_part level end = end
  used_part level (leaf v c x next) = cond (uses command level v c) (leaf v c x (used_part level next)) (used_part level next)
  used_part level (node v c kids next) = cond (uses command level v c) (node v c (used_part (below level v c) kids) (used_part level next)) (used_part level next)

  pub used-beside : (level : Level) (a b : Known) → used_part level (beside a b) ≡ beside (used_part level a) (used_part level b)
  unfolding used_part beside
  used-beside level end b = refl
  used-beside level (leaf v c x next) b =
      let h = used-beside level next b in
      cond_map (λ (k : Known). beside k (used_part level b)) (uses command level v c) (ap (leaf v c x) h) h
  used-beside level (node v c kids next) b =
      let h = used-beside level next b in
      cond_map (λ (k : Known). beside k (used_part level b)) (uses command level v c) (ap (node v c (used_part (below level v c) kids)) h) h

  -- ---- what is looked for in it

  module _ (level : Level) (vendor code : ℕ) (h : uses command level vendor code ≡ true) where
    key-used : (v c : ℕ) → keyed vendor code v c ≡ true → uses command level v c ≡ true
    unfolding keyed
    key-used v c e = rw (eqb-true v vendor (and_parts (eqb v vendor) _ e).0, eqb-true c code (and_parts (eqb v vendor) _ e).1) h

    pub first-used : (k : Known) → first_leaf vendor code (used_part level k) ≡ first_leaf vendor code k
    unfolding used_part first_leaf
    first-used end = refl
    first-used (leaf v c x next) =
        let e = first-used next in
        cond_where (first_leaf vendor code) (uses command level v c) (keyed vendor code v c) _ _ (key-used v c) (cond_same (keyed vendor code v c) (λ q. refl) e) e
    first-used (node v c kids next) =
        let e = first-used next in
        cond_cases (λ k. first_leaf vendor code k ≡ first_leaf vendor code next) (uses command level v c) (λ q. e) (λ q. e)

    pub each-used : (write : List ℕ → List ℕ) (k : Known) → each_leaf write vendor code (used_part level k) ≡ each_leaf write vendor code k
    unfolding used_part each_leaf
    each-used write end = refl
    each-used write (leaf v c x next) =
        let e = each-used write next in
        cond_where (each_leaf write vendor code) (uses command level v c) (keyed vendor code v c) _ _ (key-used v c) (cond_same (keyed vendor code v c) (λ q. ap (λ (s : List ℕ). write x ++ s) e) e) e
    each-used write (node v c kids next) =
        let e = each-used write next in
        cond_cases (λ k. each_leaf write vendor code k ≡ each_leaf write vendor code next) (uses command level v c) (λ q. e) (λ q. e)

    below_keyed : (v c : ℕ) → keyed vendor code v c ≡ true → below level v c ≡ below level vendor code
    unfolding keyed
    below_keyed v c e = rw (eqb-true v vendor (and_parts (eqb v vendor) _ e).0, eqb-true c code (and_parts (eqb v vendor) _ e).1)

    pub kids_used : (k : Known) → first_kids vendor code (used_part level k) ≡ used_part (below level vendor code) (first_kids vendor code k)
    unfolding used_part first_kids
    kids_used end = refl
    kids_used (leaf v c x next) =
        let e = kids_used next in
        cond_cases (λ k. first_kids vendor code k ≡ used_part (below level vendor code) (first_kids vendor code next)) (uses command level v c) (λ q. e) (λ q. e)
    kids_used (node v c kids next) =
        let e = kids_used next in
        cond_where (first_kids vendor code) (uses command level v c) (keyed vendor code v c) _ _ (key-used v c)
        (cond_same (keyed vendor code v c) (λ q. ap (λ (l : Level). used_part l kids) (below_keyed v c q)) e) e
        ∙ cond_map (used_part (below level vendor code)) (keyed vendor code v c) refl refl

  module _ (level : Level) (keys : List ℕ) (h : (v c : ℕ) → member (key_of v c) keys ≡ true → uses command level v c ≡ true) where
    pub second-used : (k : Known) (met : List ℕ) → second_in keys met (used_part level k) ≡ second_in keys met k
    unfolding used_part second_in
    second-used end met = refl
    second-used (leaf v c x next) met =
        let key = key_of v c in
        cond_where (second_in keys met) (uses command level v c) (member key keys) _ _ (h v c)
        (cond_same (member key keys) (λ q. cond_same (member key met) (λ r. refl) (second-used next (key ∷ met))) (second-used next met)) (second-used next met)
    second-used (node v c kids next) met =
        let key = key_of v c in
        cond_where (second_in keys met) (uses command level v c) (member key keys) _ _ (h v c)
        (cond_same (member key keys) (λ q. cond_same (member key met) (λ r. refl) (second-used next (key ∷ met))) (second-used next met)) (second-used next met)

-- ---- two lists of AVPs that agree in the used part

module _ (command : ℕ) (level : Level) {l l' : Avps} {k k' : Known} (t : Tree kind_of (seen_by command) l k) (t' : Tree kind_of (seen_by command) l' k')
    (e : used_part command level k' ≡ used_part command level k) where
  module _ (vendor code : ℕ) (h : uses command level vendor code ≡ true) where
    pub first_kept : kind_of vendor code ≢ Group → kind_of vendor code ≢ Unknown
        → seen_found (seen_by command vendor code) (first_of vendor code l') ≡ seen_found (seen_by command vendor code) (first_of vendor code l)
    first_kept g u =
        known-first kind_of (seen_by command) vendor code g u t' ∙ sym (first-used command level vendor code h k') ∙ ap (first_leaf vendor code) e
        ∙ first-used command level vendor code h k ∙ sym (known-first kind_of (seen_by command) vendor code g u t)

    pub each_kept : kind_of vendor code ≢ Group → kind_of vendor code ≢ Unknown → ((x : List ℕ) → seen_by command vendor code x ≡ x)
        → each_of (record { vendor = vendor; code = code }) l' ≡ each_of (record { vendor = vendor; code = code }) l
    each_kept g u all =
        let write = item (record { vendor = vendor; code = code }) in
        known-each kind_of (seen_by command) vendor code g u all t' ∙ sym (each-used command level vendor code h write k') ∙ ap (each_leaf write vendor code) e
        ∙ each-used command level vendor code h write k ∙ sym (known-each kind_of (seen_by command) vendor code g u all t)

    pub kids_kept : used_part command (below level vendor code) (first_kids vendor code k') ≡ used_part command (below level vendor code) (first_kids vendor code k)
    kids_kept = sym (kids_used command level vendor code h k') ∙ ap (first_kids vendor code) e ∙ kids_used command level vendor code h k

  pub second_kept : (keys : List ℕ) → ((v c : ℕ) → kind_of v c ≡ Unknown → member (key_of v c) keys ≡ false)
      → ((v c : ℕ) → member (key_of v c) keys ≡ true → uses command level v c ≡ true) → is_there (first_second keys [] l') ≡ is_there (first_second keys [] l)
  second_kept keys u h =
      known-second kind_of (seen_by command) keys u t' [] ∙ sym (second-used command level keys h k' []) ∙ ap (second_in keys []) e
      ∙ second-used command level keys h k [] ∙ sym (known-second kind_of (seen_by command) keys u t [])

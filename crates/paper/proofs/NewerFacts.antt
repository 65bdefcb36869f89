-- The three commands: which AVPs each looks for, what it sees of them, and what kinds the dictionary gives them, by computation.
-- Assumes nothing.
use mathlib.Core.Path.{◌≡◌, refl, sym, ◌∙◌}
use mathlib.Core.Bool.{Bool, true, false, ◌&&◌, ◌||◌, not, false≢true}
use mathlib.Core.Option.{Option, none, some}
use mathlib.Core.List.{List, [], ◌∷◌, map}
use Prim.Native.Nat.{ℕ}
use lib.Dec.{eqb}
use borrow.Author.Tests.{eqb-true, not-true}
use Rattle.std.proofs.lemmas.Bool.{and_parts}
use Rattle.dictionary.specs.Rows.{key_of, kind_of, kind_with, kind_in, rows}
use Rattle.dictionary.specs.declared.Kind.{Kind}
use Rattle.dictionary.specs.declared.Kind.TheVariants.{Group, Unknown}
use Rattle.paper.specs.Find.{member}
use Rattle.paper.specs.Profile.{Key, commands, command_in, command_of, ulr, pur, nor, session_id, user_name, origin_host, proxy_info, rat_type, visited_plmn_id, terminal_information, imei, ulr_flags, nor_flags, pur_flags}
use Rattle.paper.specs.Request.{has, used_in, required_in, key_number}
use Rattle.paper.specs.Newer.{top_level, uses, named_bits, of_bits, named_use, seen_by}
use Rattle.paper.proofs.CommandLaws.{Recognized, by-command}
use Rattle.paper.proofs.KindLaws.{known, leaf_kind}

-- ---- what each sees

-- the command looks for the key at the top level, and sees `see` of what it finds
pub record Sees (c : ℕ) (k : Key) (see : List ℕ → List ℕ) : Type 0 where
  pub looks : uses c top_level k.vendor k.code ≡ true
  pub kind : leaf_kind (kind_of k.vendor k.code) ≡ true
  pub all : (x : List ℕ) → seen_by c k.vendor k.code x ≡ see x

abbrev pub Whole : ℕ → Key → Type 0
Whole c k = Sees c k (λ x. x)

-- one of the three flag words
abbrev pub is_word : Option (List ℕ) → Bool
is_word none = false
is_word (some bits) = true

abbrev pub is_flag_word : Key → Bool
is_flag_word k = is_word (named_bits k.vendor k.code)

not_word : (o : Option (List ℕ)) (x : List ℕ) → is_word o ≡ false → of_bits o x ≡ x
not_word none x e = refl
not_word (some bits) x e = absurd (false≢true (sym e))

pub named-whole : (k : Key) (x : List ℕ) → is_flag_word k ≡ false → named_use k.vendor k.code x ≡ x
unfolding named_use
named-whole k x e = not_word (named_bits k.vendor k.code) x e

-- the command looks for the key and sees all that is named of it
unfoldable pub is_seen : ℕ → Key → Bool
is_seen c k = uses c top_level k.vendor k.code && leaf_kind (kind_of k.vendor k.code)

pub sees_named : (c : ℕ) (k : Key) → is_seen c k ≡ true → Sees c k (named_use k.vendor k.code)
unfolding is_seen seen_by
sees_named c k e =
    let u = (and_parts (uses c top_level k.vendor k.code) _ e).0 in
    record { looks = u; kind = (and_parts (uses c top_level k.vendor k.code) _ e).1; all = λ x. rw u }

-- all of it, where it is no flag word
unfoldable pub is_whole : ℕ → Key → Bool
is_whole c k = is_seen c k && not (is_flag_word k)

pub sees_whole : (c : ℕ) (k : Key) → is_whole c k ≡ true → Whole c k
unfolding is_whole
sees_whole c k e =
    let h = sees_named c k (and_parts (is_seen c k) _ e).0 in
    record { looks = h.looks; kind = h.kind; all = λ x. h.all x ∙ named-whole k x (not-true (is_flag_word k) (and_parts (is_seen c k) _ e).1) }

-- ---- the facts of the three commands, computed

unfoldable pub all_seen : ℕ → List Key → Bool
all_seen c [] = true
all_seen c (k ∷ ks) = is_seen c k && all_seen c ks

unfoldable pub all_known : List ℕ → Bool
all_known [] = true
all_known (k ∷ ks) = known (kind_with k rows) && all_known ks

-- of each of the three
pub record Facts (c : ℕ) : Type 0 where
  pub session : is_whole c session_id ≡ true
  pub user : is_whole c user_name ≡ true
  pub host : is_whole c origin_host ≡ true
  pub proxy : is_whole c proxy_info ≡ true
  pub plmn : not (has visited_plmn_id (used_in (command_of c))) || is_whole c visited_plmn_id ≡ true
  pub terminal : not (has terminal_information (used_in (command_of c))) || uses c top_level 10415 1401 ≡ true
  pub required : all_seen c (required_in (command_of c)) ≡ true
  pub keys : all_known (map key_number (used_in (command_of c))) ≡ true

pub facts : {c : ℕ} → Recognized c → Facts c
unfolding all_seen all_known has required_in is_whole is_seen named_bits uses member command_of commands command_in used_in key_of kind_of kind_in kind_with rows
facts r =
    by-command Facts
    (record { session = refl; user = refl; host = refl; proxy = refl; plmn = refl; terminal = refl; required = refl; keys = refl })
    (record { session = refl; user = refl; host = refl; proxy = refl; plmn = refl; terminal = refl; required = refl; keys = refl })
    (record { session = refl; user = refl; host = refl; proxy = refl; plmn = refl; terminal = refl; required = refl; keys = refl }) r

-- the AVPs of one command, and the two of the dictionary that stand one in the other
pub record OwnFacts : Type 0 where
  pub rat : is_whole ulr rat_type ≡ true
  pub plmn : is_whole ulr visited_plmn_id ≡ true
  pub ulr_word : is_seen ulr ulr_flags ≡ true
  pub pur_word : is_seen pur pur_flags ≡ true
  pub nor_word : is_seen nor nor_flags ≡ true
  pub imei_leaf : leaf_kind (kind_of 10415 1402) ≡ true
  pub imei_known : all_known (key_number imei ∷ []) ≡ true
  pub terminal_group : kind_of 10415 1401 ≡ Group

pub own_facts : OwnFacts
unfolding all_known is_whole is_seen named_bits uses member command_of commands command_in used_in key_of kind_of kind_in kind_with rows
own_facts =
    record {
      rat = refl;
      plmn = refl;
      ulr_word = refl;
      pur_word = refl;
      nor_word = refl;
      imei_leaf = refl;
      imei_known = refl;
      terminal_group = refl;
    }

-- ---- keys of a set of known ones

known-not : (k : Kind) → k ≡ Unknown → known k ≡ false
known-not k e = rw e

not_among : (k x : ℕ) (xs : List ℕ) → known (kind_with k rows) ≡ false → known (kind_with x rows) ≡ true → member k xs ≡ false → member k (x ∷ xs) ≡ false
unfolding member
not_among k x xs u h e = go (eqb k x) refl
  where
    go : (b : Bool) → eqb k x ≡ b → b || member k xs ≡ false
    go true q = absurd (false≢true (sym u ∙ rw (eqb-true k x q) h))
    go false q = e

unknown-not_among : (xs : List ℕ) → all_known xs ≡ true → (k : ℕ) → known (kind_with k rows) ≡ false → member k xs ≡ false
unfolding all_known member
unknown-not_among [] h k u = refl
unknown-not_among (x ∷ xs) h k u =
    let a = (and_parts (known (kind_with x rows)) (all_known xs) h).0 in
    let r = (and_parts (known (kind_with x rows)) (all_known xs) h).1 in
    not_among k x xs u a (unknown-not_among xs r k u)

-- an unknown AVP has no key of the set
pub unknown_outside : (xs : List ℕ) → all_known xs ≡ true → (v c : ℕ) → kind_of v c ≡ Unknown → member (key_of v c) xs ≡ false
unfolding kind_of kind_in
unknown_outside xs h v c e = unknown-not_among xs h (key_of v c) (known-not (kind_of v c) e)

-- Two requests that agree in header and used AVPs: the tests of 01 come to the same, and so do the command and the answer.
-- Assumes nothing.
use mathlib.Core.Path.{◌≡◌, refl, sym, ap, ◌∙◌}
use mathlib.Core.Bool.{Bool, true, false, cond, false≢true}
use mathlib.Core.Option.{Option, none, some}
use mathlib.Core.List.{List, [], ◌∷◌, map}
use Prim.Native.Nat.{ℕ, ◌+◌, ◌%◌, ◌<◌}
use native.Mathlib.Omega.{arith}
use lib.Dec.{eqb}
use lib.ListN.{length, drop, get_or, length-drop}
use borrow.Author.Tests.{eq-eqb}
use Rattle.std.proofs.lemmas.Bool.{and_from}
use Rattle.wire.proofs.ListLaws.{get_d_part}
use Rattle.wire.proofs.NumberLaws.{num_at_agree}
use Rattle.dictionary.specs.Rows.{kind_of}
use Rattle.dictionary.specs.declared.Kind.{Kind}
use Rattle.paper.specs.Avp.{Avp, length_of}
use Rattle.paper.specs.Reader.{Placed, placed, stump, Faulty, Known, ◌then◌, each, view_avp, view, most_groups}
use Rattle.paper.specs.Find.{first_second}
use Rattle.paper.specs.Widened.{Clear, shown_of}
use Rattle.paper.specs.Layout.{message_header}
use Rattle.paper.specs.Profile.{Key, command_of, session_id, user_name, origin_host, proxy_info, visited_plmn_id, imei}
use Rattle.paper.specs.Request.{message_length, command_code, application_of, avps_of, view_of, find, is_there, has, used_in, terminal, imei_of, key_number, refuse, version_test, length_test, error_test, of_fault, fault_test, application_test, command_test, of_found, unsupported_test, earlier, repeated, repeated_test, absent_test, value_test, imsi_digits, is_name, three_bytes, imei_digits, if_used, values_test, refusal}
use Rattle.paper.specs.Answer.{each_of}
use Rattle.paper.specs.Newer.{top_level, seen_by, SameHeader, Fits}
use Rattle.paper.proofs.OptionLaws.{earlier-cases}
use Rattle.paper.proofs.AvpLaws.{padded-fours, length-after}
use Rattle.paper.proofs.AvpsLaws.{avps_induction}
use Rattle.paper.proofs.ViewLaws.{or_else_none}
use Rattle.paper.proofs.PlaceLaws.{shown_none}
use Rattle.paper.proofs.Narrow.{faulty-is}
use Rattle.paper.proofs.TestLaws.{or_implies}
use Rattle.paper.proofs.PassesLaws.{Passes, untested}
use Rattle.paper.proofs.CommandLaws.{Recognized, recognized}
use Rattle.paper.proofs.NewerTree.{Tree, view_tree, view-refused}
use Rattle.paper.proofs.NewerUse.{used_part}
use Rattle.paper.proofs.NewerFacts.{facts}
use Rattle.paper.proofs.NewerReads.{data_found, terminal_of, whole_kept, proxies_kept, required_kept, second-used_kept, imei_kept, second-imei_kept}

-- ---- a request that no Result-Code refuses

no_fault : (f : Option Faulty) → of_fault f ≡ none → f ≡ none
unfolding of_fault
no_fault none e = refl
no_fault (some f) e = let z : ◌≡◌ {A = ℕ} 0 1 = cc in absurd (omega arith)

not_found : (code : ℕ) (o : Option Placed) → of_found code o ≡ none → o ≡ none
unfolding of_found
not_found code none e = refl
not_found code (some p) e = let z : ◌≡◌ {A = ℕ} 0 1 = cc in absurd (omega arith)

neither : (o q : Option Placed) → earlier o q ≡ none → (o ≡ none) × (q ≡ none)
unfolding earlier
neither none q e = (refl, e)
neither (some p) none e = let z : ◌≡◌ {A = ℕ} 0 1 = cc in absurd (omega arith)
neither (some p) (some q) e =
    earlier-cases (λ o. o ≡ none → (some p ≡ none) × (some q ≡ none)) p q (λ h f. let z : ◌≡◌ {A = ℕ} 0 1 = cc in absurd (omega arith))
    (λ h f. let z : ◌≡◌ {A = ℕ} 0 1 = cc in absurd (omega arith)) e

there_none : (o : Option Placed) → is_there o ≡ false → o ≡ none
there_none none e = refl
there_none (some p) e = absurd (false≢true (sym e))

-- the number of bytes of a stretch without a fault is a multiple of 4
pub view-fours : (kind : ℕ → ℕ → Kind) (seen : ℕ → ℕ → List ℕ → List ℕ) (left at : ℕ) (s : List ℕ) → (view kind seen left at s).fault ≡ none → length s % 4 ≡ 0
unfolding view each ◌then◌
view-fours kind seen left =
    avps_induction (λ at s l. (each (view_avp kind seen left) l).fault ≡ none → length s % 4 ≡ 0) (λ at e. refl)
    (λ at s f ih e.
    let h = ih (or_else_none (view_avp kind seen left (placed at s)).fault _ e).1 in
    let l = length-after s f in
    let p = padded-fours (length_of s) in
    omega arith)
    (λ at s h f e. absurd (faulty-is 5014 (stump at s) e))

-- nothing to refuse in its AVPs
pub passes-clear : (m : List ℕ) → Passes m → Clear (view_of m)
unfolding fault_test unsupported_test
passes-clear m p = record { fault = no_fault _ p.fault; unsupported = not_found 5001 _ p.unsupported }

-- whatever the command sees of them
pub clear-seen : (c : ℕ) (m : List ℕ) → Clear (view_of m) → Clear (view kind_of (seen_by c) most_groups message_header (drop message_header m))
unfolding view_of
clear-seen c m q =
    let r = view-refused kind_of (seen_by c) (λ vendor code x. x) most_groups message_header (drop message_header m) in
    record { fault = r.fault ∙ q.fault; unsupported = r.unsupported ∙ q.unsupported }

-- ---- requests that agree

-- the known AVPs of a request, each with what the command sees of it
unfoldable pub known_of : ℕ → List ℕ → Known
known_of c m = (view kind_of (seen_by c) most_groups message_header (drop message_header m)).known

-- `n` has the header of `m`, a length field that is right, no fault, and the AVPs that the command uses as `m` has them; `a` is its first unknown AVP with M
pub record Like (m n : List ℕ) (a : Option Avp) : Type 0 where
  pub header : SameHeader m n
  pub fits : Fits n
  pub fault : (view_of n).fault ≡ none
  pub unsupported : shown_of (view_of n).unsupported ≡ a
  pub tree : used_part (command_code m) top_level (known_of (command_code m) n) ≡ used_part (command_code m) top_level (known_of (command_code m) m)

-- the bytes from command to identifiers
header_byte : (m n : List ℕ) → SameHeader m n → (i : ℕ) → i < 15 → get_or n (5 + i) 0 ≡ get_or m (5 + i) 0
header_byte m n h i l = sym (get_d_part 5 15 n i l) ∙ ap (λ (s : List ℕ). get_or s i 0) h.rest ∙ get_d_part 5 15 m i l

pub command_kept : (m n : List ℕ) → SameHeader m n → command_code n ≡ command_code m
command_kept m n h = num_at_agree 3 5 5 n m (λ i l. header_byte m n h i (omega arith))

application_kept : (m n : List ℕ) → SameHeader m n → application_of n ≡ application_of m
application_kept m n h = num_at_agree 4 8 8 n m (λ i l. rw (header-place i) (header_byte m n h (3 + i) (omega arith)))
  where
    header-place : (i : ℕ) → 8 + i ≡ 5 + (3 + i)
    header-place i = omega arith

abbrev pub Treed : ℕ → List ℕ → Type 0
Treed c m = Tree kind_of (seen_by c) (avps_of m) (known_of c m)

pub tree_of : (c : ℕ) (m : List ℕ) → (view_of m).fault ≡ none → Treed c m
unfolding view_of avps_of known_of
tree_of c m e = view_tree kind_of (seen_by c) most_groups message_header (drop message_header m) ((view-refused kind_of (seen_by c) (λ vendor code x. x) most_groups message_header (drop message_header m)).fault ∙ e)

module _ {m n : List ℕ} {a : Option Avp} (p : Passes m) (k : Like m n a) where
  pub of_command : Recognized (command_code m)
  unfolding command_test
  of_command = recognized (command_code m) (untested _ _ p.command)

  -- ---- the header's tests

  version-passed : version_test n ≡ none
  unfolding version_test
  version-passed = rw k.header.version p.version

  size-passed : length_test n ≡ none
  unfolding length_test view_of
  size-passed =
      let h = view-fours kind_of _ most_groups message_header (drop message_header n) k.fault in
      let l = length-drop message_header n in
      let b = k.fits.least in
      rw (and_from (eqb (message_length n) (length n)) (eqb (length n % 4) 0) (eq-eqb (message_length n) (length n) k.fits.mended) (eq-eqb (length n % 4) 0 (omega arith)))

  error-passed : error_test n ≡ none
  unfolding error_test
  error-passed = rw k.header.error p.error

  fault-passed : fault_test n ≡ none
  unfolding fault_test of_fault
  fault-passed = rw k.fault

  application-passed : application_test n ≡ none
  unfolding application_test
  application-passed = rw (application_kept m n k.header) p.application

  command-passed : command_test n ≡ none
  unfolding command_test
  command-passed = rw (command_kept m n k.header) p.command

  -- ---- the AVPs

  pub of_first : Treed (command_code m) m
  of_first = tree_of (command_code m) m (passes-clear m p).fault

  pub of_second : Treed (command_code m) n
  of_second = tree_of (command_code m) n k.fault

  repeated-passed : repeated_test n ≡ none
  unfolding repeated_test repeated terminal earlier of_found
  repeated-passed =
      let c = command_code m in
      let q = neither (first_second (map key_number (used_in (command_of c))) [] (avps_of m)) (first_second (key_number imei ∷ []) [] (terminal_of c (avps_of m))) (not_found 5009 (repeated m) p.repeated) in
      let a = second-used_kept of_command of_first of_second k.tree ∙ ap is_there q.0 in
      let b = second-imei_kept of_command of_first of_second k.tree ∙ ap is_there q.1 in
      let x = first_second (map key_number (used_in (command_of c))) [] (avps_of n) in
      let y = first_second (key_number imei ∷ []) [] (terminal_of c (avps_of n)) in
      rw (command_kept m n k.header, there_none x a, there_none y b)

  absent-passed : absent_test n ≡ none
  unfolding absent_test
  absent-passed = rw (command_kept m n k.header) (required_kept of_command of_first of_second k.tree ∙ p.absent)

  -- ---- the values

  pub session_kept : data_found (find session_id (avps_of n)) ≡ data_found (find session_id (avps_of m))
  session_kept = whole_kept of_command of_first of_second k.tree session_id (facts of_command).session

  pub user_kept : data_found (find user_name (avps_of n)) ≡ data_found (find user_name (avps_of m))
  user_kept = whole_kept of_command of_first of_second k.tree user_name (facts of_command).user

  pub host_kept : data_found (find origin_host (avps_of n)) ≡ data_found (find origin_host (avps_of m))
  host_kept = whole_kept of_command of_first of_second k.tree origin_host (facts of_command).host

  pub imei-same : data_found (imei_of n) ≡ data_found (imei_of m)
  unfolding terminal
  imei-same = rw (command_kept m n k.header) (imei_kept of_command of_first of_second k.tree)

  pub proxies_same : each_of proxy_info (avps_of n) ≡ each_of proxy_info (avps_of m)
  proxies_same = proxies_kept of_command of_first of_second k.tree

  value_kept : (right : List ℕ → Bool) (o o' : Option Placed) → data_found o' ≡ data_found o → value_test right o ≡ none → value_test right o' ≡ none
  unfolding value_test
  value_kept right none none e t = refl
  value_kept right none (some q) e t = let z : ◌≡◌ {A = ℕ} 0 1 = cc in absurd (omega arith)
  value_kept right (some q) none e t = let z : ◌≡◌ {A = ℕ} 0 1 = cc in absurd (omega arith)
  value_kept right (some q) (some r) e t =
      let b : r.avp.body ≡ q.avp.body = cc in
      let h = untested (right q.avp.body) _ t in
      rw (b, h)

  -- of an AVP that is looked for where the command uses it
  if_used_lem : (key : Key) → (has key (used_in (command_of (command_code m))) ≡ true → data_found (find key (avps_of n)) ≡ data_found (find key (avps_of m)))
      → data_found (if_used key n) ≡ data_found (if_used key m)
  if_used_lem key h = rw (command_kept m n k.header) (go (has key (used_in (command_of (command_code m)))) h)
    where
      go : (b : Bool) → (b ≡ true → data_found (find key (avps_of n)) ≡ data_found (find key (avps_of m))) → data_found (cond b (find key (avps_of n)) none) ≡ data_found (cond b (find key (avps_of m)) none)
      go true f = f refl
      go false f = refl

  plmn_kept : has visited_plmn_id (used_in (command_of (command_code m))) ≡ true → data_found (find visited_plmn_id (avps_of n)) ≡ data_found (find visited_plmn_id (avps_of m))
  plmn_kept h = whole_kept of_command of_first of_second k.tree visited_plmn_id (or_implies _ _ (facts of_command).plmn h)

  values_passed : values_test n ≡ none
  unfolding values_test
  values_passed =
      let a = or_else_none (value_test imsi_digits (if_used user_name m)) _ p.values in
      let b = or_else_none (value_test is_name (if_used origin_host m)) _ a.1 in
      let c = or_else_none (value_test three_bytes (if_used visited_plmn_id m)) _ b.1 in
      let d = or_else_none (value_test imei_digits (imei_of m)) none c.1 in
      rw (
        value_kept imsi_digits (if_used user_name m) (if_used user_name n) (if_used_lem user_name (λ h. user_kept)) a.0,
        value_kept is_name (if_used origin_host m) (if_used origin_host n) (if_used_lem origin_host (λ h. host_kept)) b.0,
        value_kept three_bytes (if_used visited_plmn_id m) (if_used visited_plmn_id n) (if_used_lem visited_plmn_id plmn_kept) c.0,
        value_kept imei_digits (imei_of m) (imei_of n) imei-same d.0,
      )

  -- ---- the refusal of the second

  pub unsupported-found : (x : Avp) → a ≡ some x → unsupported_test n ≡ refuse 5001 (some x)
  unfolding unsupported_test of_found
  unsupported-found x e = go (view_of n).unsupported (k.unsupported ∙ e)
    where
      go : (o : Option Placed) → shown_of o ≡ some x → of_found 5001 o ≡ refuse 5001 (some x)
      go none q = let z : ◌≡◌ {A = ℕ} 0 1 = cc in absurd (omega arith)
      go (some r) q = let b : r.avp ≡ x = cc in rw b

  pub refused-second : (x : Avp) → a ≡ some x → refusal n ≡ refuse 5001 (some x)
  unfolding refusal
  refused-second x e = rw (version-passed, size-passed, error-passed, fault-passed, application-passed, command-passed, unsupported-found x e)

  pub passes-second : a ≡ none → Passes n
  unfolding unsupported_test of_found
  passes-second e =
      record {
        version = version-passed;
        size = size-passed;
        error = error-passed;
        fault = fault-passed;
        application = application-passed;
        command = command-passed;
        unsupported = rw (shown_none (view_of n).unsupported (k.unsupported ∙ e));
        repeated = repeated-passed;
        absent = absent-passed;
        values = values_passed;
      }

-- A node that is registered, cancelled or left, and the IMEI, as a promise reads them: what ULR and NOR have in common.
-- Assumes nothing.
use mathlib.Core.Path.{◌≡◌, refl, sym, ap, ◌∙◌}
use mathlib.Core.Logic.{◌≢◌}
use mathlib.Core.Bool.{Bool, true, false, cond, ◌||◌, not, false≢true}
use mathlib.Core.Option.{Option, none, some}
use mathlib.Core.List.{List, [], ◌∷◌}
use Prim.Native.Nat.{ℕ, ◌+◌, ◌<◌}
use native.Mathlib.Omega.{arith}
use lib.Dec.{ltb}
use lib.ListN.{length, get_or}
use borrow.Author.Tests.{ltb-false}
use Rattle.std.proofs.lemmas.Bool.{and_parts}
use Rattle.wire.specs.Put.{part}
use Rattle.paper.specs.Layout.{record_size, purged_at, mme_at, sgsn_at}
use Rattle.paper.specs.Reader.{Placed}
use Rattle.paper.specs.Table.{record_right, record_of, count_of, valid, purged_right, two_bits, bit_at, Slot, name_of}
use Rattle.paper.specs.Request.{imei_of}
use Rattle.paper.specs.Reader.{whole}
use Rattle.paper.specs.Profile.{terminal_information, imei, commands, command_in, command_of, ulr, nor}
use Rattle.paper.specs.Request.{command_code, avps_of, find, inside, has, used_in, terminal}
use Rattle.paper.specs.Procedures.{is_ulr, is_nor, Entry, Done, registered, clear, with_imei, cancelled, cancel_list, carried_out}
use Rattle.paper.specs.Outcome.{Lent}
use Rattle.paper.specs.Read.{before, after, purged_in, imei_in, listing, listed_by}
use borrow.Author.Tests.{eqb-true}
use Rattle.paper.specs.Promises.{imei_asked, Cleared, Kept, Imei}
use Rattle.paper.proofs.FieldLaws.{Node, the_mme, the_sgsn, right_parts, imei-size}
use Rattle.paper.proofs.EntryLaws.{EachOf}
use Rattle.paper.proofs.ProcedureLaws as Laws
use Rattle.paper.proofs.ProcedureLaws.{imei-sizes}
use Rattle.paper.proofs.PromiseFields.{Other, sgsn_of_mme, mme_of_sgsn, other-node, Registered, node-table, imei-table}
use Rattle.paper.proofs.PromiseEntries.{Readable, unregistered_unnamed, listed-other, listed-sender, listed_none}
use Rattle.paper.proofs.PromiseSuccess.{Success, before-is, after_is, listed-is}
use Rattle.paper.proofs.TestLaws.{or_implies}

-- ---- nodes

pub the_other_way : {own other : Slot} → Other own other → Other other own
the_other_way sgsn_of_mme = mme_of_sgsn
the_other_way mme_of_sgsn = sgsn_of_mme

pub kept_then : {slot : Slot} {r r₁ r₂ : List ℕ} → Kept slot r r₁ → Kept slot r₁ r₂ → Kept slot r r₂
kept_then p q = record { name = q.name ∙ p.name; purged = q.purged ∙ p.purged }

pub kept_same : {slot : Slot} {r : List ℕ} → Kept slot r r
kept_same = record { name = refl; purged = refl }

pub cleared_then : {slot : Slot} {r r' : List ℕ} → Cleared slot r → Kept slot r r' → Cleared slot r'
cleared_then p q = record { name = q.name ∙ p.name; purged = q.purged ∙ p.purged }

-- "a purge bit needs a name"
purged-registered : (slot : Slot) (r : List ℕ) → Node slot → record_right r ≡ true → purged_in slot r ≡ true → registered slot r ≡ true
unfolding purged_right
purged-registered slot r the_mme right p =
    let both = (and_parts (two_bits purged_at r) _ (right_parts r right).purged).1 in
    or_implies (bit_at purged_at 0 r) (ltb 0 (get_or r mme_at 0)) (and_parts (not (bit_at purged_at 0 r) || ltb 0 (get_or r mme_at 0)) _ both).0 p
purged-registered slot r the_sgsn right p =
    let both = (and_parts (two_bits purged_at r) _ (right_parts r right).purged).1 in
    or_implies (bit_at purged_at 1 r) (ltb 0 (get_or r sgsn_at 0)) (and_parts (not (bit_at purged_at 0 r) || ltb 0 (get_or r mme_at 0)) _ both).1 p

module _ (slot : Slot) (r : List ℕ) (node : Node slot) (long : length r ≡ record_size) (right : record_right r ≡ true) where
  pub purged-named : purged_in slot r ≡ true → name_of slot r ≢ []
  purged-named p e = false≢true (sym (unregistered_unnamed slot r [] node long right e) ∙ purged-registered slot r node right p)

  -- a node that is not registered has neither
  unregistered_cleared : registered slot r ≡ false → Cleared slot r
  unfolding name_of
  unregistered_cleared e =
      let k = ltb-false 0 (get_or r slot.at 0) e in
      let z : get_or r slot.at 0 ≡ 0 = omega arith in
      record { name = ap (λ (n : ℕ). part (slot.at + 1) n r) z; purged = go (purged_in slot r) refl }
    where
      go : (b : Bool) → purged_in slot r ≡ b → b ≡ false
      go true p = absurd (false≢true (sym e ∙ purged-registered slot r node right p))
      go false p = refl

-- ---- a node that is cancelled

pub record Cancels (own other : Slot) (type : Option ℕ) (r r' : List ℕ) : Type 0 where
  pub own_kept : Kept own r r'
  pub imei-same : imei_in r' ≡ imei_in r
  pub clears : (k : ℕ) → type ≡ some k → Cleared other r'
  pub keeps : type ≡ none → Kept other r r'

module _ (i : ℕ) (t : List ℕ) (e : valid t ≡ true) (h : i < count_of t) {own other : Slot} (o : Other own other) where
  -- `r` is the record as it was, with the other node as it is in the table
  pub cancels : (type : Option ℕ) (r : List ℕ) → length r ≡ record_size → record_right r ≡ true → Kept other r (record_of t i)
      → Cancels own other type (record_of t i) (record_of (cancelled other type r i t) i)
  unfolding cancelled
  cancels none r long right k = record { own_kept = kept_same; imei-same = refl; clears = λ n q. let z : ◌≡◌ {A = ℕ} 0 1 = cc in absurd (omega arith); keeps = λ q. kept_same }
  cancels (some type) r long right k = go (registered other r) refl
    where
      cleared : Registered other own [] (record_of t i) (record_of (clear other i t) i)
      cleared = node-table i t e h (the_other_way o) [] (omega arith)

      go : (b : Bool) → registered other r ≡ b → Cancels own other (some type) (record_of t i) (record_of (cond b (clear other i t) t) i)
      go true q =
          record {
            own_kept = cleared.other_kept;
            imei-same = cleared.imei-same;
            clears = λ n z. record { name = cleared.named; purged = cleared.unpurged };
            keeps = λ z. let y : ◌≡◌ {A = ℕ} 0 1 = cc in absurd (omega arith);
          }
      go false q =
          record {
            own_kept = kept_same;
            imei-same = refl;
            clears = λ n z. cleared_then (unregistered_cleared other r (other-node o) long right q) k;
            keeps = λ z. kept_same;
          }

-- ---- the IMEI

pub record Stores (m r r' : List ℕ) : Type 0 where
  pub nodes : (slot : Slot) → Node slot → Kept slot r r'
  pub imei : Imei (imei_of m) r r'

module _ (m : List ℕ) (ok : Laws.Accepted m) (i : ℕ) where
  pub stores : (d : Done) → valid d.table ≡ true → i < count_of d.table → Stores m (record_of d.table i) (record_of (with_imei (imei_of m) i d).table i)
  unfolding with_imei
  stores d e h = go (imei_of m) refl
    where
      go : (p : Option Placed) → imei_of m ≡ p → Stores m (record_of d.table i) (record_of (with_imei p i d).table i)
      go none q =
          record {
            nodes = λ slot node. kept_same;
            imei = record { stored = λ p z. let y : ◌≡◌ {A = ℕ} 0 1 = cc in absurd (omega arith); absent = λ z. refl };
          }
      go (some x) q =
          let few = imei-size x.avp.body (imei-sizes x.avp.body (ok.imei-right x q)) in
          let s = imei-table i d.table e h x.avp.body few in
          record {
            nodes = s.nodes;
            imei = record {
              stored = λ p z. let y : x ≡ p = cc in s.held ∙ ap (λ (b : Placed). b.avp.body) y;
              absent = λ z. let y : ◌≡◌ {A = ℕ} 0 1 = cc in absurd (omega arith);
            };
          }

-- a command that uses Terminal-Information finds the request's IMEI
imei-asked : (m : List ℕ) (code : ℕ) → command_code m ≡ code → has terminal_information (used_in (command_of code)) ≡ true → imei_of m ≡ imei_asked m
unfolding terminal
imei-asked m code e h = ap (λ (b : Bool). find imei (cond b (inside (find terminal_information (avps_of m))) whole)) (ap (λ (n : ℕ). has terminal_information (used_in (command_of n))) e ∙ h)

pub ulr-imei : (m : List ℕ) → is_ulr m ≡ true → imei_of m ≡ imei_asked m
unfolding has used_in command_of command_in commands
ulr-imei m e = imei-asked m ulr (eqb-true (command_code m) ulr e) refl

pub nor-imei : (m : List ℕ) → is_nor m ≡ true → imei_of m ≡ imei_asked m
unfolding has used_in command_of command_in commands
nor-imei m e = imei-asked m nor (eqb-true (command_code m) nor e) refl

pub imei_from : {sent asked : Option Placed} {r r₁ r₂ : List ℕ} → imei_in r₁ ≡ imei_in r → sent ≡ asked → Imei sent r₁ r₂ → Imei asked r r₂
imei_from e a s = record { stored = λ p q. s.stored p (a ∙ q); absent = λ q. s.absent (a ∙ q) ∙ e }

-- ---- the list of a node that is cancelled

module _ (slot : Slot) (r sent : List ℕ) (node : Node slot) (long : length r ≡ record_size) (right : record_right r ≡ true) where
  pub cancel-sender : (type : Option ℕ) → name_of slot r ≡ sent → cancel_list slot type sent r ≡ []
  unfolding cancel_list
  cancel-sender none e = refl
  cancel-sender (some type) e = listed-sender slot r sent node long right type e

  pub cancel_none : (type : Option ℕ) → name_of slot r ≡ [] → cancel_list slot type sent r ≡ []
  unfolding cancel_list
  cancel_none none e = refl
  cancel_none (some type) e = listed_none slot r sent node long right type e

  pub cancel-other : (o : Option ℕ) (type : ℕ) → o ≡ some type → name_of slot r ≢ [] → name_of slot r ≢ sent → cancel_list slot o sent r ≡ listing slot type r ∷ []
  unfolding cancel_list
  cancel-other o type e named other = ap (λ (k : Option ℕ). cancel_list slot k sent r) e ∙ listed-other slot r sent node long right type named other

pub cancel-not : (slot : Slot) (sent r : List ℕ) (o : Option ℕ) → o ≡ none → cancel_list slot o sent r ≡ []
unfolding cancel_list
cancel-not slot sent r o e = ap (λ (k : Option ℕ). cancel_list slot k sent r) e

-- ---- the whole

-- an accepted request, by what it is carried out as
module _ (l : Lent) (s : Success l) (d : Done) (c : carried_out l.request s.place l.table ≡ d) (each : EachOf Readable d.entries) where
  pub shown_as : (P : List ℕ → List ℕ → List Entry → Type 0) → P (record_of l.table s.place) (record_of d.table s.place) d.entries → P (before l) (after l) (listed_by l)
  shown_as P p =
      let each' : EachOf Readable (carried_out l.request s.place l.table).entries = rw c each in
      rw (before-is l s, after_is l s, listed-is l s each', c) p

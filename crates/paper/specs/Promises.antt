-- Promise: 01's section "What an accepted request does", sentence by sentence. Each is said of the record of the request's IMSI before (`r`) and after
-- (`r'`) the call, of the entries `es` of the cancel buffer, and of the answer's AVPs; how a request is carried out is not mentioned. Assumes nothing.
use Rattle.std.specs.Prelude.{◌≡◌, ◌≢◌, Bool, true, false, ◌||◌, List, [], ◌∷◌, ◌++◌, ℕ, ◌<◌}
use Rattle.std.proofs.Math.Option.{Option, none, some}
use Rattle.paper.specs.Avp.{bit}
use Rattle.paper.specs.Reader.{Placed}
use Rattle.paper.specs.Profile.{key}
use Rattle.paper.specs.Table.{Slot, name_of}
use Rattle.paper.specs.Request.{find, inside, avps_of, value_of, number_of, is_there}
use Rattle.paper.specs.Procedures.{Entry}
use Rattle.paper.specs.Outcome.{Lent, outcome}
use Rattle.paper.specs.Read.{an_mme, an_sgsn, purged_in, imei_in, of_node, listing}
use Rattle.paper.specs.Refusals.{said, result}

-- the request is accepted: Result-Code 2001
abbrev pub Accepted : Lent → Type 0
Accepted l = said (outcome l) ≡ result 2001

-- ---- what a request holds

-- the sender: Origin-Host
abbrev pub sent_by : List ℕ → List ℕ
sent_by m = value_of (key 0 264) m

-- a bit of ULR-Flags, clause 7.3.7: 0 Single-Registration, 1 S6a/S6d-Indicator ("set means S6a"), 2 Skip-Subscriber-Data, 5 Initial-Attach
abbrev pub ulr_bit : ℕ → List ℕ → Bool
ulr_bit k m = bit k (number_of (key 10415 1405) m)

-- a bit of PUR-Flags, clause 7.3.149: 0 MME, 1 SGSN; and whether they are there
abbrev pub pur_bit : ℕ → List ℕ → Bool
pur_bit k m = bit k (number_of (key 10415 1635) m)

abbrev pub has_pur_flags : List ℕ → Bool
has_pur_flags m = is_there (find (key 10415 1635) (avps_of m))

-- a bit of NOR-Flags, clause 7.3.49: 0 Single-Registration
abbrev pub nor_bit : ℕ → List ℕ → Bool
nor_bit k m = bit k (number_of (key 10415 1443) m)

-- "IMEI directly in Terminal-Information"
abbrev pub imei_asked : List ℕ → Option Placed
imei_asked m = find (key 10415 1402) (inside (find (key 10415 1401) (avps_of m)))

-- ---- what becomes of a record

-- "name and purge bit are cleared"
pub record Cleared (slot : Slot) (r' : List ℕ) : Type 0 where
  pub name : name_of slot r' ≡ []
  pub purged : purged_in slot r' ≡ false

-- both are as they were
pub record Kept (slot : Slot) (r r' : List ℕ) : Type 0 where
  pub name : name_of slot r' ≡ name_of slot r
  pub purged : purged_in slot r' ≡ purged_in slot r

-- "IMEI, if there, is stored."
pub record Imei (sent : Option Placed) (r r' : List ℕ) : Type 0 where
  pub stored : (p : Placed) → sent ≡ some p → imei_in r' ≡ p.avp.body
  pub absent : sent ≡ none → imei_in r' ≡ imei_in r

-- ---- ULR

-- `own` is the node of the request's interface, `other` the other one. A name without bytes is none: "Length 0 means not registered".
-- `single`: Single-Registration is set and, on this interface, has an effect.
pub record Updates (own other : Slot) (type : ℕ) (single : Bool) (m r r' : List ℕ) (es : List Entry) : Type 0 where
  -- "a stored MME name that differs from Origin-Host is listed with Cancellation-Type 0"
  pub displaced : name_of own r ≢ [] → name_of own r ≢ sent_by m → of_node own es ≡ listing own type r ∷ []
  pub registers_again : name_of own r ≡ sent_by m → of_node own es ≡ []
  pub none_displaced : name_of own r ≡ [] → of_node own es ≡ []
  -- "the name becomes Origin-Host; its purge bit is cleared"
  pub name_stored : name_of own r' ≡ sent_by m
  pub bit_cleared : purged_in own r' ≡ false
  -- "Then, with a registered SGSN: Single-Registration lists it with type 1"
  pub single_lists : single ≡ true → name_of other r ≢ [] → name_of other r ≢ sent_by m → of_node other es ≡ listing other 1 r ∷ []
  -- "else Initial-Attach lists it with type 4"
  pub initial_lists : single ≡ false → ulr_bit 5 m ≡ true → name_of other r ≢ [] → name_of other r ≢ sent_by m → of_node other es ≡ listing other 4 r ∷ []
  -- "either way name and purge bit are cleared"
  pub either_clears : single || ulr_bit 5 m ≡ true → Cleared other r'
  pub neither_clears : single || ulr_bit 5 m ≡ false → Kept other r r'
  pub neither_lists : single || ulr_bit 5 m ≡ false → of_node other es ≡ []
  -- "A name equal to the sender's is never listed, though it may be cleared."
  pub sender_unlisted : name_of other r ≡ sent_by m → of_node other es ≡ []
  pub none_unlisted : name_of other r ≡ [] → of_node other es ≡ []
  -- "A purged node is listed like another.": no line above asks for a purge bit, and a purged node has a name
  pub purged_own : purged_in own r ≡ true → name_of own r ≢ []
  pub purged_other : purged_in other r ≡ true → name_of other r ≢ []
  -- "In a ULR the displaced node of the request's own interface comes first.", and no other entry is there
  pub order : es ≡ of_node own es ++ of_node other es
  pub stores_imei : Imei (imei_asked m) r r'

-- "ULR on S6a"
abbrev pub UpdatesOnS6a : List ℕ → List ℕ → List ℕ → List Entry → Type 0
UpdatesOnS6a m = Updates an_mme an_sgsn 0 (ulr_bit 0 m) m

-- "On S6d, for the SGSN: type 1, then Initial-Attach lists the MME with type 4 and clears it; Single-Registration has no effect."
abbrev pub UpdatesOnS6d : List ℕ → List ℕ → List ℕ → List Entry → Type 0
UpdatesOnS6d m = Updates an_sgsn an_mme 1 false m

-- the answer `a` to a ULR: "on success ULA-Flags 1, and Subscription-Data unless skipped", codes 1406 and 1400
pub record AnswersUlr (m a : List ℕ) : Type 0 where
  pub flags : number_of (key 10415 1406) a ≡ 1
  pub skipped : ulr_bit 2 m ≡ true → find (key 10415 1400) (avps_of a) ≡ none
  pub given : ulr_bit 2 m ≡ false → is_there (find (key 10415 1400) (avps_of a)) ≡ true

-- ---- PUR

-- the purge bit of a node, and its bit in PUA-Flags: "the purge bits this request sets, set before or not"
pub record Set (slot : Slot) (r' : List ℕ) (flags : ℕ) : Type 0 where
  pub purged : purged_in slot r' ≡ true
  pub shown : bit slot.purge_bit flags ≡ true

pub record Unset (slot : Slot) (r r' : List ℕ) (flags : ℕ) : Type 0 where
  pub purged : purged_in slot r' ≡ purged_in slot r
  pub shown : bit slot.purge_bit flags ≡ false

-- of each node; `flags` are the PUA-Flags (1442) of the answer
pub record Purges (slot : Slot) (m r r' : List ℕ) (flags : ℕ) : Type 0 where
  -- "without PUR-Flags each registered name equal to Origin-Host gets its purge bit"
  pub without_flags : has_pur_flags m ≡ false → name_of slot r ≡ sent_by m → Set slot r' flags
  -- "with PUR-Flags only where its bit is set too"
  pub with_flags : has_pur_flags m ≡ true → pur_bit slot.purge_bit m ≡ true → name_of slot r ≡ sent_by m → Set slot r' flags
  pub bit_not_set : has_pur_flags m ≡ true → pur_bit slot.purge_bit m ≡ false → Unset slot r r' flags
  pub no_match : name_of slot r ≢ sent_by m → Unset slot r r' flags
  pub name_kept : name_of slot r' ≡ name_of slot r

pub record PurgesUe (m r r' : List ℕ) (es : List Entry) (a : List ℕ) : Type 0 where
  pub in_mme : Purges an_mme m r r' (number_of (key 10415 1442) a)
  pub in_sgsn : Purges an_sgsn m r r' (number_of (key 10415 1442) a)
  pub flags_there : is_there (find (key 10415 1442) (avps_of a)) ≡ true
  pub two_bits : number_of (key 10415 1442) a < 4
  pub none_listed : es ≡ []
  pub imei_kept : imei_in r' ≡ imei_in r
  -- "No match is success with no change."
  pub no_match : name_of an_mme r ≢ sent_by m → name_of an_sgsn r ≢ sent_by m → r' ≡ r

-- ---- NOR

pub record Notifies (m r r' : List ℕ) (es : List Entry) : Type 0 where
  -- "Single-Registration lists a registered SGSN with type 1 (unless it is the sender) and clears it."
  pub single_lists : nor_bit 0 m ≡ true → name_of an_sgsn r ≢ [] → name_of an_sgsn r ≢ sent_by m → es ≡ listing an_sgsn 1 r ∷ []
  pub sender_unlisted : name_of an_sgsn r ≡ sent_by m → es ≡ []
  pub none_unlisted : name_of an_sgsn r ≡ [] → es ≡ []
  pub single_clears : nor_bit 0 m ≡ true → Cleared an_sgsn r'
  pub not_single_keeps : nor_bit 0 m ≡ false → Kept an_sgsn r r'
  pub not_single_lists : nor_bit 0 m ≡ false → es ≡ []
  pub mme_kept : Kept an_mme r r'
  -- "IMEI stored"
  pub stores_imei : Imei (imei_asked m) r r'

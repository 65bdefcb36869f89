-- The values of the code in the paper's words: a node, a type of cancellation, a refusal; and what a command left in the two buffers.
-- Assumes nothing.
use Rattle.std.specs.Prelude.{◌≡◌, Bool, true, false, cond, leb, List, ℕ, ◌<◌, ◌-◌, slice_get, Option, Some, None, Result, Ok, Err}
use Rattle.std.proofs.Math.Option as paper
use Rattle.wire.specs.Put.{put}
use Rattle.paper.specs.Avp.{bit}
use Rattle.paper.specs.Fields.{store_imei}
use Rattle.paper.specs.Layout.{most_entries}
use Rattle.paper.specs.Reader.{or_else}
use Rattle.paper.specs.Table as Table
use Rattle.paper.specs.Table.{count_of, valid, mme, sgsn}
use Rattle.paper.specs.Procedures.{Done, code_if, unsubscribed, rat_bits, rat_refused, restriction_of, plmn_refused, registered, purged, cancel_bytes}
use Rattle.paper.specs.declared.ExperimentalCode.{ExperimentalCode}
use Rattle.procedures.specs.declared.nodes.Node.{Node}
use Rattle.procedures.specs.declared.nodes.Node.TheVariants.{Mme, Sgsn}
use Rattle.procedures.specs.declared.cancel.CancellationType.{CancellationType}
use Rattle.procedures.specs.declared.cancel.CancellationType.TheVariants.{MmeUpdate, SgsnUpdate, InitialAttach}
use Rattle.procedures.specs.declared.subscriber.Subscriber.{Subscriber}

-- record `i` of a valid table
pub record Held (t : List ℕ) (i : ℕ) : Type 0 where
  pub right : valid t ≡ true
  pub below : i < count_of t

-- the bytes of a record
abbrev pub bytes_of : Subscriber → List ℕ
bytes_of s = s.record.bytes.now

-- each node: 01's description of it, and the other one
abbrev pub slot_of : Node → Table.Slot
slot_of Mme = mme
slot_of Sgsn = sgsn

abbrev pub other_of : Node → Node
other_of Mme = Sgsn
other_of Sgsn = Mme

-- each case of a ruling: its Experimental-Result-Code, or none
abbrev pub code_of : Result Unit ExperimentalCode → paper.Option ℕ
code_of (Ok u) = paper.none
code_of (Err c) = paper.some c.0

-- the bit of a RAT-Type in Access-Restriction-Data, if it has one
unfoldable pub bit_of_rat : ℕ → Option ℕ
bit_of_rat rat = cond (leb 1000 rat) (slice_get rat_bits (rat - 1000)) None

-- what refuses a ULR of these numbers
unfoldable pub refused_update : ℕ → ℕ → List ℕ → List ℕ → paper.Option ℕ
refused_update flags rat plmn r =
    or_else (code_if (unsubscribed (bit 1 flags) r) 5420)
    (or_else (code_if (rat_refused rat (restriction_of r)) 5421)
    (code_if (plmn_refused plmn r) 5004))

-- each Cancellation-Type: its number
abbrev pub type_number : CancellationType → ℕ
type_number MmeUpdate = 0
type_number SgsnUpdate = 1
type_number InitialAttach = 4

-- that of a node displaced by an update of its own kind
abbrev pub update_of : Node → CancellationType
update_of Mme = MmeUpdate
update_of Sgsn = SgsnUpdate

-- each case of a cancellation: the number of its type, or none
abbrev pub type_of : Option CancellationType → paper.Option ℕ
type_of None = paper.none
type_of (Some kind) = paper.some (type_number kind)

-- a node that is cancelled is cleared where it is registered
unfoldable pub clears : Table.Slot → paper.Option ℕ → List ℕ → Bool
clears slot paper.none r = false
clears slot (paper.some type) r = registered slot r

-- the table with the IMEI stored, where there is one
abbrev pub stored_if : Option (List ℕ) → ℕ → List ℕ → List ℕ
stored_if None i t = t
stored_if (Some digits) i t = store_imei i digits t

-- the table and the list are those of `d`
pub record Did (d : Done) (cancel t' cancel' : List ℕ) : Type 0 where
  pub table : t' ≡ d.table
  pub list : cancel' ≡ put 0 (cancel_bytes most_entries d.entries) cancel

-- and the result its purge bits
pub record Carried (d : Done) (cancel : List ℕ) (r : ℕ) (t' cancel' : List ℕ) : Type 0 where
  pub did : Did d cancel t' cancel'
  pub flags : r ≡ d.purges

-- the purge bits are set, and the result says which
pub record Purged (in_mme in_sgsn : Bool) (i : ℕ) (t : List ℕ) (r : ℕ) (t' : List ℕ) : Type 0 where
  pub table : t' ≡ (purged in_mme in_sgsn i t).table
  pub flags : r ≡ (purged in_mme in_sgsn i t).purges

-- What a promise reads: the record of a request's IMSI before and after the call, the entries of the cancel buffer, and the AVPs of the answer.
-- No definition here speaks of how a request is carried out. Assumes nothing.
use Rattle.std.specs.Prelude.{Bool, true, cond, ◌&&◌, ◌||◌, List, [], ◌∷◌, ◌++◌, ℕ, zero, suc, ◌+◌, ◌-◌, length, take, get_or, replicate, eqb}
use Rattle.std.proofs.Math.Option.{Option, none, some}
use Rattle.wire.specs.Number.{num_at}
use Rattle.wire.specs.Put.{part}
use Rattle.paper.specs.Avp.{bit, size_of}
use Rattle.paper.specs.Reader.{Placed}
use Rattle.paper.specs.Find.{body_found}
use Rattle.paper.specs.Profile.{Key, key}
use Rattle.paper.specs.Table.{Slot, name_of}
use Rattle.paper.specs.Request.{find, inside, avps_of, number_of}
use Rattle.paper.specs.Procedures.{Entry, imsi_field}
use Rattle.paper.specs.Clerks.{record_with}
use Rattle.paper.specs.Outcome.{Lent, Outcome, outcome}

-- ---- the record of the request's IMSI

abbrev pub before : Lent → List ℕ
before l = record_with (imsi_field l.request) l.table

abbrev pub after : Lent → List ℕ
after l = record_with (imsi_field l.request) (outcome l).table

-- "64, 65–128: MME name length 0–64, name"; "129, 130–193: SGSN [..]"; "bit 0 purged in MME, bit 1 purged in SGSN"; "1 MME or 2 SGSN"
abbrev pub an_mme : Slot
an_mme = record { number = 1; at = 64; purge_bit = 0 }

abbrev pub an_sgsn : Slot
an_sgsn = record { number = 2; at = 129; purge_bit = 1 }

-- a purge bit, of byte 56
abbrev pub purged_in : Slot → List ℕ → Bool
purged_in slot r = bit slot.purge_bit (get_or r 56 0)

-- "204, 205–219: IMEI digit count 0, 14 or 15, ASCII digits"
abbrev pub imei_in : List ℕ → List ℕ
imei_in r = part 205 (get_or r 204 0) r

-- ---- the cancel buffer: "two entries of 68 bytes, filled from the first: 1 MME or 2 SGSN, type, name length, zero, name zero-filled"

-- the entry at the byte `at`
abbrev pub entry_at : ℕ → List ℕ → Entry
entry_at at c = record { node = get_or c at 0; type = get_or c (at + 1) 0; name = part (at + 4) (get_or c (at + 2) 0) c }

-- the entries from the byte `at` on, `n` at most: "Unused entries are zero."
unfoldable pub entries_in : ℕ → ℕ → List ℕ → List Entry
entries_in zero at c = []
entries_in (suc n) at c = cond (eqb (get_or c at 0) 0) [] (entry_at at c ∷ entries_in n (at + 68) c)

abbrev pub listed_in : Outcome → List Entry
listed_in o = entries_in 2 0 o.cancel

abbrev pub listed_by : Lent → List Entry
listed_by l = listed_in (outcome l)

-- the 68 bytes of an entry: node, type, name length, zero, and the name with zeros up to 64 bytes
unfoldable pub entry_laid : Entry → List ℕ
entry_laid e = e.node ∷ e.type ∷ length e.name ∷ 0 ∷ (e.name ++ replicate (64 - length e.name) 0)

-- the 136 bytes of a list: no list has a third entry
unfoldable pub list_laid : List Entry → List ℕ
list_laid [] = replicate 136 0
list_laid (e ∷ []) = entry_laid e ++ replicate 68 0
list_laid (e ∷ f ∷ es) = entry_laid e ++ entry_laid f

-- every entry is of a node: "1 MME or 2 SGSN"
unfoldable pub of_nodes : List Entry → Bool
of_nodes [] = true
of_nodes (e ∷ es) = (eqb e.node 1 || eqb e.node 2) && of_nodes es

-- the entries of one node, and the entry that lists a node of the record with a type
unfoldable pub of_node : Slot → List Entry → List Entry
of_node slot [] = []
of_node slot (e ∷ es) = cond (eqb e.node slot.number) (e ∷ of_node slot es) (of_node slot es)

abbrev pub listing : Slot → ℕ → List ℕ → Entry
listing slot type r = record { node = slot.number; type = type; name = name_of slot r }

-- ---- the answer

abbrev pub answer_in : Outcome → List ℕ
answer_in o = take o.size o.answer

abbrev pub answer_of : Lent → List ℕ
answer_of l = answer_in (outcome l)

-- Result-Code (268) and, in Experimental-Result (297), Experimental-Result-Code (298) as the answer's bytes have them, 0 for the one that it does not hold
unfoldable pub codes_in : List ℕ → List ℕ
codes_in a =
    number_of (key 0 268) a ∷
    num_at 4 (body_found (find (key 0 298) (inside (find (key 0 297) (avps_of a))))) 0 ∷
    []

-- the bytes that the first AVP of the key takes, 0 where there is none
unfoldable pub size_found : Option Placed → ℕ
size_found none = 0
size_found (some p) = size_of p.avp

unfoldable pub size_in : Key → List ℕ → ℕ
size_in key a = size_found (find key (avps_of a))

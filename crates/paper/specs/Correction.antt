-- 01's section "Corrections": what a frame comes to, for all bytes.
-- Assumes nothing.
use Rattle.std.specs.Prelude.{Bool, true, cond, ◌&&◌, ◌||◌, not, List, ℕ, ◌+◌, ◌*◌, ◌%◌, ◌^◌, length, take, drop, get_or, leb, ltb, eqb}
use Rattle.std.proofs.Math.Option.{Option, none, some}
use Rattle.wire.specs.Number.{be, num_at}
use Rattle.wire.specs.Put.{part}
use Rattle.wire.specs.Stretch.{zeros}
use Rattle.paper.specs.Layout.{change_at, subscription_at, restriction_at, plmn_count_at, plmns_at, plmn_size, most_plmns, ambr_at, imsi_size}
use Rattle.paper.specs.Table.{valid, lookup, record_of, change_of, store}

-- "Frame: whole length (2), version 1, kind, IMSI (16, as stored), change number seen (4), value."
abbrev pub frame_head : ℕ
frame_head = 24

abbrev pub frame_version : ℕ
frame_version = 1

abbrev pub frame_kind : List ℕ → ℕ
frame_kind f = get_or f 3 0

abbrev pub frame_imsi : List ℕ → List ℕ
frame_imsi f = part 4 imsi_size f

abbrev pub frame_seen : List ℕ → ℕ
frame_seen f = num_at 4 f 20

abbrev pub frame_value : List ℕ → List ℕ
frame_value f = drop frame_head f

-- "Kinds: 1 byte 20; 2 bytes 24–27; 3 byte 28 and 32–55 (25 bytes); 4 bytes 196–203": how many bytes the value of a kind has, 0 for no kind
unfoldable pub value_size : ℕ → ℕ
value_size kind =
    cond (eqb kind 1) 1 (cond (eqb kind 2) 4 (cond (eqb kind 3) 25 (cond (eqb kind 4) 8 0)))

-- "15 value not valid in a table"
unfoldable pub value_right : ℕ → List ℕ → Bool
value_right kind v =
    cond (eqb kind 1) (ltb (get_or v 0 0) 4)
    (cond (eqb kind 3) (leb (get_or v 0 0) most_plmns && zeros (drop (1 + plmn_size * get_or v 0 0) v))
    true)

-- the value of the kind stored in record `i`
unfoldable pub store_value : ℕ → ℕ → List ℕ → List ℕ → List ℕ
store_value kind i v t =
    cond (eqb kind 1) (store i subscription_at v t)
    (cond (eqb kind 2) (store i restriction_at v t)
    (cond (eqb kind 3) (store i plmns_at (drop 1 v) (store i plmn_count_at (take 1 v) t))
    (store i ambr_at v t)))

-- "adds 1 to the change number, 4,294,967,295 going to 0"
unfoldable pub next_change : ℕ → ℕ
next_change n = (n + 1) % 2 ^ 32

-- what a correction comes to: its number, and the table after it
pub record Corrected : Type 0 where
  pub number : ℕ
  pub table : List ℕ

-- "Success returns 0, stores the value and adds 1 to the change number"
unfoldable pub accepted : ℕ → List ℕ → List ℕ → Corrected
accepted i f t =
    record { number = 0; table = store i change_at (be 4 (next_change (change_of (record_of t i)))) (store_value (frame_kind f) i (frame_value f) t) }

unfoldable pub refused : ℕ → List ℕ → Corrected
refused n t = record { number = n; table = t }

unfoldable pub on_record : Option ℕ → List ℕ → List ℕ → Corrected
on_record none f t = refused 16 t
on_record (some i) f t = cond (eqb (change_of (record_of t i)) (frame_seen f)) (accepted i f t) (refused 17 t)

-- "Numbers, in order, nothing changed: 4 table; 11 under 24 bytes or length field wrong; 12 version; 13 kind; 14 length wrong for the kind;
-- 15 value not valid in a table; 16 no such IMSI; 17 change number differs."
unfoldable pub corrected : List ℕ → List ℕ → Corrected
corrected t f =
    cond (not (valid t)) (refused 4 t)
    (cond (ltb (length f) frame_head || not (eqb (num_at 2 f 0) (length f))) (refused 11 t)
    (cond (not (eqb (get_or f 2 0) frame_version)) (refused 12 t)
    (cond (eqb (value_size (frame_kind f)) 0) (refused 13 t)
    (cond (not (eqb (length f) (frame_head + value_size (frame_kind f)))) (refused 14 t)
    (cond (not (value_right (frame_kind f) (frame_value f))) (refused 15 t)
    (on_record (lookup (frame_imsi f) t) f t))))))

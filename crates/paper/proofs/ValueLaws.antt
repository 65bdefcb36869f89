-- "15 value not valid in a table": a value is right exactly if it keeps a record right, whichever right record it is stored in.
-- Assumes nothing.
use mathlib.Core.Path.{◌≡◌, refl}
use mathlib.Core.Bool.{true, ◌&&◌}
use mathlib.Core.List.{List}
use Prim.Native.Nat.{ℕ, ◌+◌, ◌*◌, ◌≤◌}
use native.Mathlib.Omega.{arith}
use lib.Dec.{leb, ltb}
use lib.ListN.{length, take, drop, get_or}
use borrow.Author.Tests.{leb-true}
use Rattle.std.proofs.lemmas.Bool.{and_from}
use Rattle.wire.specs.Put.{put}
use Rattle.wire.specs.Stretch.{all_in, zeros}
use Rattle.paper.specs.Layout.{record_size, subscription_at, plmn_count_at, plmns_at, plmn_size, most_plmns}
use Rattle.paper.specs.Table.{counted, imsi_right, two_bits, plmn_count_right, plmns_right, name_right, purged_right, imei_right, rules, all_hold, record_right}
use Rattle.paper.specs.Correction.{value_size, value_right}
use Rattle.paper.specs.Clerks.{with_value, plain_record}
use Rattle.paper.proofs.FieldLaws.{right_parts, first-put, count_stored, unused_stored}
use Rattle.paper.proofs.StoreLaws.{Corrects, subscription, restriction, plmns, ambr, value_right_lem}
use Rattle.paper.proofs.TestLaws.{same_when_true}

-- ---- a value that keeps a record right is right

subscription_back : (v r : List ℕ) → length v ≡ 1 → length r ≡ record_size → record_right (put subscription_at v r) ≡ true → ltb (get_or v 0 0) 4 ≡ true
unfolding two_bits
subscription_back v r n long e = rw (first-put subscription_at v r (omega arith) (omega arith)) at (right_parts (put subscription_at v r) e).subscription

plmns_back : (v r : List ℕ) → length v ≡ 25 → length r ≡ record_size → record_right (put plmns_at (drop 1 v) (put plmn_count_at (take 1 v) r)) ≡ true
    → leb (get_or v 0 0) most_plmns && zeros (drop (1 + plmn_size * get_or v 0 0) v) ≡ true
unfolding plmn_count_right plmns_right
plmns_back v r n long e =
    let p = right_parts (put plmns_at (drop 1 v) (put plmn_count_at (take 1 v) r)) e in
    let c = get_or v 0 0 in
    let few : leb c most_plmns ≡ true = rw (count_stored v r n long) at p.plmn_count in
    let small : c ≤ most_plmns = leb-true c most_plmns few in
    let z : zeros (drop (1 + plmn_size * c) v) ≡ true = rw (count_stored v r n long, unused_stored v r n long (plmn_size * c) (omega arith)) at p.plmns in
    and_from (leb c most_plmns) (zeros (drop (1 + plmn_size * c) v)) few z

value_back : (kind : ℕ) (v r : List ℕ) → Corrects kind → length v ≡ value_size kind → length r ≡ record_size → record_right (with_value kind v r) ≡ true → value_right kind v ≡ true
unfolding with_value value_size value_right
value_back kind v r subscription n long e = subscription_back v r n long e
value_back kind v r restriction n long e = refl
value_back kind v r plmns n long e = plmns_back v r n long e
value_back kind v r ambr n long e = refl

-- ---- both ways

-- a value that is refused breaks a rule in every right record, and one that is not breaks none in any
pub value_judged : (kind : ℕ) (v r : List ℕ) → Corrects kind → length v ≡ value_size kind → length r ≡ 256 → record_right r ≡ true → record_right (with_value kind v r) ≡ value_right kind v
value_judged kind v r k n long right =
    same_when_true (record_right (with_value kind v r)) (value_right kind v) (value_back kind v r k n long) (λ good. value_right_lem kind v r k n good long right)

pub plain-right : record_right plain_record ≡ true
unfolding plain_record record_right all_hold rules counted imsi_right two_bits plmn_count_right plmns_right name_right purged_right imei_right all_in
plain-right = refl

pub plain-judged : (kind : ℕ) (v : List ℕ) → Corrects kind → length v ≡ value_size kind → record_right (with_value kind v plain_record) ≡ value_right kind v
unfolding plain_record
plain-judged kind v k n = value_judged kind v plain_record k n refl plain-right

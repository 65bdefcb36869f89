-- `right_record` meets its contract: one rule after the other, each asked if those before it hold.
-- Assumes nothing.
use mathlib.Core.Bool.{◌&&◌}
use Rattle.std.proofs.Common.{◌≡◌, ◌∙◌}
use Rattle.wire.specs.Put.{part}
use Rattle.wire.specs.Stretch.{zeros}
use Rattle.paper.specs.Layout.{subscription_at, mme_at, sgsn_at}
use Rattle.paper.specs.Table.{imsi_right, two_bits, plmn_count_right, plmns_right, purged_right, name_right, imei_right}
use Rattle.table.proofs.RecordLaws.{asked, not_asked, joined_rules}
use Rattle.table.proofs.valid.right_record.Goals as goal
use Rattle.table.proofs.valid.right_record.Goals.{then-right_imsi, else-right_imsi, then-r-lt4, else-r-lt4, then-unlisted, else-unlisted, then-right_plmns, else-right_plmns, then-unlisted-2, else-unlisted-2, then-right_purged, else-right_purged, then-unlisted-3, else-unlisted-3, then-right_counted, else-right_counted, then-right_counted-2, else-right_counted-2, then-unlisted-4, else-unlisted-4}

pub returns : goal.returns
unfolding name_right two_bits
returns c =
    let r = c.args.r.now in
    let to_sub = imsi_right r && two_bits subscription_at r in
    let sub : c.if-right_imsi.value ≡ to_sub = elim c.if-right_imsi.branch [ then-right_imsi w ↦ asked c.right_imsi.ensures w.if-right_imsi.true w.value-is | else-right_imsi w ↦ not_asked _ c.right_imsi.ensures w.if-right_imsi.false w.value-is ] in
    let to_unlisted_21 = to_sub && zeros (part 21 3 r) in
    let unlisted_21 : c.if-r-lt4.value ≡ to_unlisted_21 = elim c.if-r-lt4.branch [ then-r-lt4 w ↦ asked sub w.if-r-lt4.true (w.value-is ∙ w.unlisted.ensures) | else-r-lt4 w ↦ not_asked _ sub w.if-r-lt4.false w.value-is ] in
    let to_plmns = to_unlisted_21 && (plmn_count_right r && plmns_right r) in
    let plmns : c.if-unlisted.value ≡ to_plmns = elim c.if-unlisted.branch [ then-unlisted w ↦ asked unlisted_21 w.if-unlisted.true (w.value-is ∙ w.right_plmns.ensures) | else-unlisted w ↦ not_asked _ unlisted_21 w.if-unlisted.false w.value-is ] in
    let to_unlisted_29 = to_plmns && zeros (part 29 3 r) in
    let unlisted_29 : c.if-right_plmns.value ≡ to_unlisted_29 = elim c.if-right_plmns.branch [ then-right_plmns w ↦ asked plmns w.if-right_plmns.true (w.value-is ∙ w.unlisted-then-right_plmns.ensures) | else-right_plmns w ↦ not_asked _ plmns w.if-right_plmns.false w.value-is ] in
    let to_purged = to_unlisted_29 && purged_right r in
    let purged : c.if-unlisted-2.value ≡ to_purged = elim c.if-unlisted-2.branch [ then-unlisted-2 w ↦ asked unlisted_29 w.if-unlisted-2.true (w.value-is ∙ w.right_purged.ensures) | else-unlisted-2 w ↦ not_asked _ unlisted_29 w.if-unlisted-2.false w.value-is ] in
    let to_unlisted_57 = to_purged && zeros (part 57 7 r) in
    let unlisted_57 : c.if-right_purged.value ≡ to_unlisted_57 = elim c.if-right_purged.branch [ then-right_purged w ↦ asked purged w.if-right_purged.true (w.value-is ∙ w.unlisted-then-right_purged.ensures) | else-right_purged w ↦ not_asked _ purged w.if-right_purged.false w.value-is ] in
    let to_mme_name = to_unlisted_57 && name_right mme_at r in
    let mme_name : c.if-unlisted-3.value ≡ to_mme_name = elim c.if-unlisted-3.branch [ then-unlisted-3 w ↦ asked unlisted_57 w.if-unlisted-3.true (w.value-is ∙ w.right_counted.ensures) | else-unlisted-3 w ↦ not_asked _ unlisted_57 w.if-unlisted-3.false w.value-is ] in
    let to_sgsn_name = to_mme_name && name_right sgsn_at r in
    let sgsn_name : c.if-right_counted.value ≡ to_sgsn_name = elim c.if-right_counted.branch [ then-right_counted w ↦ asked mme_name w.if-right_counted.true (w.value-is ∙ w.right_counted-then-right_counted.ensures) | else-right_counted w ↦ not_asked _ mme_name w.if-right_counted.false w.value-is ] in
    let to_unlisted_194 = to_sgsn_name && zeros (part 194 2 r) in
    let unlisted_194 : c.if-right_counted-2.value ≡ to_unlisted_194 = elim c.if-right_counted-2.branch [ then-right_counted-2 w ↦ asked sgsn_name w.if-right_counted-2.true (w.value-is ∙ w.unlisted-then-right_counted-2.ensures) | else-right_counted-2 w ↦ not_asked _ sgsn_name w.if-right_counted-2.false w.value-is ] in
    let to_imei = to_unlisted_194 && imei_right r in
    let imei : c.if-unlisted-4.right ≡ to_imei = elim c.if-unlisted-4.branch [ then-unlisted-4 w ↦ asked unlisted_194 w.if-unlisted-4.true (w.right-is ∙ w.right_imei-right.ensures) | else-unlisted-4 w ↦ not_asked _ unlisted_194 w.if-unlisted-4.false w.right-is ] in
    rw (imei, c.unlisted-2.ensures) (joined_rules r)

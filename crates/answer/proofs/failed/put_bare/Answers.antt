-- `answer::failed::put_bare` meets its contract. Assumes nothing.
use native.Mathlib.Omega.{arith}
use Rattle.avp.proofs.WriteLaws.{appended-same}
use Rattle.answer.proofs.FailedLaws.{cut_head, length-bare}
use Rattle.answer.proofs.failed.put_bare.Goals as goal

pub put_as_received-requires : goal.put_as_received-requires
put_as_received-requires c =
    let l = length-bare c.get_cut-code.result c.byte_or_zero-flags.result c.vendor_or_zero-vendor.result in
    (omega arith, omega arith)

pub returns : goal.returns
returns c =
    appended-same (cut_head _ c.get_cut-code.ensures.value c.byte_or_zero-flags.ensures c.vendor_or_zero-vendor.ensures) c.put_as_received.ensures

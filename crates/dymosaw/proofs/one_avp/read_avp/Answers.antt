-- `read_avp` meets its contract: the cursor's step, and that the stretch is bytes.
-- Assumes nothing.
use Rattle.dymosaw.proofs.one_avp.read_avp.Goals as goal

pub returns : goal.returns
returns c = record { value = c.next.ensures; bytes = λ i. (c.shared_slice_known-1.given i).fits }

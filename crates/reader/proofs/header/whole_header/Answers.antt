-- `reader::header::whole_header` meets its contract, field by field. Assumes nothing.
use lib.ListN.{get_or}
use Rattle.reader.specs.Header.{header_of}
use Rattle.reader.proofs.header.whole_header.Goals as goal

pub returns : goal.returns
unfolding header_of
returns c =
    λ i. record {
      version = get_or c.args.m.now 0 0;
      length = c.get.ensures.value i;
      flags = get_or c.args.m.now 4 0;
      command = c.get-2.ensures.value i;
      application = c.get-3.ensures.value i;
      hop_by_hop = c.get-4.ensures.value i;
      end_to_end = c.get-5.ensures.value i;
    }

-- `imsi_field` meets its contract: the digits behind their count, in a field of zeros.
-- Assumes nothing.
use Rattle.dymosaw.proofs.FieldLaws.{field-filled}
use Rattle.dymosaw.proofs.serve.imsi_field.Goals as goal

pub returns : goal.returns
returns c = field-filled c.requires c.put_bytes.ensures

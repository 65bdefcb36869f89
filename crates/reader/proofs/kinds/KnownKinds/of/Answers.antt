use Rattle.std.proofs.Common.{arith}
use Rattle.dictionary.specs.declared.Kind.TheVariants.{Unknown}
use Rattle.dictionary.specs.Rows.{row}
use Rattle.dictionary.proofs.Order.{rows_held, kind_met}
use Rattle.reader.specs.declared.kinds.TheConstants.{MIDDLE, QUARTER, EIGHTH}
use Rattle.reader.proofs.kinds.KnownKinds.of.Goals as goal

pub returns-then-eq : goal.returns-then-eq
returns-then-eq c = kind_met _ rows_held _ _ MIDDLE (row 0 0 Unknown) (omega arith) c.eq.ensures c.if-eq.true

pub returns-then-eq-2 : goal.returns-then-eq-2
returns-then-eq-2 c = kind_met _ rows_held _ _ QUARTER (row 0 0 Unknown) (omega arith) c.eq-2.ensures c.if-eq-2.true

pub returns-then-eq-3 : goal.returns-then-eq-3
returns-then-eq-3 c = kind_met _ rows_held _ _ EIGHTH (row 0 0 Unknown) (omega arith) c.eq-3.ensures c.if-eq-3.true

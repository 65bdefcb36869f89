-- The measure of the cycle of calls {put_decimal} is the number. Assumes nothing.
use Rattle.dymosaw.proofs.line.+put_decimal.Given as goal

abbrev pub decreases-put_decimal : goal.decreases-put_decimal
decreases-put_decimal l = l.n

use native.Mathlib.Omega.{arith}
use Rattle.cuwelfra.specs.Vectors.{increment_area, count_told}
use Rattle.cuwelfra.proofs.VectorLaws.{is_long, is_short, short_number, long_kept}
use Rattle.cuwelfra.proofs.vector.cuwelfra_clock_increment.Goals as goal

pub returns-then-clock-lt520 : goal.returns-then-clock-lt520
unfolding increment_area
returns-then-clock-lt520 c = short_number _ _ _ _ (is_short c.args.clock.now (omega arith)) c.clock_told.ensures

pub returns : goal.returns
unfolding increment_area
returns c = long_kept count_told _ _ _ _ _ _ _ (is_long c.args.clock.now (omega arith)) (rw c.load_clock-own.ensures at c.increment-answer.ensures) c.keep.ensures c.clock_told-2.ensures

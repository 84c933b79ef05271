use native.Mathlib.Omega.{arith}
use Rattle.error.specs.Answer.{told_by}
use Rattle.cuwelfra.specs.Vectors.{observe_area}
use Rattle.cuwelfra.proofs.VectorLaws.{is_long, is_short, short_kept, long_kept}
use Rattle.cuwelfra.proofs.vector.cuwelfra_clock_observe.Goals as goal

pub returns-then-clock-lt520 : goal.returns-then-clock-lt520
unfolding observe_area
returns-then-clock-lt520 c = short_kept _ _ _ _ (is_short c.args.clock.now (omega arith)) c.tell.ensures

pub returns : goal.returns
unfolding observe_area
returns c = long_kept told_by _ _ _ _ _ _ _ (is_long c.args.clock.now (omega arith)) (rw c.load_clock-own.ensures at c.observe-answer.ensures) c.keep.ensures c.told_by.ensures

use native.Mathlib.Omega.{arith}
use Rattle.cuwelfra.specs.Vectors.{new_area}
use Rattle.cuwelfra.proofs.VectorLaws.{is_long, is_short, short_kept, new_kept}
use Rattle.cuwelfra.proofs.vector.cuwelfra_clock_new.Goals as goal

pub returns-then-clock-lt520 : goal.returns-then-clock-lt520
unfolding new_area
returns-then-clock-lt520 c = short_kept _ _ _ _ (is_short c.args.clock.now (omega arith)) c.tell.ensures

pub returns : goal.returns
unfolding new_area
returns c = new_kept _ _ _ _ (is_long c.args.clock.now (omega arith)) c.new.ensures c.store_clock.ensures c.accept.ensures

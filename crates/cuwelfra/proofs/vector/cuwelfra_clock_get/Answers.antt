use Rattle.std.proofs.Common.{◌∙◌, ap, arith}
use Rattle.cuwelfra.specs.Vectors.{get_area, count_told}
use Rattle.cuwelfra.proofs.VectorLaws.{is_long, is_short}
use Rattle.cuwelfra.proofs.vector.cuwelfra_clock_get.Goals as goal

pub returns-then-clock-lt520 : goal.returns-then-clock-lt520
unfolding get_area
returns-then-clock-lt520 c = rw (is_short c.args.clock.now (omega arith)) c.clock_told.ensures

pub returns : goal.returns
unfolding get_area
returns c = rw (is_long c.args.clock.now (omega arith)) (c.clock_told-2.ensures ∙ ap count_told (rw c.load_clock.ensures at c.get.ensures))

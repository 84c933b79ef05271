use mathlib.Core.Path.{◌∙◌, ap}
use native.Mathlib.Omega.{arith}
use Rattle.cuwelfra.specs.Vectors.{compare_area, order_told}
use Rattle.cuwelfra.proofs.VectorLaws.{both_long, own_short, other_short}
use Rattle.cuwelfra.proofs.vector.cuwelfra_clock_compare.Goals as goal

pub returns-then-clock-lt520 : goal.returns-then-clock-lt520
unfolding compare_area
returns-then-clock-lt520 c = rw (own_short c.args.clock.now c.args.other.now (omega arith)) c.order_told.ensures

pub returns-then-other-lt520 : goal.returns-then-other-lt520
unfolding compare_area
returns-then-other-lt520 c = rw (other_short c.args.clock.now c.args.other.now (omega arith) (omega arith)) c.order_told-then-other-lt520.ensures

pub returns : goal.returns
unfolding compare_area
returns c =
    let args = c.args in
    rw (both_long args.clock.now args.other.now (omega arith) (omega arith)) (c.order_told-2.ensures ∙ ap order_told (rw (c.load_clock.ensures, c.load_clock-theirs.ensures) at c.compare.ensures.answer))

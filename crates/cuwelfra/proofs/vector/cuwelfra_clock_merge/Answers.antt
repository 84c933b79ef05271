use native.Mathlib.Omega.{arith}
use Rattle.error.specs.Answer.{told_by}
use Rattle.cuwelfra.specs.Vectors.{merge_area}
use Rattle.cuwelfra.proofs.VectorLaws.{both_long, own_short, other_short, short_kept, long_kept}
use Rattle.cuwelfra.proofs.vector.cuwelfra_clock_merge.Goals as goal

pub returns-then-clock-lt520 : goal.returns-then-clock-lt520
unfolding merge_area
returns-then-clock-lt520 c = short_kept _ _ _ _ (own_short c.args.clock.now c.args.other.now (omega arith)) c.tell.ensures

pub returns-then-other-lt520 : goal.returns-then-other-lt520
unfolding merge_area
returns-then-other-lt520 c = short_kept _ _ _ _ (other_short c.args.clock.now c.args.other.now (omega arith) (omega arith)) c.tell-then-other-lt520.ensures

pub returns : goal.returns
unfolding merge_area
returns c =
    let args = c.args in
    long_kept told_by _ _ _ _ _ _ _ (both_long args.clock.now args.other.now (omega arith) (omega arith)) (rw (c.load_clock-own.ensures, c.load_clock-theirs.ensures) at c.merge-answer.ensures.ended) c.keep.ensures c.told_by.ensures

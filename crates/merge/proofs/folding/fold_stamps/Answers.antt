use mathlib.Core.Path.{refl}
use native.Mathlib.Omega.{arith}
use Rattle.merge.proofs.FoldLoop.{folding_start, folding_end, failed_few, row_read, folding_turn}
use Rattle.merge.proofs.folding.fold_stamps.Goals as goal

pub count_rows-rows-requires : goal.count_rows-rows-requires
count_rows-rows-requires c = let b = c.requires in (b.rows, b.brings)

pub loop-i-init : goal.loop-i-init
loop-i-init c = folding_start _ _ _ _ _ c.requires c.count_rows-rows.ensures refl

pub stamp_at-stamp-requires : goal.stamp_at-stamp-requires
stamp_at-stamp-requires c = row_read c.loop-i.invariant c.loop-i-test.true

pub fold_stamp-folded-requires : goal.fold_stamp-folded-requires
fold_stamp-folded-requires c = failed_few c.loop-i.invariant c.loop-i-test.true

pub loop-i-preserved : goal.loop-i-preserved
loop-i-preserved c = folding_turn c.loop-i.invariant c.loop-i-test.true _ c.stamp_at-stamp.ensures _ c.fold_stamp-folded.ensures

pub returns : goal.returns
returns c = folding_end c.loop-i.invariant (omega arith)

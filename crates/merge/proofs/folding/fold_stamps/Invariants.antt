use Rattle.merge.proofs.FoldLoop.{Folding}
use Rattle.merge.proofs.folding.fold_stamps.Given as goal

abbrev pub invariant-loop-i : goal.invariant-loop-i
invariant-loop-i l = Folding l.batch l.starts l.time l.rows l.initial.folded.clock l.folded l.i

use Rattle.commit.proofs.HeldSlots.{Spreading}
use Rattle.commit.proofs.holding.spread.Given as goal

abbrev pub invariant-loop-p : goal.invariant-loop-p
invariant-loop-p l = Spreading l.initial.held l.held l.batch l.scratch l.n l.time l.left l.p

use Rattle.commit.proofs.HeldSlots.{Gathering}
use Rattle.commit.proofs.holding.gather.Given as goal

abbrev pub invariant-loop-p : goal.invariant-loop-p
invariant-loop-p l = Gathering l.initial.held l.held l.scratch l.n l.kept l.p

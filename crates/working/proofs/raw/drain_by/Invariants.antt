use Rattle.working.proofs.DrainLoop.{Going}
use Rattle.working.proofs.raw.drain_by.Given as goal

abbrev pub invariant-loop-j : goal.invariant-loop-j
invariant-loop-j l = Going l.held l.batch l.initial.scratch l.initial.authors l.initial.numbers l.n l.count l.scratch l.authors l.numbers l.used l.left l.logged l.dropped

abbrev pub decreases-loop-j : goal.decreases-loop-j
decreases-loop-j l = l.left

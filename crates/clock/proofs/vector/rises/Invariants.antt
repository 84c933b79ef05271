use Rattle.clock.proofs.ClockRules.{Rest}
use Rattle.clock.proofs.vector.rises.Given as goal

abbrev pub invariant-loop-i : goal.invariant-loop-i
invariant-loop-i l = Rest l.authors l.i

use Rattle.clock.proofs.ClockRules.{Clear}
use Rattle.clock.proofs.vector.is_clear.Given as goal

abbrev pub invariant-loop-place : goal.invariant-loop-place
invariant-loop-place l = Clear l.places l.place-index

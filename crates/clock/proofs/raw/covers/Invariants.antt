use Rattle.clock.proofs.ClockCalls.{Covering}
use Rattle.clock.proofs.raw.covers.Given as goal

abbrev pub invariant-loop-i : goal.invariant-loop-i
invariant-loop-i l = Covering l.c l.d l.i

use Rattle.clock.proofs.ClockCalls.{Merging}
use Rattle.clock.proofs.raw.merged.Given as goal

abbrev pub invariant-loop-i : goal.invariant-loop-i
invariant-loop-i l = Merging l.c l.d l.so_far l.i

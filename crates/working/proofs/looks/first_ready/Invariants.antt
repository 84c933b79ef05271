use Rattle.working.specs.Inside.DrainClock.{ticks}
use Rattle.working.specs.Inside.Looks.{ready_ref}
use Rattle.working.proofs.FirstReference.{LeftFirst}
use Rattle.working.proofs.looks.first_ready.Given as goal

abbrev pub invariant-loop-i : goal.invariant-loop-i
invariant-loop-i l = LeftFirst (ready_ref (ticks l.authors l.numbers l.count) l.held l.batch) l.scratch l.n l.i

use Rattle.row.specs.Values.{deps_of}
use Rattle.working.specs.Inside.DrainClock.{ticks}
use Rattle.working.proofs.ReferenceRows.{LeftMet}
use Rattle.working.proofs.looks.met_deps.Given as goal

abbrev pub invariant-loop-i : goal.invariant-loop-i
invariant-loop-i l = LeftMet (ticks l.authors l.numbers l.count) (deps_of l.d) l.i

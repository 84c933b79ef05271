use Rattle.working.specs.Inside.DrainClock.{ticks}
use Rattle.working.proofs.AdmissionLoop.{Enters}
use Rattle.working.proofs.raw.admit_by.Given as goal

abbrev pub invariant-loop-i : goal.invariant-loop-i
invariant-loop-i l = Enters (ticks l.authors l.numbers l.count) l.held l.batch l.starts l.initial.scratch l.initial.keys l.n l.rows l.scratch l.keys l.left l.duplicates l.i

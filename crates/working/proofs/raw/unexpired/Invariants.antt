use Rattle.working.proofs.AdmissionLoop.{Lasting}
use Rattle.working.proofs.raw.unexpired.Given as goal

abbrev pub invariant-loop-i : goal.invariant-loop-i
invariant-loop-i l = Lasting l.held l.scratch l.count l.cutoff l.n l.i

use Rattle.working.proofs.ScratchColumns.{Moving, Same8}
use Rattle.working.proofs.scratch.take_entry.Given as goal

abbrev pub invariant-loop-i : goal.invariant-loop-i
invariant-loop-i l = Moving l.initial.scratch l.scratch l.n l.j l.i × Same8 l.initial.scratch l.scratch

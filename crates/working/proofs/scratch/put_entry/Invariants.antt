use Prim.Native.Nat.{◌≤◌}
use Rattle.working.proofs.ScratchColumns.{Gap}
use Rattle.working.proofs.scratch.put_entry.Given as goal

abbrev pub invariant-loop-j : goal.invariant-loop-j
invariant-loop-j l = (l.i ≤ l.j) × Gap l.initial.scratch l.scratch l.n l.j

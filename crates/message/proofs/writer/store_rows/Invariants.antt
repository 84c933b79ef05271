use Rattle.message.proofs.DeltaWrites.{Going}
use Rattle.message.proofs.writer.store_rows.Given as goal

abbrev pub invariant-loop-i : goal.invariant-loop-i
invariant-loop-i l = Going l.initial.out l.at l.rows l.n l.out l.next l.i

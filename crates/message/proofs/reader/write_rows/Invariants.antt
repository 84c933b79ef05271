use Rattle.message.proofs.RowLoops.{Writing}
use Rattle.message.proofs.reader.write_rows.Given as goal

abbrev pub invariant-loop-i : goal.invariant-loop-i
invariant-loop-i l = Writing l.s l.at l.n l.initial.rows l.rows l.next l.i

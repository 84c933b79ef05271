use Rattle.message.proofs.RowLoops.{Checking}
use Rattle.message.proofs.reader.check_rows.Given as goal

abbrev pub invariant-loop : goal.invariant-loop
invariant-loop l = Checking l.s l.at l.n l.next l.counter

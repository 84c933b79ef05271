use Rattle.message.proofs.DeltaWrites.{Counted}
use Rattle.message.proofs.writer.rows_len.Given as goal

abbrev pub invariant-loop-i : goal.invariant-loop-i
invariant-loop-i l = Counted l.rows l.len l.i

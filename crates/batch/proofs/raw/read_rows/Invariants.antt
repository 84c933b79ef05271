use Rattle.batch.specs.Settings.{limits_of}
use Rattle.batch.proofs.BatchLoop.{Counting}
use Rattle.batch.proofs.RowStarts.{Starting}
use Rattle.batch.proofs.raw.read_rows.Given as goal

abbrev pub invariant-loop-i : goal.invariant-loop-i
invariant-loop-i l =
    Counting l.s l.first l.rows (limits_of l.limits) l.time l.valid l.at l.i × Starting l.s l.first l.at l.i l.starts

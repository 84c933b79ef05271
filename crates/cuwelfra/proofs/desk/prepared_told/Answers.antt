use Rattle.cuwelfra.proofs.DeskLaws.{row_told_lem, none_told}
use Rattle.cuwelfra.proofs.desk.prepared_told.Goals as goal

pub returns-in-Ok : goal.returns-in-Ok
returns-in-Ok c = rw (c.from.ensures, c.from-in-Ok.ensures) (row_told_lem c.args.p _ _ c.in-Ok.is c.accept.ensures)

pub returns-in-Err : goal.returns-in-Err
returns-in-Err c = rw c.from-in-Err.ensures (none_told c.args.p _ _ c.in-Err.is c.tell.ensures)

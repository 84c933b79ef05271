use Prim.Native.Nat.{◌*◌}
use mathlib.Core.Path.{sym, ◌∙◌}
use Rattle.row.proofs.Operations.{read_op_row}
use Rattle.working.proofs.ReferenceRows.{ok_held, ok_batch, row_held, row_batch}
use Rattle.working.proofs.Entrance.{row_there, read_row_at, same_rows}
use Rattle.working.proofs.contents.same_ref.Goals as goal

pub read_slot-row-requires : goal.read_slot-row-requires
read_slot-row-requires c = ok_held _ _ _ c.if-i-lt64.true c.requires.0

pub returns-then-i-lt64 : goal.returns-then-i-lt64
returns-then-i-lt64 c =
    same_rows _ _ _ _ (read_op_row c.args.held.now (704 * c.args.k) (ok_held _ _ _ c.if-i-lt64.true c.requires.0) _ c.read_slot-row.ensures.0 ∙ sym (row_held _ _ _ c.if-i-lt64.true)) c.same_content.ensures

pub unwrap-requires : goal.unwrap-requires
unwrap-requires c = row_there _ _ c.read_row.ensures (ok_batch _ _ _ c.if-i-lt64.false c.requires.0)

pub returns : goal.returns
returns c = same_rows _ _ _ _ (read_row_at _ _ _ _ (rw c.unwrap.ensures at c.read_row.ensures) ∙ sym (row_batch _ _ _ c.if-i-lt64.false)) c.same_content-2.ensures

use mathlib.Core.Path.{refl}
use native.Mathlib.Omega.{arith}
use Rattle.working.proofs.Entrance.{row_there, read_fits}
use Rattle.commit.proofs.SlotWrites.{slot_lent, slot_written}
use Rattle.commit.proofs.holding.slot_from_batch.Goals as goal

pub unwrap-requires : goal.unwrap-requires
unwrap-requires c = row_there _ _ c.read_row.ensures c.requires.0

pub write_slot-requires : goal.write_slot-requires
write_slot-requires c =
    (slot_lent c.args.held.now c.args.p (omega arith) (omega arith), rw c.arriving.ensures (read_fits _ _ _ _ (rw c.unwrap.ensures at c.read_row.ensures)))

pub returns : goal.returns
returns c =
    slot_written _ _ _ _ (rw c.unwrap.ensures at c.read_row.ensures) _ _ _ _ _ (omega arith) (omega arith) refl (rw c.arriving.ensures at c.write_slot.ensures)

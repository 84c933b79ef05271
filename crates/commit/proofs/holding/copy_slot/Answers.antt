use Rattle.std.proofs.Common.{arith}
use Rattle.commit.proofs.SlotWrites.{slot_same, slot_copied}
use Rattle.commit.proofs.holding.copy_slot.Goals as goal

pub returns-then-to-from : goal.returns-then-to-from
returns-then-to-from c = slot_copied _ _ _ _ (omega arith) (omega arith) (omega arith) c.copy_within.ensures.after

pub returns-else-to-from : goal.returns-else-to-from
returns-else-to-from c = slot_same _ _ _ (omega arith)

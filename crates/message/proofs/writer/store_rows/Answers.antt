use Rattle.replicated_log.proofs.Calls.Restoration.{part_ok}
use Rattle.message.proofs.DeltaWrites.{start, row_room, again}
use Rattle.message.proofs.writer.store_rows.Goals as goal

pub loop-i-init : goal.loop-i-init
loop-i-init c = start _ _ _ _ c.requires.1

pub read_slot-held-requires : goal.read_slot-held-requires
read_slot-held-requires c = part_ok _ _ c.requires.0 _ c.loop-i-test.true

pub store_signed_op-next-requires : goal.store_signed_op-next-requires
store_signed_op-next-requires c = (c.read_slot-held.ensures.1, row_room c.loop-i.invariant c.read_slot-held.result c.loop-i-test.true c.read_slot-held.ensures.0)

pub loop-i-preserved : goal.loop-i-preserved
loop-i-preserved c =
    again c.loop-i.invariant c.read_slot-held.result c.loop-i-test.true c.read_slot-held.ensures.0 c.store_signed_op-next.ensures

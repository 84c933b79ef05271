use Rattle.replicated_log.proofs.Calls.Restoration.{part_ok}
use Rattle.message.proofs.DeltaWrites.{counted_none, counted_more}
use Rattle.message.proofs.writer.rows_len.Goals as goal

pub loop-i-init : goal.loop-i-init
loop-i-init c = counted_none _

pub read_slot-held-requires : goal.read_slot-held-requires
read_slot-held-requires c = part_ok _ _ c.requires.0 _ c.loop-i-test.true

pub loop-i-preserved : goal.loop-i-preserved
loop-i-preserved c = counted_more c.loop-i.invariant c.read_slot-held.result c.read_slot-held.ensures.0 c.read_slot-held.ensures.1 c.signed_len-len.ensures.is c.signed_len-len.ensures.few

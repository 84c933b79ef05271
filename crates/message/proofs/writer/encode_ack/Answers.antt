use Rattle.message.proofs.TaggedWrites.{ack_written}
use Rattle.message.proofs.writer.encode_ack.Goals as goal

pub returns : goal.returns
returns c = ack_written _ _ c.encode_clock.ensures

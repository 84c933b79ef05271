use Rattle.message.proofs.TaggedWrites.{ping_written}
use Rattle.message.proofs.writer.encode_ping.Goals as goal

pub returns : goal.returns
returns c = ping_written _ _ c.encode_nonce.ensures

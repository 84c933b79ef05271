use Rattle.message.proofs.TaggedWrites.{pong_written}
use Rattle.message.proofs.writer.encode_pong.Goals as goal

pub returns : goal.returns
returns c = pong_written _ _ c.encode_nonce.ensures

use Rattle.message.proofs.TaggedWrites.{hello_written}
use Rattle.message.proofs.writer.encode_hello.Goals as goal

pub returns : goal.returns
returns c = hello_written _ _ c.encode_clock.ensures

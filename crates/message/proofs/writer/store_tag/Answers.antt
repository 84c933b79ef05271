use Rattle.message.proofs.TaggedWrites.{tag_stored}
use Rattle.message.proofs.writer.store_tag.Goals as goal

pub returns : goal.returns
returns c = tag_stored _ _ c.requires

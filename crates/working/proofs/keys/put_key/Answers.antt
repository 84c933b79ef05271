use Rattle.working.proofs.KeyTable.{key_in}
use Rattle.working.proofs.keys.put_key.Goals as goal

pub returns : goal.returns
returns c = key_in _ _ _ _ _ _ c.requires.0 c.copy_within.ensures.by_index.0 c.copy_within.ensures.by_index.1 c.write_key.ensures

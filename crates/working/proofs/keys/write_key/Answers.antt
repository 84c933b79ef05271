use Rattle.working.proofs.KeyTable.{key_written}
use borrow.Author.Rules.{rules}
use Rattle.working.proofs.keys.write_key.Goals as goal

pub returns : goal.returns
returns c = rw c.from.ensures (key_written _ _ _ (search rules) (search rules))

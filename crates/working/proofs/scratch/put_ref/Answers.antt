use Rattle.working.proofs.ScratchWord.{written}
use borrow.Author.Rules.{rules}
use Rattle.working.proofs.scratch.put_ref.Goals as goal

pub returns : goal.returns
returns c = written _ _ _ (search rules) _ (search rules) c.put_word.ensures

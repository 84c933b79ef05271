use borrow.Author.Rules.{rules}
use Rattle.words.proofs.Words.{each_tells}
use Rattle.words.proofs.bytes_are_zero.Goals as goal

pub returns : goal.returns
returns c = each_tells c.args.s.now c.all.result (search rules)

use Rattle.sync.proofs.NumberList.{two_puts}
use Rattle.sync.proofs.sizes.put_figures.Goals as goal

pub returns : goal.returns
returns c = two_puts _ _ _ _ c.requires c.put_word.ensures c.put_word-2.ensures

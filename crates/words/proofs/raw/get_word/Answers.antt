use mathlib.Core.Path.{◌∙◌}
use Rattle.words.proofs.Words.{word_here}
use Rattle.words.proofs.raw.get_word.Goals as goal

pub returns : goal.returns
returns c = c.from_be_bytes.ensures ∙ word_here c.args.s.now c.args.at

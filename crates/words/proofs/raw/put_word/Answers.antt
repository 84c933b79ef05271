use mathlib.Core.Path.{◌∙◌, ap}
use Rattle.words.specs.Areas.{put_at}
use Rattle.words.proofs.Puts.{word_bytes}
use Rattle.words.proofs.raw.put_word.Goals as goal

pub returns : goal.returns
returns c = c.copy.ensures ∙ ap (put_at c.args.s.now c.args.at) (c.to_be_bytes.ensures ∙ word_bytes c.args.v)

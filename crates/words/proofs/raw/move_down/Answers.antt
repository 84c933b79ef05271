use mathlib.Core.Path.{◌∙◌}
use Rattle.words.proofs.Moves.{copied_down}
use Rattle.words.proofs.raw.move_down.Goals as goal

pub returns : goal.returns
returns c = c.copy_within.ensures.after ∙ copied_down _ _ _ _ c.requires.0 c.requires.1

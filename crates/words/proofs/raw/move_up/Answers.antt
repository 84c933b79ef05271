use mathlib.Core.Path.{◌∙◌}
use Rattle.words.proofs.Moves.{copied_up}
use Rattle.words.proofs.raw.move_up.Goals as goal

pub returns : goal.returns
returns c = c.copy_within.ensures.after ∙ copied_up _ _ _ _ c.requires.0

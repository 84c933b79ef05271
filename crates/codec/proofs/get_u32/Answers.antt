use mathlib.Core.Path.{◌∙◌}
use Rattle.codec.proofs.LastByte.{u32_within}
use Rattle.codec.proofs.get_u32.Goals as goal

pub returns : goal.returns
returns c = c.get_within.ensures ∙ u32_within _ _

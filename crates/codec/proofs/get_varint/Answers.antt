use mathlib.Core.Path.{◌∙◌}
use Rattle.codec.proofs.LastByte.{varint_within}
use Rattle.codec.proofs.get_varint.Goals as goal

pub returns : goal.returns
returns c = c.get_within.ensures ∙ varint_within _ _

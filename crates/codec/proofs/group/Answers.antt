use mathlib.Core.Path.{◌∙◌}
use lib.Bits.{and_mask}
use Rattle.codec.proofs.group.Goals as goal

pub returns : goal.returns
returns c = c.from.ensures ∙ and_mask c.args.byte 7

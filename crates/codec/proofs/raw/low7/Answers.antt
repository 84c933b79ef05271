use native.Mathlib.Omega.{arith}
use lib.Bits.{and_mask, mask_lt}
use Rattle.codec.proofs.raw.low7.Goals as goal

pub overflow_cast-result : goal.overflow_cast-result
overflow_cast-result c = omega (arith, mask_lt c.args.v 7)

pub returns : goal.returns
returns c = and_mask c.args.v 7

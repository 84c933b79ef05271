use native.Mathlib.Omega.{arith}
use lib.Bits.{or_shifted_r}
use Rattle.codec.proofs.raw.more7.Goals as goal

pub returns : goal.returns
returns c = omega (arith, or_shifted_r 1 7 c.low7.result (omega arith))

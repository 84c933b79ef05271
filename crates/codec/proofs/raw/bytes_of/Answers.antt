use mathlib.Core.Path.{refl, ap}
use native.Mathlib.Omega.{arith}
use lib.ListN.{take, drop}
use Rattle.codec.specs.Reading.{part_of}
use Rattle.codec.proofs.raw.bytes_of.Goals as goal

pub returns : goal.returns
unfolding part_of
returns c = (ap (λ n. take n (drop c.args.part.start c.args.s.now)) (omega arith), refl)

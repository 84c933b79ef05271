use Rattle.std.proofs.Common.{arith}
use Rattle.std.proofs.lemmas.Bool.Decides.{nat_tests}
use Rattle.sync.specs.Delta.{at_least_one}
use Rattle.sync.proofs.chunk.at_least_one.Goals as goal

pub returns : goal.returns
unfolding at_least_one
returns c = grind (arith, nat_tests)

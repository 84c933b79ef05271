use Rattle.std.proofs.Common.{arith}
use Rattle.std.proofs.lemmas.Bool.Decides.{nat_tests}
use Rattle.peer.specs.Peers.{rebased}
use Rattle.peer.proofs.rebased.Goals as goal

pub returns : goal.returns
unfolding rebased
returns c = grind (arith, nat_tests)

use Prim.Native.Nat.{◌-◌}
use lib.ListN.{length}
use Rattle.codec.proofs.VarintLoop.{Going}
use Rattle.codec.proofs.get_within.Given as goal

abbrev pub invariant-loop-i : goal.invariant-loop-i
invariant-loop-i l = Going l.s l.at l.value l.shift l.i

abbrev pub decreases-loop-i : goal.decreases-loop-i
decreases-loop-i l = length l.s - l.i

use Prim.Native.Nat.{◌+◌}
use Rattle.words.specs.Choice.{Tells}
use Rattle.words.specs.Inside.Moves.{ZeroIn}
use Rattle.words.proofs.raw.block_is_zero.Given as goal

abbrev pub invariant-loop-x : goal.invariant-loop-x
invariant-loop-x l = Tells (ZeroIn l.s l.at (l.at + l.x-index)) l.zero

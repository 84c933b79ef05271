use Rattle.words.specs.Inside.Moves.{ZeroIn}
use Rattle.words.proofs.raw.blocks_are_zero.Given as goal

abbrev pub invariant-loop-i : goal.invariant-loop-i
invariant-loop-i l = ZeroIn l.s 0 l.i

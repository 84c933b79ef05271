use Rattle.std.proofs.Common.{◌+◌}
use borrow.Author.Rules.{rules}
use native.Mathlib.Omega.{arith}
use Rattle.words.specs.Choice.Tells.{is_false}
use Rattle.words.proofs.Words.{in_more, zero_not_in, last_tells}
use Rattle.words.proofs.raw.blocks_are_zero.Goals as goal
use Rattle.words.proofs.raw.blocks_are_zero.Goals.{else-loop-i-test, then-loop-i-test+else-not-block_is_zero+else-n-i-end}

pub returns-then-not-block_is_zero : goal.returns-then-not-block_is_zero
returns-then-not-block_is_zero c = is_false (zero_not_in c.args.s.now _ _ _ (search rules) c.block_is_zero.ensures c.if-not-block_is_zero.true)

pub returns : goal.returns
returns c =
    elim c.loop-i-test.branch [
      | else-loop-i-test w ↦ last_tells c.args.s.now c.loop-i.i c.args.n _ (search rules) (omega arith) c.loop-i.invariant c.block_is_zero-2.ensures
      | then-loop-i-test+else-not-block_is_zero+else-n-i-end w ↦
          last_tells c.args.s.now (c.loop-i.i + c.args.n) c.args.n _ (search rules) (omega arith)
          (in_more c.args.s.now _ _ _ _ w.block_is_zero.ensures w.if-not-block_is_zero.false c.loop-i.invariant) c.block_is_zero-2.ensures
    ]

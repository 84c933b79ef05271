use borrow.Author.Rules.{rules}
use native.Mathlib.Omega.{arith}
use Rattle.clock.proofs.ClockArea.{store_start, store_turn, store_end}
use Rattle.clock.proofs.raw.store_clock.Goals as goal

pub loop-i-init : goal.loop-i-init
loop-i-init c = (search rules, store_start _ _ _)

pub loop-i-preserved : goal.loop-i-preserved
loop-i-preserved c =
    (search rules, store_turn c.args.c.now (omega arith) (omega arith) c.loop-i.i (search rules) _ _ _ _ c.args.at (omega (arith, c.requires, c.put_word.auto.s)) c.loop-i.invariant.1 c.put_word-in-loop-i.ensures c.put_word-in-loop-i-2.ensures)

pub returns : goal.returns
returns c =
    store_end c.args.c.now (omega arith) (omega arith) _ _ _ c.args.at c.loop-i.i c.requires (omega arith) c.put_word.ensures c.loop-i.invariant.1

use borrow.Author.Rules.{rules}
use native.Mathlib.Omega.{arith}
use lib.Seq.{paste-zero}
use Rattle.words.proofs.Puts.{copy_turn, copy_done}
use Rattle.words.proofs.raw.copy.Goals as goal

pub loop-i-init : goal.loop-i-init
loop-i-init c = paste-zero _ c.args.at c.args.s.now

pub loop-i-preserved : goal.loop-i-preserved
loop-i-preserved c = copy_turn _ _ _ _ _ c.loop-i.invariant (search rules) (search rules)

pub returns : goal.returns
returns c = copy_done _ _ _ _ c.loop-i.i c.loop-i.invariant (omega arith)

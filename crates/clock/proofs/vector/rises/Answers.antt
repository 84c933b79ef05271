use borrow.Author.Rules.{rules}
use native.Mathlib.Omega.{arith}
use Rattle.clock.proofs.ClockRules.{rises_start, rises_turn, rises_not, rises_end}
use Rattle.clock.proofs.vector.rises.Goals as goal

pub loop-i-init : goal.loop-i-init
loop-i-init c = rises_start _

pub returns-then-authors-i : goal.returns-then-authors-i
returns-then-authors-i c = rises_not c.args.authors.now c.loop-i.i (search rules) c.loop-i.invariant (omega arith)

pub loop-i-preserved : goal.loop-i-preserved
loop-i-preserved c = rises_turn c.args.authors.now c.loop-i.i (search rules) c.loop-i.invariant (omega arith)

pub returns : goal.returns
returns c = rises_end c.args.authors.now c.loop-i.i (omega arith) c.loop-i.invariant

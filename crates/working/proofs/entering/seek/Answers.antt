use borrow.Author.Rules.{rules}
use mathlib.Core.Path.{refl}
use native.Mathlib.Omega.{arith}
use Rattle.working.proofs.FirstReference.{first_start, first_here, first_turn, first_end}
use Rattle.working.proofs.entering.seek.Goals as goal

pub loop-i-init : goal.loop-i-init
loop-i-init c = λ held batch s g. first_start _ _ _

pub returns-then-same_id : goal.returns-then-same_id
returns-then-same_id c = λ held batch s g. first_here _ _ _ _ _ _ (search rules) refl (c.same_id.ensures held batch _ (g.keys _ (search rules))) c.if-same_id.true (c.loop-i.invariant held batch s g)

pub loop-i-preserved : goal.loop-i-preserved
loop-i-preserved c = λ held batch s g. first_turn _ _ _ _ _ _ (search rules) refl (c.same_id.ensures held batch _ (g.keys _ (search rules))) c.if-same_id.false (c.loop-i.invariant held batch s g)

pub returns : goal.returns
returns c = λ held batch s g. first_end _ _ _ _ (omega arith) (c.loop-i.invariant held batch s g)

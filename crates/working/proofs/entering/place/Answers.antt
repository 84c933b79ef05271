use borrow.Author.Rules.{rules}
use mathlib.Core.Path.{refl}
use native.Mathlib.Omega.{arith}
use Rattle.working.proofs.Entrance.{found_place, none_place}
use Rattle.working.proofs.FirstReference.{first_start, first_here, first_turn, first_end}
use Rattle.working.proofs.entering.place.Goals as goal

pub loop-i-init : goal.loop-i-init
loop-i-init c = λ held batch s g. first_start _ _ _

pub returns-then-goes_before : goal.returns-then-goes_before
returns-then-goes_before c = record { is = λ held batch s g. found_place _ _ _ (first_here _ _ _ _ _ _ (search rules) refl (c.goes_before.ensures held batch _ (g.keys _ (search rules))) c.if-goes_before.true (c.loop-i.invariant held batch s g)); within = search rules }

pub loop-i-preserved : goal.loop-i-preserved
loop-i-preserved c = λ held batch s g. first_turn _ _ _ _ _ _ (search rules) refl (c.goes_before.ensures held batch _ (g.keys _ (search rules))) c.if-goes_before.false (c.loop-i.invariant held batch s g)

pub returns : goal.returns
returns c = record { is = λ held batch s g. none_place _ _ (first_end _ _ _ c.loop-i.i (omega arith) (c.loop-i.invariant held batch s g)); within = search rules }

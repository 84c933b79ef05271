use borrow.Author.Rules.{rules}
use native.Mathlib.Omega.{arith}
use mathlib.Core.Path.{refl}
use Rattle.clock.proofs.ClockRules.{clear_turn, clear_not, clear_end}
use Rattle.clock.proofs.vector.is_clear.Goals as goal

pub loop-place-init : goal.loop-place-init
loop-place-init c = refl

pub returns-then-place-ne0 : goal.returns-then-place-ne0
returns-then-place-ne0 c = clear_not c.args.places.now c.loop-place.place-index (search rules) c.loop-place.invariant c.if-place-ne0.true

pub loop-place-preserved : goal.loop-place-preserved
loop-place-preserved c = clear_turn c.args.places.now c.loop-place.place-index (search rules) c.loop-place.invariant c.if-place-ne0.false

pub returns : goal.returns
returns c = clear_end c.args.places.now c.loop-place.place-index (omega arith) c.loop-place.invariant

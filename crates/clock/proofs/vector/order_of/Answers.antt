use Rattle.clock.specs.Vector.{order_of}
use Rattle.clock.proofs.vector.order_of.Goals as goal

pub returns-in-true-true : goal.returns-in-true-true
unfolding order_of
returns-in-true-true c = let at = c.in-true-true in rw (at.is-0, at.is-1)

pub returns-in-true-false : goal.returns-in-true-false
unfolding order_of
returns-in-true-false c = let at = c.in-true-false in rw (at.is-0, at.is-1)

pub returns-in-false-true : goal.returns-in-false-true
unfolding order_of
returns-in-false-true c = let at = c.in-false-true in rw (at.is-0, at.is-1)

pub returns-in-false-false : goal.returns-in-false-false
unfolding order_of
returns-in-false-false c = let at = c.in-false-false in rw (at.is-0, at.is-1)

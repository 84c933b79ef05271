use mathlib.Core.Path.{◌∙◌}
use Rattle.error.proofs.Exits.{handed_on}
use Rattle.clock.proofs.ClockRules.{checked, unsound}
use Rattle.clock.proofs.CausalOrders.{compare_refused, compare_told}
use Rattle.clock.proofs.vector.VectorClock.compare.Goals as goal

pub returns-in_err-check : goal.returns-in_err-check
returns-in_err-check c =
    let no = unsound c.args.self.now c.in_err-check.ensures in
    rw (handed_on c.from_residual.ensures, no.0) (compare_refused c.args.self.now c.args.other.now (rw no.1))

pub returns-in_err-check-2 : goal.returns-in_err-check-2
returns-in_err-check-2 c =
    let no = unsound c.args.other.now c.in_err-check-2.ensures in
    rw (handed_on c.from_residual-in_err-check-2.ensures, no.0) (compare_refused c.args.self.now c.args.other.now (rw (checked c.args.self.now c.in_ok-check.ensures, no.1)))

pub covers-over-requires : goal.covers-over-requires
covers-over-requires c = (checked c.args.self.now c.in_ok-check.ensures, checked c.args.other.now c.in_ok-check-2.ensures)

pub covers-under-requires : goal.covers-under-requires
covers-under-requires c = (checked c.args.other.now c.in_ok-check-2.ensures, checked c.args.self.now c.in_ok-check.ensures)

pub returns : goal.returns
returns c =
    compare_told c.args.self.now c.args.other.now (checked c.args.self.now c.in_ok-check.ensures) (checked c.args.other.now c.in_ok-check-2.ensures) _
    (c.order_of.ensures ∙ rw (c.covers-over.ensures, c.covers-under.ensures))

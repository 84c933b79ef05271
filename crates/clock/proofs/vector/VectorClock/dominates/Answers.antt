use Rattle.error.proofs.Exits.{handed_on}
use Rattle.clock.specs.Vector.{dominates_call}
use Rattle.clock.proofs.ClockRules.{checked, unsound}
use Rattle.clock.proofs.vector.VectorClock.dominates.Goals as goal

pub returns-in_err-check : goal.returns-in_err-check
unfolding dominates_call
returns-in_err-check c = let no = unsound c.args.self.now c.in_err-check.ensures in rw (handed_on c.from_residual.ensures, no.0, no.1)

pub returns-in_err-check-2 : goal.returns-in_err-check-2
unfolding dominates_call
returns-in_err-check-2 c =
    let no = unsound c.args.other.now c.in_err-check-2.ensures in
    rw (handed_on c.from_residual-in_err-check-2.ensures, checked c.args.self.now c.in_ok-check.ensures, no.0, no.1)

pub covers-requires : goal.covers-requires
covers-requires c = (checked c.args.self.now c.in_ok-check.ensures, checked c.args.other.now c.in_ok-check-2.ensures)

pub returns : goal.returns
unfolding dominates_call
returns c = rw (checked c.args.self.now c.in_ok-check.ensures, checked c.args.other.now c.in_ok-check-2.ensures, c.covers.ensures)

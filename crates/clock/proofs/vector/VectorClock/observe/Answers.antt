use Rattle.error.proofs.Exits.{handed_on}
use Rattle.clock.specs.Vector.{observe_call}
use Rattle.clock.proofs.ClockRules.{checked, unsound}
use Rattle.clock.proofs.vector.VectorClock.observe.Goals as goal

pub returns-in_err-check : goal.returns-in_err-check
unfolding observe_call
returns-in_err-check c = let no = unsound c.args.self.now c.in_err-check.ensures in rw (handed_on c.from_residual.ensures, no.0, no.1)

pub observe-requires : goal.observe-requires
observe-requires c = checked c.args.self.now c.in_ok-check.ensures

pub returns : goal.returns
unfolding observe_call
returns c = rw (checked c.args.self.now c.in_ok-check.ensures) c.observe.ensures

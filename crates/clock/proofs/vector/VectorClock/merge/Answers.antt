use Rattle.error.proofs.Exits.{handed_on}
use Rattle.clock.proofs.ClockRules.{checked, unsound}
use Rattle.clock.proofs.CausalOrders.{merge_refused, merge_told}
use Rattle.clock.proofs.vector.VectorClock.merge.Goals as goal

pub returns-in_err-check : goal.returns-in_err-check
returns-in_err-check c =
    let no = unsound c.args.self.now c.in_err-check.ensures in
    rw (handed_on c.from_residual.ensures, no.0) (merge_refused c.args.self.now c.args.other.now (rw no.1))

pub returns-in_err-check-2 : goal.returns-in_err-check-2
returns-in_err-check-2 c =
    let no = unsound c.args.other.now c.in_err-check-2.ensures in
    rw (handed_on c.from_residual-in_err-check-2.ensures, no.0) (merge_refused c.args.self.now c.args.other.now (rw (checked c.args.self.now c.in_ok-check.ensures, no.1)))

pub merged-requires : goal.merged-requires
merged-requires c = (checked c.args.self.now c.in_ok-check.ensures, checked c.args.other.now c.in_ok-check-2.ensures)

pub returns-in_err-self : goal.returns-in_err-self
returns-in_err-self c =
    rw (handed_on c.from_residual-in_err-self.ensures)
    (merge_told c.args.self.now c.args.other.now (checked c.args.self.now c.in_ok-check.ensures) (checked c.args.other.now c.in_ok-check-2.ensures) _ _ c.in_err-self.ensures)

pub returns : goal.returns
returns c = merge_told c.args.self.now c.args.other.now (checked c.args.self.now c.in_ok-check.ensures) (checked c.args.other.now c.in_ok-check-2.ensures) _ _ c.in_ok-self.ensures

use mathlib.Core.Path.{refl}
use native.Mathlib.Omega.{arith}
use Rattle.error.proofs.Exits.{handed_on}
use Rattle.replicated_log.specs.Areas.{areas}
use Rattle.sync.specs.Delta.{delta_call}
use Rattle.sync.proofs.CallTests.{counted, ready, list_refused, list_short, delta_done}
use Rattle.sync.proofs.calculate_delta.Goals as goal

pub returns-in_err-n : goal.returns-in_err-n
unfolding delta_call
returns-in_err-n c = rw (handed_on c.from_residual.ensures) (list_refused _ _ _ _ _ _ c.in_err-n.ensures refl)

pub returns-then-output-n : goal.returns-then-output-n
unfolding delta_call
returns-then-output-n c = list_short _ _ _ _ _ _ (counted _ _ _ c.in_ok-n.ensures) c.if-output-n.true refl

pub load_clock-clock-requires : goal.load_clock-clock-requires
load_clock-clock-requires c =
    let args = c.args in
    omega (arith, (counted (areas args.rows.now args.held.now args.head.now) _ _ c.in_ok-n.ensures).long)

pub write_delta-requires : goal.write_delta-requires
write_delta-requires c =
    let args = c.args in
    let store = areas args.rows.now args.held.now args.head.now in
    (ready store _ _ _ (counted store _ _ c.in_ok-n.ensures) c.load_clock-clock.ensures, omega (arith, c.if-output-n.false))

pub returns : goal.returns
returns c =
    let args = c.args in
    let store = areas args.rows.now args.held.now args.head.now in
    delta_done store _ _ _ _ _ _ (counted store _ _ c.in_ok-n.ensures) c.load_clock-clock.ensures (omega (arith, c.if-output-n.false)) c.write_delta.ensures

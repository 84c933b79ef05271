use mathlib.Core.Path.{sym}
use native.Mathlib.Omega.{arith}
use Rattle.error.proofs.Exits.{handed_on}
use Rattle.codec.proofs.ReadSteps.{on, off}
use Rattle.message.specs.Reading.{get_signed}
use Rattle.message.proofs.SignedRows.{clock_read, clock_refused, few_deps, no_row, row_is, op_fits, made_fits}
use Rattle.message.proofs.reader.get_signed_op.Goals as goal

pub returns-in_err-head-clause-is : goal.returns-in_err-head-clause-is
unfolding get_signed
returns-in_err-head-clause-is c = no_row _ (handed_on c.from_residual.ensures) _ (off _ (sym c.in_err-head.ensures))

pub returns-in_err-causes-clause-is : goal.returns-in_err-causes-clause-is
unfolding get_signed
returns-in_err-causes-clause-is c =
    no_row _ (handed_on c.from_residual-in_err-causes.ensures) _ (on _ (sym c.in_ok-head.ensures) (off _ (clock_refused _ c.in_err-causes.ensures)))

pub returns-in_err-payload-clause-is : goal.returns-in_err-payload-clause-is
unfolding get_signed
returns-in_err-payload-clause-is c =
    no_row _ (handed_on c.from_residual-in_err-payload.ensures) _
    (on _ (sym c.in_ok-head.ensures) (on _ (clock_read _ c.in_ok-causes.ensures).is (off _ (sym c.in_err-payload.ensures))))

pub returns-in_err-signature-clause-is : goal.returns-in_err-signature-clause-is
unfolding get_signed
returns-in_err-signature-clause-is c =
    no_row _ (handed_on c.from_residual-in_err-signature.ensures) _
    (on _ (sym c.in_ok-head.ensures) (on _ (clock_read _ c.in_ok-causes.ensures).is (on _ (sym c.in_ok-payload.ensures) (off _ (sym c.in_err-signature.ensures)))))

pub deps_of-requires : goal.deps_of-requires
deps_of-requires c = few_deps _ _ (clock_read _ c.in_ok-causes.ensures)

pub returns-clause-is : goal.returns-clause-is
unfolding get_signed
returns-clause-is c =
    let clock = clock_read _ c.in_ok-causes.ensures in
    on _ (sym c.in_ok-head.ensures)
    (on _ clock.is (on _ (sym c.in_ok-payload.ensures) (on _ (sym c.in_ok-signature.ensures) (row_is _ _ _ _ _ _ c.deps_of.ensures.0 clock.clock))))

pub returns-clause-fits : goal.returns-clause-fits
returns-clause-fits c =
    let clock = clock_read _ c.in_ok-causes.ensures in
    let few = few_deps _ _ clock in
    λ o next e.
    made_fits _
    (op_fits _ _ _ _ _ _ _ _ _ (omega (arith, c.deps_of.ensures.1, few)) (sym c.in_ok-payload.ensures) (sym c.in_ok-signature.ensures)) e

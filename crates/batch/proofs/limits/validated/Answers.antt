use Rattle.error.proofs.Exits.{handed_on}
use Rattle.batch.proofs.Validation.{goes_refused, goes_done}
use Rattle.batch.proofs.limits.validated.Goals as goal

pub returns-in_err-before : goal.returns-in_err-before
returns-in_err-before c = rw (handed_on c.from_residual.ensures) (goes_refused c.in_err-before.was)

pub returns : goal.returns
returns c = goes_done c.in_ok-before.was c.validate.ensures

use Rattle.error.proofs.Exits.{handed_on}
use Rattle.merge.proofs.CallAnswers.{quota_refused}
use Rattle.merge.proofs.deciding.judge.Goals as goal

pub returns-in_err-quotas : goal.returns-in_err-quotas
returns-in_err-quotas c = rw (handed_on c.from_residual.ensures) (quota_refused c.in_err-quotas.ensures)

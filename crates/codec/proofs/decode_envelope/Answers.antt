use mathlib.Core.Path.{sym, ◌∙◌}
use Rattle.error.proofs.Exits.{handed_on}
use Rattle.codec.proofs.ReadSteps.{sender_read, sender_refused}
use Rattle.codec.proofs.decode_envelope.Goals as goal

pub returns-in_err-sender : goal.returns-in_err-sender
returns-in_err-sender c = handed_on c.from_residual.ensures ∙ sender_refused _ (sym c.in_err-sender.ensures)

pub returns : goal.returns
returns c = c.decode_parts.ensures ∙ sender_read _ (sym c.in_ok-sender.ensures)

use mathlib.Core.Path.{sym, ◌∙◌}
use Rattle.error.proofs.Exits.{handed_on}
use Rattle.message.proofs.Bodies.{delta_no_count, delta_no_rows, delta_rows_lem}
use Rattle.message.proofs.reader.get_delta_body.Goals as goal

pub returns-in_err-count : goal.returns-in_err-count
returns-in_err-count c = handed_on c.from_residual.ensures ∙ delta_no_count _ _ (sym c.in_err-count.ensures)

pub returns-in_err-next : goal.returns-in_err-next
returns-in_err-next c = handed_on c.from_residual-in_err-next.ensures ∙ delta_no_rows _ _ (sym c.in_ok-count.ensures) c.in_err-next.ensures

pub returns : goal.returns
returns c = delta_rows_lem _ _ (sym c.in_ok-count.ensures) c.in_ok-next.ensures

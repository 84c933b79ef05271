use mathlib.Core.Path.{refl, sym, ◌∙◌}
use Rattle.error.proofs.Exits.{handed_on}
use Rattle.codec.proofs.ReadSteps.{on, off}
use Rattle.message.specs.Reading.{get_pair}
use Rattle.message.proofs.reader.get_pair.Goals as goal

pub returns-in_err-author : goal.returns-in_err-author
unfolding get_pair
returns-in_err-author c = handed_on c.from_residual.ensures ∙ off _ (sym c.in_err-author.ensures)

pub returns-in_err-number : goal.returns-in_err-number
unfolding get_pair
returns-in_err-number c = handed_on c.from_residual-in_err-number.ensures ∙ on _ (sym c.in_ok-author.ensures) (off _ (sym c.in_err-number.ensures))

pub returns : goal.returns
unfolding get_pair
returns c = on _ (sym c.in_ok-author.ensures) (on _ (sym c.in_ok-number.ensures) refl)

use mathlib.Core.Path.{refl, sym, ◌∙◌}
use native.Mathlib.Omega.{arith}
use Rattle.error.proofs.Exits.{handed_on}
use Rattle.codec.proofs.ReadSteps.{on, off}
use Rattle.message.specs.Reading.{bytes_within}
use Rattle.message.proofs.CountedReads.{count_got}
use Rattle.message.proofs.reader.bytes_within.Goals as goal

pub returns-in_err-count : goal.returns-in_err-count
unfolding bytes_within
returns-in_err-count c = handed_on c.from_residual.ensures ∙ off _ (sym c.in_err-count.ensures)

pub overflow_add-result : goal.overflow_add-result
overflow_add-result c = omega (arith, (count_got _ _ _ _ _ _ (sym c.in_ok-count.ensures)).left)

pub returns : goal.returns
unfolding bytes_within
returns c = on _ (sym c.in_ok-count.ensures) refl

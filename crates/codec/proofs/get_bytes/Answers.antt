use mathlib.Core.Path.{refl, sym, ◌∙◌}
use native.Mathlib.Omega.{arith}
use Rattle.error.proofs.Exits.{handed_on}
use Rattle.codec.specs.Reading.{get_bytes}
use Rattle.codec.proofs.ReadSteps.{on, off}
use Rattle.codec.proofs.RoundTrip.{count_inside}
use Rattle.codec.proofs.get_bytes.Goals as goal

pub returns-in_err-count : goal.returns-in_err-count
unfolding get_bytes
returns-in_err-count c = handed_on c.from_residual.ensures ∙ off _ (sym c.in_err-count.ensures)

pub overflow_add-result : goal.overflow_add-result
overflow_add-result c = omega (arith, count_inside _ _ _ _ _ (sym c.in_ok-count.ensures))

pub returns : goal.returns
unfolding get_bytes
returns c = on _ (sym c.in_ok-count.ensures) refl

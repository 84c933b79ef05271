use mathlib.Core.Path.{refl, sym, ◌∙◌}
use Rattle.error.proofs.Exits.{handed_on}
use Rattle.codec.specs.Inside.EnvelopeParts.{read_parts}
use Rattle.codec.proofs.ReadSteps.{on, off, shut, next, halt}
use Rattle.codec.proofs.decode_parts.Goals as goal

pub returns-in_err-body : goal.returns-in_err-body
unfolding read_parts
returns-in_err-body c = handed_on c.from_residual.ensures ∙ shut _ (off _ (sym c.in_err-body.ensures)) refl

pub returns-in_err-sig : goal.returns-in_err-sig
unfolding read_parts
returns-in_err-sig c = handed_on c.from_residual-in_err-sig.ensures ∙ shut _ (on _ (sym c.in_ok-body.ensures) (off _ (sym c.in_err-sig.ensures))) refl

pub returns-in_err-finish : goal.returns-in_err-finish
unfolding read_parts
returns-in_err-finish c = handed_on c.from_residual-in_err-finish.ensures ∙ shut _ (on _ (sym c.in_ok-body.ensures) (on _ (sym c.in_ok-sig.ensures) refl)) (halt _ (sym c.in_err-finish.ensures))

pub returns : goal.returns
unfolding read_parts
returns c = shut _ (on _ (sym c.in_ok-body.ensures) (on _ (sym c.in_ok-sig.ensures) refl)) (next _ (sym c.in_ok-finish.ensures) refl)

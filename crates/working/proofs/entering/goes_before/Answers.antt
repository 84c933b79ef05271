use mathlib.Core.Path.{◌∙◌}
use Rattle.working.proofs.ContentEquality.{key_order, as_before}
use Rattle.working.proofs.entering.goes_before.Goals as goal

pub returns : goal.returns
returns c = λ held batch k o. as_before held batch k _ (rw (← c.key_at.ensures) at o) _ _ (c.lt.ensures ∙ key_order c.args.key c.key_at.result)

use mathlib.Core.Path.{refl, sym, ◌∙◌}
use mathlib.Core.Logic.{⊎_elim}
use native.Mathlib.Omega.{arith}
use borrow.Author.Rules.{rules}
use borrow.Author.Tests.{ltb-true, ltb-false}
use Rattle.codec.proofs.VarintLoop.{start, ended, many, big, room, last, again}
use Rattle.codec.proofs.LastByte.{padding, above, padded, shortest_read, within_refused}
use Rattle.codec.proofs.get_within.Goals as goal

pub loop-i-init : goal.loop-i-init
loop-i-init c = start _ _

pub returns-then-shift-ge64 : goal.returns-then-shift-ge64
returns-then-shift-ge64 c = within_refused _ _ _ (many c.loop-i.invariant (search rules) (search rules))

pub returns-then-part-gt1 : goal.returns-then-part-gt1
returns-then-part-gt1 c = within_refused _ _ _ (big c.loop-i.invariant (search rules) (search rules) (omega (arith, ltb-true)))

pub with_group-value-requires : goal.with_group-value-requires
with_group-value-requires c =
    let going = c.loop-i.invariant in
    (search rules, going.below, room going _ (omega arith) (search rules) (λ e. ⊎_elim (λ w. omega (arith, ltb-false)) (λ w. omega arith) c.else-shift-eq63.either))

pub returns-then-value-most : goal.returns-then-value-most
returns-then-value-most c =
    let going = c.loop-i.invariant in
    let read =
    sym (last going c.group-part.result c.with_group-value.result (omega arith) (omega arith) (search rules) (search rules) (omega arith) (ltb-true _ _ (sym c.is_last.ensures ∙ c.if-is_last.true))) in
    above _ _ _ _ read _ (omega arith)

pub returns-then-is_padding : goal.returns-then-is_padding
returns-then-is_padding c =
    let going = c.loop-i.invariant in
    let read =
    sym (last going c.group-part.result c.with_group-value.result (omega arith) (omega arith) (search rules) (search rules) (omega arith) (ltb-true _ _ (sym c.is_last.ensures ∙ c.if-is_last.true))) in
    padded _ _ _ _ read _ (omega arith) (sym (padding _ _ _ _ read _ going.n _ refl going.place going.shift) ∙ sym c.is_padding.ensures ∙ c.if-is_padding.true)

pub returns-then-is_last : goal.returns-then-is_last
returns-then-is_last c =
    let going = c.loop-i.invariant in
    let read =
    sym (last going c.group-part.result c.with_group-value.result (omega arith) (omega arith) (search rules) (search rules) (omega arith) (ltb-true _ _ (sym c.is_last.ensures ∙ c.if-is_last.true))) in
    shortest_read _ _ _ _ read _ (omega arith) (sym (padding _ _ _ _ read _ going.n _ refl going.place going.shift) ∙ sym c.is_padding.ensures ∙ c.if-is_padding.false)

pub loop-i-preserved : goal.loop-i-preserved
loop-i-preserved c = again c.loop-i.invariant c.group-part.result _ (omega arith) (omega arith) (search rules) (search rules) (omega arith) (ltb-false _ _ (sym c.is_last.ensures ∙ c.if-is_last.false))

pub returns : goal.returns
returns c = within_refused _ _ _ (ended c.loop-i.invariant (search rules))

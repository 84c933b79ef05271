use mathlib.Core.Path.{sym, ◌∙◌}
use native.Mathlib.Omega.{arith}
use Rattle.error.proofs.Exits.{handed_on}
use Rattle.message.proofs.Bodies.{body_tag, body_hello, body_ack, body_nonce, body_ping, body_pong}
use Rattle.message.proofs.reader.get_body.Goals as goal

pub returns-then-tag-gt4 : goal.returns-then-tag-gt4
returns-then-tag-gt4 c = body_tag _ _ _ (omega arith)

pub returns-in_err-clock : goal.returns-in_err-clock
returns-in_err-clock c = handed_on c.from_residual.ensures ∙ body_hello _ _ _ c.if-tag-eq0.true c.in_err-clock.ensures

pub returns-then-tag-eq0 : goal.returns-then-tag-eq0
returns-then-tag-eq0 c = body_hello _ _ _ c.if-tag-eq0.true c.in_ok-clock.ensures

pub returns-in_err-clock-2 : goal.returns-in_err-clock-2
returns-in_err-clock-2 c = handed_on c.from_residual-in_err-clock-2.ensures ∙ body_ack _ _ _ c.if-tag-eq2.true c.in_err-clock-2.ensures

pub returns-then-tag-eq2 : goal.returns-then-tag-eq2
returns-then-tag-eq2 c = body_ack _ _ _ c.if-tag-eq2.true c.in_ok-clock-2.ensures

pub returns-in_err-nonce : goal.returns-in_err-nonce
returns-in_err-nonce c =
    handed_on c.from_residual-in_err-nonce.ensures
    ∙ body_nonce _ _ _ (omega arith) c.if-tag-eq0.false c.if-tag-eq1.false c.if-tag-eq2.false (sym c.in_err-nonce.ensures)

pub returns-then-tag-eq3 : goal.returns-then-tag-eq3
returns-then-tag-eq3 c = body_ping _ _ _ c.if-tag-eq3.true (sym c.in_ok-nonce.ensures)

pub returns : goal.returns
returns c =
    body_pong _ _ _ (omega arith) c.if-tag-eq0.false c.if-tag-eq1.false c.if-tag-eq2.false c.if-tag-eq3.false (sym c.in_ok-nonce.ensures)

use mathlib.Core.Path.{sym, ◌∙◌}
use native.Mathlib.Omega.{arith}
use Rattle.error.proofs.Exits.{handed_on}
use Rattle.message.proofs.CountedReads.{count_got}
use Rattle.message.proofs.ClockPairs.{entering_none, entered_all, entering_stops, entering_more, entering_room, no_count, counted}
use Rattle.message.proofs.reader.get_clock.Goals as goal

pub returns-in_err-count : goal.returns-in_err-count
returns-in_err-count c = handed_on c.from_residual.ensures ∙ no_count _ _ _ (sym c.in_err-count.ensures)

pub loop-init : goal.loop-init
loop-init c = entering_none _ _ _ (omega (arith, c.requires, (count_got _ _ _ _ _ _ (sym c.in_ok-count.ensures)).few)) c.new-clock.ensures

pub returns-in_err-author : goal.returns-in_err-author
returns-in_err-author c =
    handed_on c.from_residual-in_err-author.ensures
    ∙ counted _ _ _ (sym c.in_ok-count.ensures) (entering_stops c.loop.invariant c.loop-test.true (sym c.in_err-author.ensures))

pub returns-in_err-enter : goal.returns-in_err-enter
returns-in_err-enter c =
    absurd (entering_room c.loop.invariant c.loop-test.true _ _ _ (sym c.in_ok-author.ensures) c.enter.ensures c.in_err-enter.was)

pub loop-preserved : goal.loop-preserved
loop-preserved c = entering_more c.loop.invariant c.loop-test.true _ _ _ (sym c.in_ok-author.ensures) c.enter.ensures

pub returns : goal.returns
returns c = counted _ _ _ (sym c.in_ok-count.ensures) (entered_all c.loop.invariant c.loop-test.false)

use mathlib.Core.Path.{sym, ◌∙◌}
use native.Mathlib.Omega.{arith}
use Rattle.clock.proofs.HybridLaws.{now_moved, now_over}
use Rattle.clock.proofs.hybrid.HybridClock.now.Goals as goal

pub returns-then-counter : goal.returns-then-counter
returns-then-counter c =
    let args = c.args in
    sym (now_over args.self args.physical _ _ c.greater-wall.ensures c.send_counter-counter.ensures (omega arith))

pub returns : goal.returns
returns c =
    let args = c.args in
    c.issue.ensures ∙ sym (now_moved args.self args.physical _ _ c.greater-wall.ensures c.send_counter-counter.ensures (omega arith))

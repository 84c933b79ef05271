use mathlib.Core.Path.{sym}
use native.Mathlib.Omega.{arith}
use Rattle.clock.proofs.HybridLaws.{update_ahead, update_moved, update_full}
use Rattle.clock.proofs.hybrid.HybridClock.update.Goals as goal

pub returns-then-remote_wall-saturating_add : goal.returns-then-remote_wall-saturating_add
returns-then-remote_wall-saturating_add c = sym (update_ahead _ _ _ _ c.saturating_add.ensures (omega arith))

pub returns-then-counter : goal.returns-then-counter
returns-then-counter c =
    sym
    (update_full _ _ _ _ c.saturating_add.ensures _ _ _ c.greater.ensures c.greater-wall.ensures
    c.next_counter-counter.ensures (omega arith) (omega arith))

pub returns : goal.returns
returns c =
    rw c.moved.ensures
    (sym
    (update_moved _ _ _ _ c.saturating_add.ensures _ _ _ c.greater.ensures c.greater-wall.ensures
    c.next_counter-counter.ensures (omega arith) (omega arith)))

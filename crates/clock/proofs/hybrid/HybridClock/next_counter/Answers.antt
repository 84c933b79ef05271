use mathlib.Core.Path.{sym, ◌∙◌, ap}
use mathlib.Core.Logic.{⊎_elim}
use native.Mathlib.Omega.{arith}
use Prim.Native.Nat.{ℕ, ◌+◌}
use Rattle.clock.proofs.HybridLaws.{max_below, counter_both, counter_own, counter_remote, counter_none}
use borrow.Author.Tests.{eqb-true}
use Rattle.clock.proofs.hybrid.HybridClock.next_counter.Goals as goal

pub overflow_add-result : goal.overflow_add-result
overflow_add-result c = omega (arith, max_below _ _ _ c.greater.ensures)

pub returns-then-wall-remote_wall : goal.returns-then-wall-remote_wall
returns-then-wall-remote_wall c =
    ap (λ (n : ℕ). n + 1) c.greater.ensures ∙ sym (counter_both _ _ _ c.if-wall-own_wall.true (eqb-true _ _ c.if-wall-remote_wall.true-raw))

pub returns-then-wall-own_wall-2 : goal.returns-then-wall-own_wall-2
returns-then-wall-own_wall-2 c =
    let own = c.if-wall-own_wall-2.true in
    sym (counter_own _ _ _ own (⊎_elim (λ w. w.1) (λ w. absurd (w own)) c.else-wall-own_wall.either))

pub returns-then-wall-remote_wall-2 : goal.returns-then-wall-remote_wall-2
returns-then-wall-remote_wall-2 c = sym (counter_remote _ _ _ c.if-wall-own_wall-2.false c.if-wall-remote_wall-2.true)

pub returns : goal.returns
returns c = sym (counter_none _ _ _ c.if-wall-own_wall-2.false c.if-wall-remote_wall-2.false)

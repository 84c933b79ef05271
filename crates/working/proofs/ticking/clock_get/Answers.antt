use native.Mathlib.Omega.{arith}
use Rattle.working.proofs.DrainClock.{below, get_here, get_gap}
use Rattle.working.proofs.ticking.clock_get.Goals as goal

pub bounds-numbers-i : goal.bounds-numbers-i
bounds-numbers-i c = omega (arith, below _ _ _ _ c.requires _ c.in-Ok.ensures.position)

pub returns-in-Ok : goal.returns-in-Ok
returns-in-Ok c = get_here _ _ _ _ c.requires _ c.in-Ok.ensures.position

pub returns-in-Err : goal.returns-in-Err
returns-in-Err c = get_gap _ _ _ _ c.requires _ c.in-Err.ensures.position

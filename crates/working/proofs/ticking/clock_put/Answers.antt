use borrow.Author.Rules.{rules}
use native.Mathlib.Omega.{arith}
use Rattle.working.proofs.DrainClock.{below, put_here, put_gap}
use Rattle.working.proofs.ticking.clock_put.Goals as goal

pub bounds-numbers-i : goal.bounds-numbers-i
bounds-numbers-i c = omega (arith, below _ _ _ _ c.requires.0 _ c.in-Ok.ensures.position)

pub returns-in-Ok : goal.returns-in-Ok
returns-in-Ok c = put_here _ _ _ _ c.requires.0 _ c.in-Ok.ensures.position _

pub returns-in-Err : goal.returns-in-Err
returns-in-Err c =
    put_gap _ _ _ _ c.requires.0 _ c.in-Err.ensures.position _ _ _ c.requires.1 c.requires.2 (search rules) (search rules) c.put_in.ensures c.put_in-in-Err.ensures

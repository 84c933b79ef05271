use mathlib.Core.Path.{sym}
use native.Mathlib.Omega.{arith}
use Rattle.clock.proofs.HybridLaws.{wall_stayed, wall_moved}
use Rattle.clock.specs.Hybrid.{hlc_of}
use Rattle.clock.proofs.hybrid.HybridClock.send_counter.Goals as goal

pub returns-then-wall-own_wall : goal.returns-then-wall-own_wall
returns-then-wall-own_wall c =
    let args = c.args in
    omega (arith, wall_stayed (hlc_of args.self) args.wall c.if-wall-own_wall.true)

pub returns : goal.returns
returns c = sym (wall_moved _ _ c.if-wall-own_wall.false)

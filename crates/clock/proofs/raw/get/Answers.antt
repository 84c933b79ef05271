use native.Mathlib.Omega.{arith}
use Rattle.clock.proofs.ClockEntries.{sound_few}
use Rattle.clock.proofs.ClockCalls.{here_below, get_here, get_gap}
use Rattle.clock.proofs.raw.get.Goals as goal

pub shared_ref_as_front-find : goal.shared_ref_as_front-find
shared_ref_as_front-find c = omega (arith, sound_few c.args.c.now c.requires)

pub offset_bounds-c-i : goal.offset_bounds-c-i
offset_bounds-c-i c =
    let clock = c.args.c.now in
    omega (arith, sound_few clock c.requires, here_below clock c.requires (omega arith) (omega arith) c.args.actor.0 0 _ c.in-Ok.ensures)

pub bounds-c-i : goal.bounds-c-i
bounds-c-i c =
    let clock = c.args.c.now in
    omega (arith, sound_few clock c.requires, here_below clock c.requires (omega arith) (omega arith) c.args.actor.0 0 _ c.in-Ok.ensures)

pub returns-in-Ok : goal.returns-in-Ok
returns-in-Ok c = get_here c.args.c.now c.requires (omega arith) (omega arith) c.args.actor.0 0 _ c.in-Ok.ensures

pub returns-in-Err : goal.returns-in-Err
returns-in-Err c = get_gap c.args.c.now c.requires (omega arith) (omega arith) c.args.actor.0 0 _ c.in-Err.ensures

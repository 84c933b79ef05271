use native.Mathlib.Omega.{arith}
use Rattle.clock.proofs.ClockEntries.{sound_few}
use Rattle.clock.proofs.ClockCalls.{here_below, get_here, get_gap, put_here, enter_put, enter_less}
use Rattle.clock.proofs.raw.enter.Goals as goal

pub shared_ref_as_front-find : goal.shared_ref_as_front-find
shared_ref_as_front-find c = omega (arith, sound_few c.args.c.now c.requires)

pub offset_bounds-c-i : goal.offset_bounds-c-i
offset_bounds-c-i c =
    let clock = c.args.c.now in
    omega (arith, sound_few clock c.requires, here_below clock c.requires (omega arith) (omega arith) c.args.actor.0 c.args.seq _ c.in-Ok.ensures)

pub bounds-c-i : goal.bounds-c-i
bounds-c-i c =
    let clock = c.args.c.now in
    omega (arith, sound_few clock c.requires, here_below clock c.requires (omega arith) (omega arith) c.args.actor.0 c.args.seq _ c.in-Ok.ensures)

pub offset_bounds-c-i-then-c-i : goal.offset_bounds-c-i-then-c-i
offset_bounds-c-i-then-c-i c =
    let clock = c.args.c.now in
    omega (arith, sound_few clock c.requires, here_below clock c.requires (omega arith) (omega arith) c.args.actor.0 c.args.seq _ c.in-Ok.ensures)

pub bounds-c-i-then-c-i : goal.bounds-c-i-then-c-i
bounds-c-i-then-c-i c =
    let clock = c.args.c.now in
    omega (arith, sound_few clock c.requires, here_below clock c.requires (omega arith) (omega arith) c.args.actor.0 c.args.seq _ c.in-Ok.ensures)

pub returns-then-c-i : goal.returns-then-c-i
returns-then-c-i c =
    let clock = c.args.c.now in
    let have = get_here clock c.requires (omega arith) (omega arith) c.args.actor.0 c.args.seq _ c.in-Ok.ensures in
    enter_put clock c.args.actor.0 c.args.seq _ _ have (omega arith) (put_here clock c.requires (omega arith) (omega arith) c.args.actor.0 c.args.seq _ c.in-Ok.ensures)

pub returns-else-c-i : goal.returns-else-c-i
returns-else-c-i c = enter_less c.args.c.now c.requires (omega arith) (omega arith) c.args.actor.0 c.args.seq _ c.in-Ok.ensures (omega arith)

pub returns-in-Err : goal.returns-in-Err
returns-in-Err c =
    let clock = c.args.c.now in
    let none = get_gap clock c.requires (omega arith) (omega arith) c.args.actor.0 c.args.seq _ c.in-Err.ensures in
    enter_put clock c.args.actor.0 c.args.seq 0 _ none (omega arith) c.insert.ensures

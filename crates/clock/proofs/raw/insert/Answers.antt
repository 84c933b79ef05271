use native.Mathlib.Omega.{arith}
use Rattle.clock.proofs.ClockEntries.{sound_few}
use Rattle.clock.proofs.ClockCalls.{gap_below, put_full, put_gap}
use Rattle.clock.proofs.raw.insert.Goals as goal

pub returns-then-count-eq32 : goal.returns-then-count-eq32
returns-then-count-eq32 c = put_full c.args.c.now c.requires.0 (omega arith) (omega arith) c.args.actor.0 c.args.n _ c.if-count-eq32.true c.requires.1

pub put_in-requires : goal.put_in-requires
put_in-requires c =
    let clock = c.args.c.now in
    (gap_below clock c.requires.0 (omega arith) (omega arith) c.args.actor.0 c.args.n _ c.requires.1, omega (arith, sound_few clock c.requires.0, c.if-count-eq32.false))

pub put_in-requires-2 : goal.put_in-requires-2
put_in-requires-2 c =
    let clock = c.args.c.now in
    (gap_below clock c.requires.0 (omega arith) (omega arith) c.args.actor.0 c.args.n _ c.requires.1, omega (arith, sound_few clock c.requires.0, c.if-count-eq32.false))

pub overflow_add-c : goal.overflow_add-c
overflow_add-c c = omega (arith, sound_few c.args.c.now c.requires.0)

pub returns : goal.returns
returns c =
    put_gap c.args.c.now c.requires.0 (omega arith) (omega arith) c.args.actor.0 c.args.n _ _ _ c.if-count-eq32.false c.requires.1 c.put_in.ensures c.put_in-2.ensures

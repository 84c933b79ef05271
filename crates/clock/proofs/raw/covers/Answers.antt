use native.Mathlib.Omega.{arith}
use borrow.Author.Rules.{rules}
use mathlib.Core.Path.{refl}
use Rattle.clock.proofs.ClockEntries.{sound_few}
use Rattle.clock.proofs.ClockCalls.{cover_turn, cover_not, cover_end}
use Rattle.clock.proofs.raw.covers.Goals as goal

pub loop-i-init : goal.loop-i-init
loop-i-init c = refl

pub offset_bounds-d-i : goal.offset_bounds-d-i
offset_bounds-d-i c = omega (arith, sound_few c.args.d.now c.requires.1)

pub bounds-d-i : goal.bounds-d-i
bounds-d-i c = omega (arith, sound_few c.args.d.now c.requires.1)

pub offset_bounds-d-i-in-loop-i : goal.offset_bounds-d-i-in-loop-i
offset_bounds-d-i-in-loop-i c = omega (arith, sound_few c.args.d.now c.requires.1)

pub bounds-d-i-in-loop-i : goal.bounds-d-i-in-loop-i
bounds-d-i-in-loop-i c = omega (arith, sound_few c.args.d.now c.requires.1)

pub returns-then-have-want : goal.returns-then-have-want
returns-then-have-want c =
    cover_not c.args.c.now c.args.d.now c.requires.1 (omega arith) (omega arith) c.loop-i.i c.get-have.result _ (search rules) c.get-have.ensures refl c.loop-i.invariant (omega arith)

pub loop-i-preserved : goal.loop-i-preserved
loop-i-preserved c =
    cover_turn c.args.c.now c.args.d.now c.requires.1 (omega arith) (omega arith) c.loop-i.i c.get-have.result _ (search rules) c.get-have.ensures refl c.loop-i.invariant (omega arith)

pub returns : goal.returns
returns c = cover_end c.args.c.now c.args.d.now c.requires.1 (omega arith) (omega arith) c.loop-i.i (omega arith) c.loop-i.invariant

use native.Mathlib.Omega.{arith}
use borrow.Author.Rules.{rules}
use mathlib.Core.Path.{refl}
use Rattle.error.proofs.Exits.{handed_on}
use Rattle.clock.proofs.ClockEntries.{sound_few}
use Rattle.clock.proofs.ClockCalls.{merge_start, merge_turn, merge_stop, merge_end}
use Rattle.clock.proofs.raw.merged.Goals as goal

pub loop-i-init : goal.loop-i-init
loop-i-init c = merge_start _ _ c.requires.0 (omega arith) (omega arith)

pub offset_bounds-d-i : goal.offset_bounds-d-i
offset_bounds-d-i c = omega (arith, sound_few c.args.d.now c.requires.1)

pub bounds-d-i : goal.bounds-d-i
bounds-d-i c = omega (arith, sound_few c.args.d.now c.requires.1)

pub offset_bounds-d-i-in-loop-i : goal.offset_bounds-d-i-in-loop-i
offset_bounds-d-i-in-loop-i c = omega (arith, sound_few c.args.d.now c.requires.1)

pub bounds-d-i-in-loop-i : goal.bounds-d-i-in-loop-i
bounds-d-i-in-loop-i c = omega (arith, sound_few c.args.d.now c.requires.1)

pub observe-requires : goal.observe-requires
observe-requires c = c.loop-i.invariant.keeps

pub returns-in_err-observe : goal.returns-in_err-observe
returns-in_err-observe c = rw (handed_on c.from_residual.ensures)
    (merge_stop c.args.c.now c.args.d.now c.loop-i.so_far c.requires.1 (omega arith) (omega arith) c.loop-i.i c.loop-i.invariant _ _ _ (search rules) refl refl c.observe.ensures _ c.in_err-observe.was)

pub loop-i-preserved : goal.loop-i-preserved
loop-i-preserved c =
    merge_turn c.args.c.now c.args.d.now c.loop-i.so_far c.requires.1 (omega arith) (omega arith) c.loop-i.i c.loop-i.invariant _ _ _ (search rules) refl refl c.observe.ensures c.in_ok-observe.was

pub returns : goal.returns
returns c = merge_end c.args.c.now c.args.d.now c.loop-i.so_far c.requires.1 (omega arith) (omega arith) c.loop-i.i c.loop-i.invariant (omega arith)

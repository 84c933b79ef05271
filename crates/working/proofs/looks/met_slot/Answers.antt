use borrow.Author.Rules.{rules}
use mathlib.Core.Path.{refl}
use native.Mathlib.Omega.{arith}
use Rattle.row.proofs.Operations.{in_area}
use Rattle.working.proofs.ReferenceRows.{met_turn, met_not, met_end, slot_few, slot_length, slot_next}
use Rattle.working.proofs.looks.met_slot.Goals as goal

pub overflow_add-base : goal.overflow_add-base
overflow_add-base c = omega (arith, in_area c.args.held.now c.args.base c.requires.0)

pub get_word-n-requires : goal.get_word-n-requires
get_word-n-requires c = omega (arith, in_area c.args.held.now c.args.base c.requires.0)

pub loop-i-init : goal.loop-i-init
loop-i-init c = (slot_few _ _ c.requires.0 _ c.get_word-n.ensures, refl)

pub overflow_add-at : goal.overflow_add-at
overflow_add-at c =
    omega (arith, in_area c.args.held.now c.args.base c.requires.0)

pub overflow_add-at-in-loop-i : goal.overflow_add-at-in-loop-i
overflow_add-at-in-loop-i c =
    omega (arith, in_area c.args.held.now c.args.base c.requires.0)

pub get_word-a-requires : goal.get_word-a-requires
get_word-a-requires c =
    omega (arith, in_area c.args.held.now c.args.base c.requires.0)

pub overflow_add-at-in-loop-i-2 : goal.overflow_add-at-in-loop-i-2
overflow_add-at-in-loop-i-2 c =
    omega (arith, in_area c.args.held.now c.args.base c.requires.0)

pub get_word-want-requires : goal.get_word-want-requires
get_word-want-requires c =
    omega (arith, in_area c.args.held.now c.args.base c.requires.0)

pub returns-then-want-have : goal.returns-then-want-have
returns-then-want-have c =
    met_not _ _ c.loop-i.i _ _ _ (slot_next _ _ c.requires.0 _ _ _ _ c.get_word-n.ensures (search rules) c.get_word-a.ensures c.get_word-want.ensures) c.clock_get-have.ensures c.if-want-have.true c.loop-i.invariant.1

pub loop-i-preserved : goal.loop-i-preserved
loop-i-preserved c =
    (c.loop-i.invariant.0, met_turn _ _ c.loop-i.i _ _ _ (slot_next _ _ c.requires.0 _ _ _ _ c.get_word-n.ensures (search rules) c.get_word-a.ensures c.get_word-want.ensures) c.clock_get-have.ensures c.if-want-have.false c.loop-i.invariant.1)

pub returns : goal.returns
returns c = met_end _ _ c.loop-i.i _ (slot_length _ _ c.requires.0 _ c.get_word-n.ensures) (omega arith) c.loop-i.invariant.1

use Rattle.commit.proofs.HeldSlots.{spread_start, spread_left, spread_held, spread_batch, spread_read, spread_end}
use native.Mathlib.Omega.{arith}
use Rattle.commit.proofs.holding.spread.Goals as goal

pub loop-p-init : goal.loop-p-init
loop-p-init c = spread_start _ _ _ _ _ _ c.requires.3

pub overflow_sub-left : goal.overflow_sub-left
overflow_sub-left c = spread_left _ _ _ _ _ _ _ _ _ c.get_word-k.ensures c.loop-p-test.true c.loop-p.invariant c.if-k-lt64.true

pub loop-p-preserved-then-k-lt64 : goal.loop-p-preserved-then-k-lt64
loop-p-preserved-then-k-lt64 c =
    spread_held _ _ _ _ _ _ _ _ _ c.get_word-k.ensures c.loop-p-test.true c.loop-p.invariant _ c.if-k-lt64.true c.copy_slot.ensures

pub slot_from_batch-requires : goal.slot_from_batch-requires
slot_from_batch-requires c = (spread_read _ _ _ _ _ _ _ _ _ c.get_word-k.ensures c.loop-p-test.true c.loop-p.invariant c.requires.4 c.if-k-lt64.false, omega arith, omega arith)

pub loop-p-preserved : goal.loop-p-preserved
loop-p-preserved c =
    spread_batch _ _ _ _ _ _ _ _ _ c.get_word-k.ensures c.loop-p-test.true c.loop-p.invariant _ c.if-k-lt64.false c.slot_from_batch.ensures

pub returns : goal.returns
returns c = spread_end _ _ _ _ _ _ _ _ (omega arith) c.loop-p.invariant

use Rattle.commit.proofs.HeldSlots.{gather_start, gather_held, gather_batch, gather_end}
use native.Mathlib.Omega.{arith}
use Rattle.commit.proofs.holding.gather.Goals as goal
use Rattle.commit.proofs.holding.gather.Goals.{then-k-lt64, else-k-lt64}

pub loop-p-init : goal.loop-p-init
loop-p-init c = gather_start _ _ _

pub loop-p-preserved : goal.loop-p-preserved
loop-p-preserved c =
    elim c.if-k-lt64.branch [
      | then-k-lt64 w ↦ rw (w.held-is, w.kept-is) (gather_held _ _ _ _ _ _ _ c.get_word-k.ensures c.loop-p-test.true c.loop-p.invariant _ c.requires.3 w.if-k-lt64.true w.copy_slot.ensures)
      | else-k-lt64 w ↦ rw (w.held-is, w.kept-is) (gather_batch _ _ _ _ _ _ _ c.get_word-k.ensures c.loop-p-test.true c.loop-p.invariant w.if-k-lt64.false)
    ]

pub returns : goal.returns
returns c = gather_end _ _ _ _ _ _ (omega arith) c.loop-p.invariant

use native.Mathlib.Omega.{arith}
use Rattle.working.proofs.ScratchColumns.{gap_start, gap_turn, put_in}
use Rattle.working.proofs.scratch.put_entry.Goals as goal

pub loop-j-init : goal.loop-j-init
loop-j-init c = (c.requires.0, gap_start _ _)

pub loop-j-preserved : goal.loop-j-preserved
loop-j-preserved c = (omega arith, gap_turn _ _ _ _ _ _ (omega arith) (omega arith) c.get_word-x.ensures c.put_ref.ensures c.loop-j.invariant.1)

pub returns : goal.returns
returns c = put_in _ _ _ _ _ c.loop-j.j _ (omega arith) c.requires.0 c.put_ref-2.ensures c.loop-j.invariant.1

use mathlib.Core.Path.{refl}
use native.Mathlib.Omega.{arith}
use Rattle.working.proofs.ScratchColumns.{move_start, move_turn, same_turn, taken_out}
use Rattle.working.proofs.scratch.take_entry.Goals as goal

pub loop-i-init : goal.loop-i-init
loop-i-init c = (move_start _ _ _ c.requires.0, λ i. refl)

pub loop-i-preserved : goal.loop-i-preserved
loop-i-preserved c =
    let args = c.args in
    (move_turn args.scratch.now c.loop-i.scratch _ args.n args.j c.loop-i.i _ (omega arith) c.get_word-k.ensures c.put_ref.ensures c.loop-i.invariant.0, same_turn args.scratch.now c.loop-i.scratch _ c.loop-i.i _ c.put_ref.ensures c.loop-i.invariant.1)

pub returns : goal.returns
returns c = taken_out c.args.scratch.now _ c.args.n c.args.j c.loop-i.i (omega arith) c.loop-i.invariant.0 c.loop-i.invariant.1

use borrow.Author.Rules.{rules}
use Prim.Native.Nat.{◌*◌}
use native.Mathlib.Omega.{arith}
use Rattle.row.proofs.Operations.{in_area}
use Rattle.working.proofs.AdmissionLoop.{lasting_start, lasting_end, lasting_past, lasting_kept}
use Rattle.working.proofs.raw.unexpired.Goals as goal

pub loop-i-init : goal.loop-i-init
loop-i-init c = lasting_start _ _ _ _

pub get_word-arrived-requires : goal.get_word-arrived-requires
get_word-arrived-requires c = omega (arith, in_area c.args.held.now (704 * c.loop-i.i) (c.requires.1 c.loop-i.i (omega arith)))

pub loop-i-preserved-then-arrived-cutoff : goal.loop-i-preserved-then-arrived-cutoff
loop-i-preserved-then-arrived-cutoff c = lasting_past c.loop-i.invariant (search rules) _ c.get_word-arrived.ensures (omega arith)

pub loop-i-preserved : goal.loop-i-preserved
loop-i-preserved c =
    lasting_kept c.loop-i.invariant (search rules) _ c.get_word-arrived.ensures _ c.put_ref.ensures (omega arith) (omega arith) (c.requires.1 c.loop-i.i (omega arith))

pub returns : goal.returns
returns c = lasting_end c.loop-i.invariant (omega arith) (omega arith)

use borrow.Author.Rules.{rules}
use native.Mathlib.Omega.{arith}
use Rattle.working.proofs.ScratchColumns.{refs_of, ref_there}
use Rattle.working.proofs.FirstReference.{first_start, first_here, first_turn, first_end}
use Rattle.working.proofs.looks.first_ready.Goals as goal

pub loop-i-init : goal.loop-i-init
loop-i-init c = first_start _ _ _

pub is_ready-requires : goal.is_ready-requires
is_ready-requires c = (ref_there _ _ _ _ _ _ (refs_of _ _ _ c.requires.0.refs) (search rules) c.get_word-k.ensures, search rules)

pub returns-then-is_ready : goal.returns-then-is_ready
returns-then-is_ready c = first_here _ _ _ _ _ _ (search rules) c.get_word-k.ensures c.is_ready.ensures c.if-is_ready.true c.loop-i.invariant

pub loop-i-preserved : goal.loop-i-preserved
loop-i-preserved c = first_turn _ _ _ _ _ _ (search rules) c.get_word-k.ensures c.is_ready.ensures c.if-is_ready.false c.loop-i.invariant

pub returns : goal.returns
returns c = first_end _ _ _ _ (omega arith) c.loop-i.invariant

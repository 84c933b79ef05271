use borrow.Author.Rules.{rules}
use native.Mathlib.Omega.{arith}
use Rattle.working.proofs.ReferenceRows.{met_turn, met_not, met_end, value_length, value_next}
use Rattle.working.proofs.looks.met_deps.Goals as goal

pub returns-then-have-want : goal.returns-then-have-want
returns-then-have-want c =
    met_not _ _ c.loop-i.i _ _ _ (value_next c.args.d (omega arith) (omega arith) c.requires.0 c.loop-i.i (search rules)) c.clock_get-have.ensures c.if-have-want.true c.loop-i.invariant

pub loop-i-preserved : goal.loop-i-preserved
loop-i-preserved c =
    met_turn _ _ c.loop-i.i _ _ _ (value_next c.args.d (omega arith) (omega arith) c.requires.0 c.loop-i.i (search rules)) c.clock_get-have.ensures c.if-have-want.false c.loop-i.invariant

pub returns : goal.returns
returns c = met_end _ _ c.loop-i.i _ (value_length _ (omega arith) (omega arith) c.requires.0) (omega arith) c.loop-i.invariant

use native.Mathlib.Omega.{arith}
use Rattle.clock.proofs.ClockCalls.{observe_zero, observe_other}
use Rattle.clock.proofs.raw.observe.Goals as goal

pub returns-then-seq-eq0 : goal.returns-then-seq-eq0
returns-then-seq-eq0 c = observe_zero c.args.c.now c.requires (omega arith) (omega arith) _ _ c.if-seq-eq0.true

pub returns : goal.returns
returns c = observe_other c.args.c.now c.requires (omega arith) (omega arith) _ _ _ c.if-seq-eq0.false c.enter.ensures

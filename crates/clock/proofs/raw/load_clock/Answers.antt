use Prim.Native.Nat.{◌+◌}
use native.Mathlib.Omega.{arith}
use Rattle.clock.proofs.ClockArea.{column_is}
use Rattle.clock.specs.Area.{clock_at}
use Rattle.clock.proofs.raw.load_clock.Goals as goal

pub returns : goal.returns
unfolding clock_at
returns c = λ i. record {
  authors = column_is c.args.s.now c.loop-i.authors (c.args.at + 8) c.loop-i.i c.loop-i.invariant.0 (omega arith) c.loop-i.invariant.2 i;
  numbers = column_is c.args.s.now c.loop-i.numbers (c.args.at + 16) c.loop-i.i c.loop-i.invariant.1 (omega arith) c.loop-i.invariant.3 i;
  count = c.get_word-2.ensures i;
}

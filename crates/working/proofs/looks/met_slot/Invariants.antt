use Prim.Native.Nat.{◌≤◌}
use Rattle.row.specs.Slots.{slot_at, decode_held}
use Rattle.working.specs.Inside.DrainClock.{ticks}
use Rattle.working.proofs.ReferenceRows.{LeftMet}
use Rattle.working.proofs.looks.met_slot.Given as goal

abbrev pub invariant-loop-i : goal.invariant-loop-i
invariant-loop-i l = (l.n ≤ 16) × LeftMet (ticks l.authors l.numbers l.count) (decode_held (slot_at l.held l.base)).row.deps l.i

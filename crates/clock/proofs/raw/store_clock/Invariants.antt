use Prim.Native.Nat.{◌+◌}
use mathlib.Core.Path.{◌≡◌}
use lib.ListN.{length}
use Rattle.words.specs.Areas.{put_at}
use Rattle.clock.proofs.ClockArea.{entry_bytes}
use Rattle.clock.proofs.raw.store_clock.Given as goal

abbrev pub invariant-loop-i : goal.invariant-loop-i
invariant-loop-i l = (length l.s ≡ length l.initial.s) × (l.s ≡ put_at l.initial.s (l.at + 8) (entry_bytes l.c l.i))

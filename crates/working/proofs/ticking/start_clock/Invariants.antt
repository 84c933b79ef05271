use Prim.Native.Nat.{ℕ, ◌+◌, ◌*◌, ◌≤◌, ◌<◌}
use mathlib.Core.Path.{◌≡◌}
use lib.ListN.{get_or}
use Rattle.words.specs.Be.{get64}
use Rattle.working.proofs.ticking.start_clock.Given as goal

abbrev pub invariant-loop-i : goal.invariant-loop-i
invariant-loop-i l = (l.n ≤ 32) × ((k : ℕ) → k < l.i → get_or l.authors k 0 ≡ get64 l.head (56 + 16 * k)) × ((k : ℕ) → k < l.i → get_or l.numbers k 0 ≡ get64 l.head (64 + 16 * k))

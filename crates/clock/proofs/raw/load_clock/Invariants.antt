use Prim.Native.Nat.{ℕ, ◌+◌, ◌*◌, ◌<◌}
use mathlib.Core.Path.{◌≡◌}
use lib.ListN.{length, get_or}
use Rattle.words.specs.Be.{get64}
use Rattle.clock.proofs.raw.load_clock.Given as goal

abbrev pub invariant-loop-i : goal.invariant-loop-i
invariant-loop-i l =
    (length l.authors ≡ 32) × (length l.numbers ≡ 32) × ((k : ℕ) → k < l.i → get_or l.authors k 0 ≡ get64 l.s (l.at + 8 + 16 * k))
    × ((k : ℕ) → k < l.i → get_or l.numbers k 0 ≡ get64 l.s (l.at + 16 + 16 * k))

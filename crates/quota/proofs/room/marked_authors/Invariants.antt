use Prim.Native.Nat.{ℕ, ◌+◌, ◌*◌, ◌≤◌, ◌<◌}
use mathlib.Core.Path.{◌≡◌}
use mathlib.Core.Bool.{true}
use lib.ListN.{length, drop, get_or}
use Rattle.words.specs.Be.{get64}
use Rattle.clock.specs.Vector.{zeros}
use Rattle.quota.proofs.room.marked_authors.Given as goal

abbrev pub invariant-loop-i : goal.invariant-loop-i
invariant-loop-i l = (l.count ≤ 32) × (length l.authors ≡ 32) × (length l.numbers ≡ 32) × ((k : ℕ) → k < l.i → get_or l.authors k 0 ≡ get64 l.head (1096 + 32 * k)) × ((k : ℕ) → k < l.i → get_or l.numbers k 0 ≡ 1) × (zeros (drop l.i l.authors) ≡ true) × (zeros (drop l.i l.numbers) ≡ true)

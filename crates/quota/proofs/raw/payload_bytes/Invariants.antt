use Prim.Native.Nat.{◌≤◌, ◌*◌}
use Rattle.quota.proofs.AuthorCounts.{Summed}
use Rattle.quota.proofs.raw.payload_bytes.Given as goal

abbrev pub invariant-loop-i : goal.invariant-loop-i
invariant-loop-i l = (l.bytes ≤ 256 * l.i) × Summed l.held l.batch l.scratch l.n l.bytes l.i

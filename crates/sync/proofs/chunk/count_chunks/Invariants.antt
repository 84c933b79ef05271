use Rattle.clock.specs.Vector.{entries}
use Rattle.sync.proofs.DeltaLoops.{Tallying}
use Rattle.sync.proofs.chunk.count_chunks.Given as goal

abbrev pub invariant-loop-i : goal.invariant-loop-i
invariant-loop-i l = Tallying l.rows l.n (entries l.clock) l.most l.max_bytes l.i l.k l.count l.size

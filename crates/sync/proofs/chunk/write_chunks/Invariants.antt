use Rattle.clock.specs.Vector.{entries}
use Rattle.sync.proofs.DeltaLoops.{Chunking}
use Rattle.sync.proofs.chunk.write_chunks.Given as goal

abbrev pub invariant-loop-i : goal.invariant-loop-i
invariant-loop-i l = Chunking l.rows l.n (entries l.clock) l.most l.max_bytes l.initial.output l.output l.i l.k l.count l.size

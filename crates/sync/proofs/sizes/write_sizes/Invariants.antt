use Rattle.clock.specs.Vector.{entries}
use Rattle.sync.proofs.SizeLoops.{Sizing}
use Rattle.sync.proofs.sizes.write_sizes.Given as goal

abbrev pub invariant-loop-i : goal.invariant-loop-i
invariant-loop-i l =
    Sizing l.rows l.n (entries l.clock) l.most l.max_bytes l.sender.0 l.sig_len l.initial.output l.output l.i l.k l.count l.size l.bytes

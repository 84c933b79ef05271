use Rattle.codec.proofs.WriterLaws.{Going}
use Rattle.codec.proofs.raw.store_varint.Given as goal

abbrev pub invariant-loop-rest : goal.invariant-loop-rest
invariant-loop-rest l = Going l.initial.out l.at l.v l.out l.rest l.i

abbrev pub decreases-loop-rest : goal.decreases-loop-rest
decreases-loop-rest l = l.rest

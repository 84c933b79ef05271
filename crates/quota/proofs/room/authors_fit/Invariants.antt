use Rattle.quota.proofs.RoomTest.{Running}
use Rattle.quota.proofs.room.authors_fit.Given as goal

abbrev pub invariant-loop-i : goal.invariant-loop-i
invariant-loop-i l = Running l.held l.batch l.scratch l.m l.initial.clock l.clock l.i

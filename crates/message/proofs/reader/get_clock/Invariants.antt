use Rattle.message.proofs.ClockPairs.{Entering}
use Rattle.message.proofs.reader.get_clock.Given as goal

abbrev pub invariant-loop : goal.invariant-loop
invariant-loop l = Entering l.s l.first l.count l.clock l.next l.counter

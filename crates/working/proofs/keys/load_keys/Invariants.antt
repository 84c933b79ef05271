use Rattle.working.proofs.KeyTable.{KeyedTo}
use Rattle.working.proofs.keys.load_keys.Given as goal

abbrev pub invariant-loop-i : goal.invariant-loop-i
invariant-loop-i l = KeyedTo l.held l.batch l.scratch l.keys l.i

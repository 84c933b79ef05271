use Rattle.clock.proofs.AuthorSearch.{Left}
use Rattle.clock.proofs.raw.find.Given as goal

abbrev pub invariant-loop-i : goal.invariant-loop-i
invariant-loop-i l = Left l.authors l.author l.i

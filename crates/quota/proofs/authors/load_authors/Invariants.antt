use Rattle.quota.proofs.AuthorCounts.{Loaded}
use Rattle.quota.proofs.authors.load_authors.Given as goal

abbrev pub invariant-loop-i : goal.invariant-loop-i
invariant-loop-i l = Loaded l.held l.batch l.scratch l.authors l.i

use Rattle.std.proofs.Common.{rules}
use Rattle.quota.proofs.AuthorCounts.{lowest_from_least}
use Rattle.quota.proofs.authors.lowest_over.Goals as goal

pub returns : goal.returns
returns c = lowest_from_least _ _ _ _ (search rules)

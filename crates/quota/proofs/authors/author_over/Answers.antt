use Rattle.quota.proofs.AuthorCounts.{over_none, over_loaded}
use Rattle.quota.proofs.authors.author_over.Goals as goal

pub returns-then-n-limit : goal.returns-then-n-limit
returns-then-n-limit c = over_none _ _ _ _ _ c.if-n-limit.true

pub returns : goal.returns
returns c = over_loaded _ _ _ _ _ _ _ c.load_authors.ensures c.lowest_over.ensures

use Rattle.clock.proofs.hybrid.HybridClock.issue.Goals as goal

pub returns : goal.returns
returns c = rw c.moved.ensures

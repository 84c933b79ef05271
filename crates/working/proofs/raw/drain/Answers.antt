use Rattle.working.proofs.DrainLoop.{drains_from}
use Rattle.working.proofs.raw.drain.Goals as goal

pub returns : goal.returns
returns c = λ time. drains_from c.start_clock-count.ensures.is (c.drain_by.ensures time)

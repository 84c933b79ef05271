use Rattle.working.proofs.DrainClock.{put_is}
use Rattle.working.proofs.ticking.put_in.Goals as goal

pub returns : goal.returns
returns c = put_is _ _ _ _ _ c.requires.0 c.requires.1 c.copy_within.ensures.after

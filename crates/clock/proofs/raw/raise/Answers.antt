use Rattle.std.proofs.Common.{refl}
use Rattle.clock.proofs.ClockCalls.{grown_fits}
use Rattle.clock.proofs.raw.raise.Goals as goal

pub unwrap-requires : goal.unwrap-requires
unwrap-requires c = rw (grown_fits _ _ _ c.requires.1 c.observe.ensures).0 refl

pub returns : goal.returns
returns c = (grown_fits _ _ _ c.requires.1 c.observe.ensures).1

use mathlib.Core.Path.{refl}
use Rattle.working.proofs.ScratchColumns.{pushed}
use Rattle.working.proofs.scratch.push_logged.Goals as goal

pub returns : goal.returns
returns c = pushed _ _ _ _ _ refl c.put_ref.ensures

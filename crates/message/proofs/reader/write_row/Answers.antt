use mathlib.Core.Path.{refl}
use Rattle.message.proofs.RowLoops.{row_put}
use Rattle.message.proofs.reader.write_row.Goals as goal

pub returns : goal.returns
returns c = row_put _ _ _ _ _ _ refl c.write_slot.ensures c.requires.0

use native.Mathlib.Omega.{arith}
use Rattle.sync.proofs.SizeLoops.{row_is}
use Rattle.sync.proofs.chunk.row_sizes.Goals as goal

pub returns : goal.returns
returns c =
    row_is _ c.args.at c.read_slot-held.result _ _ _ c.read_slot-held.ensures.0 c.read_slot-held.ensures.1 c.unsigned_len-unsigned.ensures.is c.unsigned_len-unsigned.ensures.few c.sized_len-sized_signature.ensures.0 c.sized_len-sized_signature.ensures.1 (omega arith)

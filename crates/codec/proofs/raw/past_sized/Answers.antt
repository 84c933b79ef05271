use Rattle.error.proofs.Exits.{handed_on}
use Rattle.codec.specs.Inside.EnvelopeParts.{sized_length}
use Rattle.codec.proofs.WriterLaws.{room_then, room_off}
use Rattle.codec.proofs.raw.past_sized.Goals as goal

pub returns-in_err-start : goal.returns-in_err-start
unfolding sized_length
returns-in_err-start c = rw (handed_on c.from_residual.ensures, ← c.varint_len.ensures) (room_off _ _ _ _ c.in_err-start.ensures)

pub returns : goal.returns
unfolding sized_length
returns c = rw (← c.varint_len.ensures) (room_then _ _ _ _ c.in_ok-start.ensures c.past-2.ensures)

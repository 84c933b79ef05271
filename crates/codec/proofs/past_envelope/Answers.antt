use Rattle.error.proofs.Exits.{handed_on}
use Rattle.codec.specs.Inside.EnvelopeParts.{envelope_length}
use Rattle.codec.proofs.WriterLaws.{room_then, room_off}
use Rattle.codec.proofs.past_envelope.Goals as goal

pub returns-in_err-body_at : goal.returns-in_err-body_at
unfolding envelope_length
returns-in_err-body_at c =
    rw (handed_on c.from_residual.ensures, ← c.varint_len.ensures) (room_off _ _ _ _ c.in_err-body_at.ensures)

pub returns-in_err-sig_at : goal.returns-in_err-sig_at
unfolding envelope_length
returns-in_err-sig_at c =
    rw (handed_on c.from_residual-in_err-sig_at.ensures, ← c.varint_len.ensures)
    (room_then _ _ _ _ c.in_ok-body_at.ensures (room_off _ _ _ _ c.in_err-sig_at.ensures))

pub returns : goal.returns
unfolding envelope_length
returns c =
    rw (← c.varint_len.ensures) (room_then _ _ _ _ c.in_ok-body_at.ensures (room_then _ _ _ _ c.in_ok-sig_at.ensures c.past_sized-2.ensures))

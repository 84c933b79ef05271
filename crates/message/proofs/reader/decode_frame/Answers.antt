use mathlib.Core.Path.{refl, sym}
use Rattle.error.proofs.Exits.{handed_on}
use Rattle.message.proofs.Decoding.{body_inside, frame_short, no_envelope, frame_unread, frame_read}
use Rattle.message.proofs.reader.decode_frame.Goals as goal

pub returns-then-clock-lt520 : goal.returns-then-clock-lt520
returns-then-clock-lt520 c = frame_short _ _ _ _ _ c.if-clock-lt520.true refl refl

pub returns-in_err-envelope : goal.returns-in_err-envelope
returns-in_err-envelope c =
    no_envelope _ _ _ c.if-clock-lt520.false _ _ (handed_on c.from_residual.ensures) (sym c.in_err-envelope.ensures) refl refl

pub bytes_of-body-requires : goal.bytes_of-body-requires
bytes_of-body-requires c = body_inside _ _ (sym c.in_ok-envelope.ensures)

pub returns-in_err-kind : goal.returns-in_err-kind
returns-in_err-kind c =
    frame_unread _ _ _ c.if-clock-lt520.false (sym c.in_ok-envelope.ensures) _ _ _ c.bytes_of-body.ensures.0 (handed_on c.from_residual-in_err-kind.ensures) c.in_err-kind.ensures

pub returns : goal.returns
returns c =
    frame_read _ _ _ c.if-clock-lt520.false (sym c.in_ok-envelope.ensures) _ _ _ c.bytes_of-body.ensures.0 c.in_ok-kind.ensures

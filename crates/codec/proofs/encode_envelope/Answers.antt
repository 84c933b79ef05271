use native.Mathlib.Omega.{arith}
use Rattle.error.proofs.Exits.{handed_on}
use Rattle.codec.proofs.WriterLaws.{next_room, refused_room, wrote, short_area, length_envelope}
use Rattle.codec.proofs.encode_envelope.Goals as goal

pub returns-in_err-past_envelope : goal.returns-in_err-past_envelope
returns-in_err-past_envelope c =
    let no = refused_room _ _ _ c.in_err-past_envelope.ensures in
    rw (handed_on c.from_residual.ensures) (short_area _ _ _ (rw length_envelope no.1) no.0)

pub store_envelope-requires : goal.store_envelope-requires
store_envelope-requires c = rw length_envelope (omega (arith, (next_room _ _ _ c.in_ok-past_envelope.ensures).1))

pub returns : goal.returns
returns c = wrote _ _ _ (rw length_envelope (next_room _ _ _ c.in_ok-past_envelope.ensures).1) c.store_envelope.ensures

use native.Mathlib.Omega.{arith}
use Rattle.error.proofs.Exits.{handed_on}
use Rattle.codec.proofs.WriterLaws.{next_room, refused_room, wrote, short_area, length_sized}
use Rattle.codec.proofs.put_bytes.Goals as goal

pub returns-in_err-past_sized : goal.returns-in_err-past_sized
returns-in_err-past_sized c =
    let no = refused_room _ _ _ c.in_err-past_sized.ensures in
    rw (handed_on c.from_residual.ensures) (short_area _ _ _ (rw length_sized no.1) no.0)

pub store_bytes-requires : goal.store_bytes-requires
store_bytes-requires c = rw length_sized (next_room _ _ _ c.in_ok-past_sized.ensures).1

pub returns : goal.returns
returns c = wrote _ _ _ (rw length_sized (next_room _ _ _ c.in_ok-past_sized.ensures).1) c.store_bytes.ensures

use mathlib.Core.Path.{ap, ◌∙◌}
use native.Mathlib.Omega.{arith}
use Rattle.error.proofs.Exits.{handed_on}
use Rattle.error.specs.Answer.{ends}
use Rattle.codec.proofs.WriterLaws.{next_room, refused_room, wrote, short_area}
use Rattle.codec.proofs.put_varint.Goals as goal

pub returns-in_err-past : goal.returns-in_err-past
returns-in_err-past c =
    let no = refused_room _ _ _ c.in_err-past.ensures in
    rw (handed_on c.from_residual.ensures) (short_area _ _ _ (omega (arith, no.1, c.varint_len.ensures)) no.0)

pub store_varint-requires : goal.store_varint-requires
store_varint-requires c = rw (← c.varint_len.ensures) (next_room _ _ _ c.in_ok-past.ensures).1

pub returns : goal.returns
returns c = wrote _ _ _ (rw (← c.varint_len.ensures) (next_room _ _ _ c.in_ok-past.ensures).1) c.store_varint.ensures

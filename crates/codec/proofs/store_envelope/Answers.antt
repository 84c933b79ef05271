use Rattle.codec.proofs.WriterLaws.{sender_room, body_room, sig_room, envelope_stored}
use Rattle.codec.proofs.store_envelope.Goals as goal

pub store_varint-body_at-requires : goal.store_varint-body_at-requires
store_varint-body_at-requires c = sender_room _ _ _ _ c.requires

pub store_bytes-sig_at-requires : goal.store_bytes-sig_at-requires
store_bytes-sig_at-requires c = body_room _ _ _ _ c.requires c.store_varint-body_at.ensures

pub store_bytes-requires : goal.store_bytes-requires
store_bytes-requires c =
    sig_room _ _ _ _ c.requires c.store_varint-body_at.ensures c.store_bytes-sig_at.ensures

pub returns : goal.returns
returns c =
    envelope_stored _ _ _ _ c.requires c.store_varint-body_at.ensures c.store_bytes-sig_at.ensures c.store_bytes.ensures

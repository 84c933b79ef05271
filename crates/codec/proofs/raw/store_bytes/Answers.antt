use mathlib.Core.Path.{refl}
use native.Mathlib.Omega.{arith}
use lib.ListN.{length}
use Rattle.codec.specs.Leb128.{shortest}
use Rattle.codec.specs.Writing.{sized}
use Rattle.codec.proofs.WriterLaws.{first_room, rest_room, stored_then}
use Rattle.codec.proofs.raw.store_bytes.Goals as goal

pub store_varint-start-requires : goal.store_varint-start-requires
unfolding sized
store_varint-start-requires c = first_room (shortest (length c.args.bytes.now)) c.args.bytes.now _ _ c.requires

pub copy-requires : goal.copy-requires
unfolding sized
copy-requires c = rest_room _ c.store_varint-start.ensures c.requires

pub overflow_add-result : goal.overflow_add-result
unfolding sized
overflow_add-result c =
    omega (arith, rest_room c.args.bytes.now c.store_varint-start.ensures c.requires)

pub returns : goal.returns
unfolding sized
returns c =
    stored_then c.store_varint-start.ensures (record { past = refl; output = c.copy.ensures }) c.requires

use Rattle.message.proofs.DeltaWrites.{delta_room, count_room, rows_room, delta_stored}
use Rattle.message.proofs.writer.store_delta.Goals as goal

pub store_tag-count_at-requires : goal.store_tag-count_at-requires
store_tag-count_at-requires c =
    delta_room c.args.rows.now c.args.n c.args.out.now c.requires.1

pub store_varint-rows_at-requires : goal.store_varint-rows_at-requires
store_varint-rows_at-requires c =
    count_room c.args.rows.now c.args.n c.args.out.now c.requires.1 c.store_tag-count_at.ensures

pub store_rows-requires : goal.store_rows-requires
store_rows-requires c =
    (c.requires.0, rows_room c.args.rows.now c.args.n c.args.out.now c.requires.1 c.store_tag-count_at.ensures c.store_varint-rows_at.ensures)

pub returns : goal.returns
returns c =
    delta_stored c.args.rows.now c.args.n c.args.out.now c.requires.1 c.store_tag-count_at.ensures c.store_varint-rows_at.ensures c.store_rows.ensures

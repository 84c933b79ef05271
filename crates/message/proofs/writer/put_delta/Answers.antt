use native.Mathlib.Omega.{arith}
use Rattle.row.proofs.PartLengths.{number_few}
use Rattle.row.proofs.SlotWrites.{found_room, put_all, put_none}
use Rattle.replicated_log.specs.Inside.StoreChanges.{rows_in}
use Rattle.message.specs.Messages.{delta, message_bytes}
use Rattle.message.proofs.DeltaWrites.{delta_length_lem}
use borrow.Author.Rules.{rules}
use Rattle.error.proofs.Exits.{handed_on}
use Rattle.message.proofs.writer.put_delta.Goals as goal

pub overflow_add-varint_len : goal.overflow_add-varint_len
overflow_add-varint_len c = omega (arith, (number_few (search rules) c.varint_len.ensures).1)

pub overflow_add-varint_len-2 : goal.overflow_add-varint_len-2
overflow_add-varint_len-2 c = omega (arith, c.requires.1, (number_few (search rules) c.varint_len.ensures).1, c.rows_len.ensures.1)

pub store_delta-requires : goal.store_delta-requires
store_delta-requires c =
    let vs = message_bytes (delta (rows_in c.args.rows.now c.args.n)) in
    let long = delta_length_lem c.args.rows.now c.args.n c.varint_len.ensures c.rows_len.ensures.0 in
    (c.requires.0, omega (arith, found_room c.args.out.now 0 vs _ long c.in_ok-past.ensures))

pub returns : goal.returns
returns c =
    let vs = message_bytes (delta (rows_in c.args.rows.now c.args.n)) in
    let long = delta_length_lem c.args.rows.now c.args.n c.varint_len.ensures c.rows_len.ensures.0 in
    put_all c.args.out.now 0 vs _ long c.in_ok-past.ensures c.store_delta.ensures

pub returns-in_err-past : goal.returns-in_err-past
returns-in_err-past c =
    let vs = message_bytes (delta (rows_in c.args.rows.now c.args.n)) in
    let long = delta_length_lem c.args.rows.now c.args.n c.varint_len.ensures c.rows_len.ensures.0 in
    put_none c.args.out.now 0 vs _ long c.in_err-past.ensures (handed_on c.from_residual.ensures)

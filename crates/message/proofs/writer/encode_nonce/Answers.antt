use Rattle.codec.specs.Leb128.{shortest}
use native.Mathlib.Omega.{arith}
use Rattle.row.proofs.PartLengths.{number_few}
use Rattle.message.proofs.TaggedWrites.{tag_found, behind_found, tagged_put, tagged_short}
use borrow.Author.Rules.{rules}
use Rattle.error.proofs.Exits.{handed_on}
use Rattle.message.proofs.writer.encode_nonce.Goals as goal

pub overflow_add-varint_len : goal.overflow_add-varint_len
overflow_add-varint_len c = omega (arith, (number_few (search rules) c.varint_len.ensures).1)

pub store_tag-at-requires : goal.store_tag-at-requires
store_tag-at-requires c =
    tag_found c.args.out.now c.args.tag (shortest c.args.nonce) c.varint_len.ensures c.in_ok-past.ensures

pub store_varint-requires : goal.store_varint-requires
store_varint-requires c =
    behind_found c.args.out.now c.args.tag (shortest c.args.nonce) c.varint_len.ensures c.in_ok-past.ensures c.store_tag-at.ensures

pub returns : goal.returns
returns c =
    tagged_put c.args.out.now c.args.tag (shortest c.args.nonce) c.varint_len.ensures c.in_ok-past.ensures c.store_tag-at.ensures c.store_varint.ensures

pub returns-in_err-past : goal.returns-in_err-past
returns-in_err-past c =
    tagged_short c.args.out.now c.args.tag (shortest c.args.nonce) c.varint_len.ensures c.in_err-past.ensures (handed_on c.from_residual.ensures)

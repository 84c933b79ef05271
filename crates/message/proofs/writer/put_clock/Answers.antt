use Rattle.clock.specs.Vector.{entries}
use Rattle.row.specs.Wire.{deps_bytes}
use Rattle.message.proofs.TaggedWrites.{tag_found, behind_found, tagged_put, tagged_short}
use Rattle.error.proofs.Exits.{handed_on}
use Rattle.message.proofs.writer.put_clock.Goals as goal

pub store_tag-at-requires : goal.store_tag-at-requires
store_tag-at-requires c =
    tag_found c.args.out.now c.args.tag (deps_bytes (entries c.args.c.now)) c.entries_len.ensures.0 c.in_ok-past.ensures

pub store_entries-requires : goal.store_entries-requires
store_entries-requires c =
    (c.requires, behind_found c.args.out.now c.args.tag (deps_bytes (entries c.args.c.now)) c.entries_len.ensures.0 c.in_ok-past.ensures c.store_tag-at.ensures)

pub returns : goal.returns
returns c =
    tagged_put c.args.out.now c.args.tag (deps_bytes (entries c.args.c.now)) c.entries_len.ensures.0 c.in_ok-past.ensures c.store_tag-at.ensures c.store_entries.ensures

pub returns-in_err-past : goal.returns-in_err-past
returns-in_err-past c =
    tagged_short c.args.out.now c.args.tag (deps_bytes (entries c.args.c.now)) c.entries_len.ensures.0 c.in_err-past.ensures (handed_on c.from_residual.ensures)

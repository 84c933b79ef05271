use mathlib.Core.Path.{sym, ◌∙◌}
use native.Mathlib.Omega.{arith}
use Rattle.merge.proofs.StampReads.{has_wall, has_counter, has_stamper, counter_fits, stamp_by_parts}
use Rattle.merge.proofs.folding.stamp_at.Goals as goal

pub unwrap-wall_time-requires : goal.unwrap-wall_time-requires
unwrap-wall_time-requires c = rw c.get_varint.ensures (has_wall _ _ c.requires)

pub unwrap-counter-requires : goal.unwrap-counter-requires
unwrap-counter-requires c =
    rw c.get_varint-2.ensures (has_counter _ _ c.requires _ _ (sym c.get_varint.ensures ∙ c.unwrap-wall_time.ensures))

pub unwrap-stamper-requires : goal.unwrap-stamper-requires
unwrap-stamper-requires c =
    let wall = sym c.get_varint.ensures ∙ c.unwrap-wall_time.ensures in
    let counter = sym c.get_varint-2.ensures ∙ c.unwrap-counter.ensures in
    rw c.get_varint-3.ensures (has_stamper _ _ c.requires _ _ wall _ _ counter)

pub overflow_cast-result : goal.overflow_cast-result
overflow_cast-result c =
    let wall = sym c.get_varint.ensures ∙ c.unwrap-wall_time.ensures in
    let counter = sym c.get_varint-2.ensures ∙ c.unwrap-counter.ensures in
    omega (arith, counter_fits _ _ c.requires _ _ wall _ _ counter)

pub returns : goal.returns
returns c =
    let wall = sym c.get_varint.ensures ∙ c.unwrap-wall_time.ensures in
    let counter = sym c.get_varint-2.ensures ∙ c.unwrap-counter.ensures in
    let stamper = sym c.get_varint-3.ensures ∙ c.unwrap-stamper.ensures in
    stamp_by_parts _ _ c.requires _ _ wall _ _ counter _ _ stamper

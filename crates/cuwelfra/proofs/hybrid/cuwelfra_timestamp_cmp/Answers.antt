use Rattle.std.proofs.Common.{◌∙◌, ap}
use Rattle.clock.proofs.DerivedOrder.{field_by_field}
use Rattle.cuwelfra.specs.Hybrids.{order_number}
use Rattle.cuwelfra.proofs.hybrid.cuwelfra_timestamp_cmp.Goals as goal

pub returns-in-Less : goal.returns-in-Less
returns-in-Less c = rw (← c.stamp_by-a.ensures, ← c.stamp_by-b.ensures) (ap order_number (c.in-Less.ensures ∙ field_by_field _ _))

pub returns-in-Equal : goal.returns-in-Equal
returns-in-Equal c = rw (← c.stamp_by-a.ensures, ← c.stamp_by-b.ensures) (ap order_number (c.in-Equal.ensures ∙ field_by_field _ _))

pub returns-in-Greater : goal.returns-in-Greater
returns-in-Greater c = rw (← c.stamp_by-a.ensures, ← c.stamp_by-b.ensures) (ap order_number (c.in-Greater.ensures ∙ field_by_field _ _))

use mathlib.Core.Path.{sym, ◌∙◌}
use Rattle.merge.proofs.FoldLoop.{has_count, stamps_count}
use Rattle.merge.proofs.folding.count_rows.Goals as goal

pub unwrap-count-requires : goal.unwrap-count-requires
unwrap-count-requires c = rw c.get_varint.ensures (has_count _ c.requires)

pub returns : goal.returns
returns c = stamps_count _ c.requires _ _ (sym c.get_varint.ensures ∙ c.unwrap-count.ensures)

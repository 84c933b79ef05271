use mathlib.Core.Path.{sym, ◌∙◌, ap}
use Rattle.std.specs.Result.{is_ok}
use Rattle.row.specs.Rows.{Row}
use Rattle.working.proofs.ReferenceRows.{ok_held, ok_batch, row_held, row_batch, head_there, head_fields}
use Rattle.quota.proofs.authors.author_of.Goals as goal

pub read_actor-requires : goal.read_actor-requires
read_actor-requires c = ok_held _ _ _ c.if-i-lt64.true c.requires

pub returns-then-i-lt64 : goal.returns-then-i-lt64
returns-then-i-lt64 c = c.read_actor.ensures ∙ sym (ap (λ (r : Row). r.author) (row_held _ _ _ c.if-i-lt64.true))

pub unwrap-requires : goal.unwrap-requires
unwrap-requires c = ap is_ok c.read_head.ensures ∙ head_there _ _ (ok_batch _ _ _ c.if-i-lt64.false c.requires)

pub returns : goal.returns
returns c = sym (ap (λ (r : Row). r.author) (row_batch _ _ _ c.if-i-lt64.false) ∙ (head_fields _ _ _ _ (ok_batch _ _ _ c.if-i-lt64.false c.requires) (sym c.read_head.ensures ∙ c.unwrap.ensures)).1)

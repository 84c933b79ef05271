use mathlib.Core.Path.{refl, sym, ◌∙◌, ap}
use Rattle.std.specs.Result.{is_ok}
use Rattle.working.proofs.ReferenceRows.{head_there, head_key}
use Rattle.working.proofs.looks.batch_key.Goals as goal

pub unwrap-requires : goal.unwrap-requires
unwrap-requires c = ap is_ok c.read_head.ensures ∙ head_there _ _ c.requires

pub returns : goal.returns
returns c = head_key _ _ _ _ c.requires (sym c.read_head.ensures ∙ c.unwrap.ensures) _ refl refl refl

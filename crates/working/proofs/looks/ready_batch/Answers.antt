use mathlib.Core.Path.{sym, ◌∙◌, ap}
use Rattle.std.specs.Result.{is_ok}
use Rattle.working.proofs.ReferenceRows.{head_there, head_fields, deps_there, deps_field, ready_not, ready_met}
use Rattle.working.proofs.looks.ready_batch.Goals as goal

pub unwrap-deps_at-requires : goal.unwrap-deps_at-requires
unwrap-deps_at-requires c = ap is_ok c.read_head.ensures ∙ head_there _ _ c.requires.0

pub unwrap-requires : goal.unwrap-requires
unwrap-requires c = deps_there _ _ _ _ c.requires.0 (sym c.read_head.ensures ∙ c.unwrap-deps_at.ensures) c.read_deps.ensures

pub returns-then-not-reached : goal.returns-then-not-reached
returns-then-not-reached c =
    let h = head_fields _ _ _ _ c.requires.0 (sym c.read_head.ensures ∙ c.unwrap-deps_at.ensures) in
    ready_not _ _ _ _ _ (sym h.1) (sym h.2) c.reached.ensures c.if-not-reached.true

pub returns : goal.returns
returns c =
    let e = sym c.read_head.ensures ∙ c.unwrap-deps_at.ensures in
    let h = head_fields _ _ _ _ c.requires.0 e in
    let d = deps_field _ _ _ _ c.requires.0 e (rw c.unwrap.ensures at c.read_deps.ensures) in
    ready_met _ _ _ _ _ (sym h.1) (sym h.2) c.reached.ensures _ _ d c.if-not-reached.false c.met_deps.ensures

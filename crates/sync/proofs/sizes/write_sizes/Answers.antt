use mathlib.Core.Path.{sym, ◌∙◌}
use native.Mathlib.Omega.{arith}
use Rattle.sync.proofs.SizeLoops.{sizing_start, sizing_skip, sizing_room, sizing_put, sizing_grow, sizing_none, last_room, sizing_last}
use Rattle.sync.proofs.sizes.write_sizes.Goals as goal

pub loop-i-init : goal.loop-i-init
loop-i-init c = sizing_start _ _ _ _ _ _ _ _

pub loop-i-preserved-then-not-is_missing : goal.loop-i-preserved-then-not-is_missing
loop-i-preserved-then-not-is_missing c =
    sizing_skip _ _ _ _ _ _ _ _ _ c.loop-i.i _ _ _ _ c.loop-i.invariant c.loop-i-test.true (sym c.if-not-is_missing.true ∙ c.is_missing.ensures)

pub put_figures-requires : goal.put_figures-requires
put_figures-requires c =
    let pre = c.requires in
    sizing_room _ _ _ _ _ _ _ _ _ c.loop-i.i c.loop-i.k c.loop-i.count c.loop-i.size c.loop-i.bytes c.loop-i.invariant _ c.frame_len.ensures pre.2 c.loop-i-test.true (sym c.if-not-is_missing.false ∙ c.is_missing.ensures) _ _ c.row_sizes-row.ensures (sym c.if-starts_next.true ∙ c.starts_next.ensures)

pub loop-i-preserved-then-starts_next : goal.loop-i-preserved-then-starts_next
loop-i-preserved-then-starts_next c =
    let pre = c.requires in
    sizing_put _ _ _ _ _ _ _ _ _ c.loop-i.i c.loop-i.k c.loop-i.count c.loop-i.size c.loop-i.bytes c.loop-i.invariant _ c.frame_len.ensures pre.2 c.loop-i-test.true (sym c.if-not-is_missing.false ∙ c.is_missing.ensures) _ _ c.row_sizes-row.ensures (sym c.if-starts_next.true ∙ c.starts_next.ensures) _ c.put_figures.ensures

pub loop-i-preserved : goal.loop-i-preserved
loop-i-preserved c =
    sizing_grow _ _ _ _ _ _ _ _ _ c.loop-i.i c.loop-i.k c.loop-i.count c.loop-i.size c.loop-i.bytes c.loop-i.invariant c.loop-i-test.true (sym c.if-not-is_missing.false ∙ c.is_missing.ensures) _ _ c.row_sizes-row.ensures (sym c.if-starts_next.false ∙ c.starts_next.ensures)

pub returns-then-count-eq0 : goal.returns-then-count-eq0
returns-then-count-eq0 c =
    sizing_none _ _ _ _ _ _ _ _ _ c.loop-i.i _ _ _ _ c.loop-i.invariant (omega (arith, c.loop-i-test.false)) c.if-count-eq0.true

pub put_figures-requires-2 : goal.put_figures-requires-2
put_figures-requires-2 c =
    let pre = c.requires in
    last_room _ _ _ _ _ _ _ _ _ c.loop-i.i c.loop-i.k c.loop-i.count c.loop-i.size c.loop-i.bytes c.loop-i.invariant _ c.frame_len-2.ensures pre.2 (omega (arith, c.loop-i-test.false)) c.if-count-eq0.false

pub returns : goal.returns
returns c =
    let pre = c.requires in
    sizing_last _ _ _ _ _ _ _ _ _ c.loop-i.i c.loop-i.k c.loop-i.count c.loop-i.size c.loop-i.bytes c.loop-i.invariant _ c.frame_len-2.ensures pre.2 (omega (arith, c.loop-i-test.false)) c.if-count-eq0.false _ c.put_figures-2.ensures

use mathlib.Core.Path.{sym, ◌∙◌}
use native.Mathlib.Omega.{arith}
use Rattle.sync.proofs.DeltaLoops.{tallying_skip, tallying_next, tallying_grow, tallying_none, tallying_last}
use Rattle.sync.proofs.chunk.count_chunks.Goals as goal

pub loop-i-preserved-then-not-is_missing : goal.loop-i-preserved-then-not-is_missing
loop-i-preserved-then-not-is_missing c =
    tallying_skip _ _ _ _ _ c.loop-i.i _ _ _ c.loop-i.invariant c.loop-i-test.true (sym c.if-not-is_missing.true ∙ c.is_missing.ensures)

pub loop-i-preserved-then-starts_next : goal.loop-i-preserved-then-starts_next
loop-i-preserved-then-starts_next c =
    tallying_next _ _ _ _ _ c.loop-i.i c.loop-i.k c.loop-i.count c.loop-i.size c.loop-i.invariant c.loop-i-test.true (sym c.if-not-is_missing.false ∙ c.is_missing.ensures) _ c.row_size-row.ensures.0 c.row_size-row.ensures.1 (sym c.if-starts_next.true ∙ c.starts_next.ensures)

pub loop-i-preserved : goal.loop-i-preserved
loop-i-preserved c =
    tallying_grow _ _ _ _ _ c.loop-i.i c.loop-i.k c.loop-i.count c.loop-i.size c.loop-i.invariant c.loop-i-test.true (sym c.if-not-is_missing.false ∙ c.is_missing.ensures) _ c.row_size-row.ensures.0 c.row_size-row.ensures.1 (sym c.if-starts_next.false ∙ c.starts_next.ensures)

pub returns-then-count-eq0 : goal.returns-then-count-eq0
returns-then-count-eq0 c = tallying_none _ _ _ _ _ c.loop-i.i _ _ _ c.loop-i.invariant (omega arith) c.if-count-eq0.true

pub returns : goal.returns
returns c = tallying_last _ _ _ _ _ c.loop-i.i _ _ _ c.loop-i.invariant (omega (arith, c.loop-i-test.false)) c.if-count-eq0.false

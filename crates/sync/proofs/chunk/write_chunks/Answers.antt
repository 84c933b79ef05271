use mathlib.Core.Path.{sym, ◌∙◌}
use native.Mathlib.Omega.{arith}
use Rattle.sync.proofs.DeltaLoops.{chunking_start, chunking_skip, chunking_put, chunking_grow, chunking_none, chunking_last}
use Rattle.sync.proofs.chunk.write_chunks.Goals as goal

pub loop-i-init : goal.loop-i-init
loop-i-init c = chunking_start _ _ _ _ _ _

pub loop-i-preserved-then-not-is_missing : goal.loop-i-preserved-then-not-is_missing
loop-i-preserved-then-not-is_missing c = chunking_skip _ _ _ _ _ _ _ c.loop-i.i _ _ _ c.loop-i.invariant c.loop-i-test.true (sym c.if-not-is_missing.true ∙ c.is_missing.ensures)

pub loop-i-preserved-then-starts_next : goal.loop-i-preserved-then-starts_next
loop-i-preserved-then-starts_next c =
    chunking_put _ _ _ _ _ _ _ c.loop-i.i c.loop-i.k c.loop-i.count c.loop-i.size c.loop-i.invariant c.loop-i-test.true (sym c.if-not-is_missing.false ∙ c.is_missing.ensures) _ c.row_size-row.ensures.0 c.row_size-row.ensures.1 _ (sym c.if-starts_next.true ∙ c.starts_next.ensures) c.requires.1 c.put_word.ensures

pub loop-i-preserved : goal.loop-i-preserved
loop-i-preserved c =
    chunking_grow _ _ _ _ _ _ _ c.loop-i.i c.loop-i.k c.loop-i.count c.loop-i.size c.loop-i.invariant c.loop-i-test.true (sym c.if-not-is_missing.false ∙ c.is_missing.ensures) _ c.row_size-row.ensures.0 c.row_size-row.ensures.1 (sym c.if-starts_next.false ∙ c.starts_next.ensures)

pub returns-then-count-eq0 : goal.returns-then-count-eq0
returns-then-count-eq0 c = chunking_none _ _ _ _ _ _ _ c.loop-i.i _ _ _ c.loop-i.invariant (omega arith) c.if-count-eq0.true

pub returns : goal.returns
returns c =
    chunking_last _ _ _ _ _ _ _ c.loop-i.i c.loop-i.k c.loop-i.count _ c.loop-i.invariant _ (omega (arith, c.loop-i-test.false)) c.if-count-eq0.false c.requires.1 c.put_word-2.ensures

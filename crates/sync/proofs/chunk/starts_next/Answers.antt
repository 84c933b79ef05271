use Rattle.sync.proofs.DeltaLoops.{next_empty, next_full, next_large}
use Rattle.sync.proofs.chunk.starts_next.Goals as goal

pub returns-then-n-eq0 : goal.returns-then-n-eq0
returns-then-n-eq0 c = next_empty _ _ _ _ c.if-n-eq0.true

pub returns-then-n-most : goal.returns-then-n-most
returns-then-n-most c = next_full _ _ _ _ c.if-n-eq0.false c.if-n-most.true

pub returns : goal.returns
returns c = next_large _ _ _ _ c.if-n-eq0.false c.if-n-most.false

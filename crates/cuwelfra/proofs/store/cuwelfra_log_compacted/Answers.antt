use native.Mathlib.Omega.{arith}
use Rattle.cuwelfra.proofs.StoreLaws.{clock_short}
use Rattle.cuwelfra.proofs.store.cuwelfra_log_compacted.Goals as goal

pub returns-then-clock-lt520 : goal.returns-then-clock-lt520
returns-then-clock-lt520 c = clock_short _ _ _ (omega arith) c.tell.ensures

pub returns : goal.returns
returns c = c.put_clock.ensures _ c.compacted.ensures

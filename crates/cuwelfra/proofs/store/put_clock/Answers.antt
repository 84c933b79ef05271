use Rattle.cuwelfra.proofs.StoreLaws.{clock_done, clock_refused}
use Rattle.cuwelfra.proofs.store.put_clock.Goals as goal

pub returns-in-Ok : goal.returns-in-Ok
returns-in-Ok c = clock_done _ _ _ c.requires _ _ c.in-Ok.is c.store_clock.ensures c.accept.ensures

pub returns-in-Err : goal.returns-in-Err
returns-in-Err c = clock_refused _ _ _ c.requires _ c.in-Err.is c.tell.ensures

use Rattle.replicated_log.specs.Areas.{areas}
use Rattle.replicated_log.proofs.Calls.Queries.{logged_there, held_there}
use Rattle.cuwelfra.proofs.store.cuwelfra_lookup.Goals as goal

pub payload-requires : goal.payload-requires
payload-requires c =
    let args = c.args in
    let arm = c.in-Ok-Some-Logged in
    logged_there (areas args.log.now args.held.now args.head.now) _ _ _ (rw (arm.field-0-is, arm.field-0-0-is) at arm.ensures)

pub payload-requires-in-Ok-Some-Held : goal.payload-requires-in-Ok-Some-Held
payload-requires-in-Ok-Some-Held c =
    let args = c.args in
    let arm = c.in-Ok-Some-Held in
    held_there (areas args.log.now args.held.now args.head.now) _ _ _ (rw (arm.field-0-is, arm.field-0-0-is) at arm.ensures)

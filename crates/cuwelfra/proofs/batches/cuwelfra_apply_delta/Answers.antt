use Rattle.replicated_log.specs.Areas.{areas}
use Rattle.cuwelfra.proofs.BatchLaws.{delta_exported}
use Rattle.cuwelfra.proofs.batches.cuwelfra_apply_delta.Goals as goal

pub returns : goal.returns
returns c =
    let args = c.args in
    delta_exported (areas args.log.now args.held.now args.head.now) (record { max_pending = args.max_pending; max_pending_per_actor = args.max_pending_per_actor; max_pending_bytes = args.max_pending_bytes; max_pending_age_ms = args.max_pending_age_ms; max_drift_ms = args.max_drift_ms; max_deps = args.max_deps; max_payload = args.max_payload }) _ _ _ _ _ _ _ c.apply_delta.result _ c.clock_by-hybrid.ensures c.apply_delta.ensures c.delta_told.ensures

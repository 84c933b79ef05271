-- What the settings that a call brings stand for.
use Rattle.merging.specs.Batch.{Limits}
use Rattle.batch.specs.declared.MergeLimits.{MergeLimits}

unfoldable pub limits_of : MergeLimits → Limits
limits_of l =
    record {
      max_pending = l.max_pending;
      max_pending_per_actor = l.max_pending_per_actor;
      max_pending_bytes = l.max_pending_bytes;
      max_pending_age = l.max_pending_age_ms;
      max_drift = l.max_drift_ms;
      max_deps = l.max_deps;
      max_payload = l.max_payload;
    }

-- The settings and the answer of the exported batch call as numbers; in a refusal the hybrid clock comes back as it was.
use Rattle.std.specs.Prelude.{ℕ}
use Rattle.words.specs.Names.{Time}
use Rattle.error.specs.Numbers.{told_of}
use Rattle.std.specs.declared.result.Result.TheVariants.{Ok, Err}
use Rattle.error.specs.Answer.{Answer, accepted}
use Rattle.error.specs.declared.Ends.{Ends}
use Rattle.clock.specs.declared.hybrid.HybridClock.{HybridClock}
use Rattle.merging.specs.Batch.{Limits}
use Rattle.merging.specs.Calls.{Lent}
use Rattle.merging.specs.Delta.{DeltaReport, DeltaLeft}
use Rattle.cuwelfra.specs.declared.batches.DeltaTold.{DeltaTold}

-- the settings, in the order of MergeLimits
abbrev pub limits_by : (pending per_actor bytes : ℕ) → (age drift : Time) → (deps payload : ℕ) → Limits
limits_by pending per_actor bytes age drift deps payload =
    record {
      max_pending = pending;
      max_pending_per_actor = per_actor;
      max_pending_bytes = bytes;
      max_pending_age = age;
      max_drift = drift;
      max_deps = deps;
      max_payload = payload;
    }

-- the counts, or the refusal's number and values; and the hybrid clock
abbrev pub joined_told : Answer DeltaReport → HybridClock → DeltaTold
joined_told (Ok x) hybrid =
    record {
      told = accepted;
      applied = x.report.applied;
      stale = x.report.stale;
      rejected = x.report.rejected;
      duplicates = x.report.duplicates;
      held = x.report.held;
      expired = x.report.expired;
      dropped = x.report.dropped;
      failed_folds = x.failed;
      last_wall = hybrid.last_wall;
      last_counter = hybrid.last_counter;
    }
joined_told (Err r) hybrid =
    record {
      told = told_of r;
      applied = 0;
      stale = 0;
      rejected = 0;
      duplicates = 0;
      held = 0;
      expired = 0;
      dropped = 0;
      failed_folds = 0;
      last_wall = hybrid.last_wall;
      last_counter = hybrid.last_counter;
    }

-- the struct, and every lent byte
abbrev pub delta_told : Ends DeltaReport DeltaLeft → DeltaTold × Lent
delta_told e = (joined_told e.answer e.left.hybrid, e.left.lent)

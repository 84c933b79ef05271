-- The answers of the exported hybrid clock calls as numbers; in a refusal the clock comes back as it was.
use Rattle.std.specs.Prelude.{ℕ}
use Rattle.words.specs.Names.{Author, Time}
use Rattle.std.specs.declared.result.Result.TheVariants.{Ok, Err}
use Rattle.error.specs.Answer.{Answer, told_by}
use Rattle.error.specs.declared.Ends.{Ends}
use Rattle.clock.specs.declared.stamp.Timestamp.{Timestamp}
use Rattle.std.specs.declared.cmp.Ordering.{Ordering}
use Rattle.std.specs.declared.cmp.Ordering.TheVariants.{Less, Equal, Greater}
use Rattle.clock.specs.declared.hybrid.HybridClock.{HybridClock}
use Rattle.cuwelfra.specs.declared.hybrid.HybridTold.{HybridTold}
use Rattle.cuwelfra.specs.declared.hybrid.IssuedTold.{IssuedTold}
use Rattle.cuwelfra.specs.declared.hybrid.UpdatedTold.{UpdatedTold}

-- a clock and a stamp from their numbers
abbrev pub clock_by : Author → (wall : Time) → (counter : ℕ) → (drift : Time) → HybridClock
clock_by actor wall counter drift =
    record { actor = record { 0 = actor }; last_wall = wall; last_counter = counter; max_drift_ms = drift }

abbrev pub stamp_by : (wall : Time) → (counter : ℕ) → Author → Timestamp
stamp_by wall counter actor = record { wall_time = wall; logical_counter = counter; actor_id = record { 0 = actor } }

-- 0 less, 1 equal, 2 greater
abbrev pub order_number : Ordering → ℕ
order_number Less = 0
order_number Equal = 1
order_number Greater = 2

abbrev pub hybrid_told : HybridClock → HybridTold
hybrid_told c =
    record { actor = c.actor.0; last_wall = c.last_wall; last_counter = c.last_counter; max_drift_ms = c.max_drift_ms }

-- the stamp, or zeros
abbrev pub wall_of : Answer Timestamp → ℕ
wall_of (Ok t) = t.wall_time
wall_of (Err r) = 0

abbrev pub counter_of : Answer Timestamp → ℕ
counter_of (Ok t) = t.logical_counter
counter_of (Err r) = 0

abbrev pub actor_of : Answer Timestamp → ℕ
actor_of (Ok t) = t.actor_id.0
actor_of (Err r) = 0

abbrev pub issued_told : Ends Timestamp HybridClock → IssuedTold
issued_told m =
    record {
      told = told_by m.answer;
      wall_time = wall_of m.answer;
      logical_counter = counter_of m.answer;
      actor_id = actor_of m.answer;
      last_wall = m.left.last_wall;
      last_counter = m.left.last_counter;
    }

abbrev pub updated_told : Ends Unit HybridClock → UpdatedTold
updated_told m = record { told = told_by m.answer; last_wall = m.left.last_wall; last_counter = m.left.last_counter }

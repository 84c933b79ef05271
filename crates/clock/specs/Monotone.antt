-- That a clock's stamps rise. rs: "Every timestamp it issues is strictly greater than the last one it issued."
use Rattle.std.specs.Prelude.{◌≡◌, true}
use mathlib.Core.List.{List, [], ◌∷◌, Memᴰ}
use Rattle.words.specs.Names.{Time}
use Rattle.std.specs.declared.result.Result.TheVariants.{Ok, Err}
use Rattle.error.specs.Answer.{Answer, done}
use Rattle.clock.specs.Order.{stamp_less}
use Rattle.clock.specs.Hybrid.{now_call, update_call}
use Rattle.clock.specs.declared.stamp.Timestamp.{Timestamp}
use Rattle.clock.specs.declared.hybrid.HybridClock.{HybridClock}

-- what may happen to a clock: a stamp is issued at a physical time, a remote stamp is taken in at one, the drift is set
pub data Event : Type 0 where
  issue : Time → Event
  receive : Timestamp → Time → Event
  drift : Time → Event

-- a clock with the stamps that it has issued and taken in, the newest first
pub record History : Type 0 where
  pub clock : HybridClock
  pub seen : List Timestamp

abbrev pub with_stamp : Answer Timestamp → List Timestamp → List Timestamp
with_stamp (Ok t) ts = t ∷ ts
with_stamp (Err r) ts = ts

abbrev pub with_remote : Answer Unit → Timestamp → List Timestamp → List Timestamp
with_remote (Ok u) m ts = m ∷ ts
with_remote (Err r) m ts = ts

-- a refused event leaves the clock and the stamps
unfoldable pub step : History → Event → History
step h (issue pt) =
    record { clock = (now_call h.clock pt).left; seen = with_stamp (now_call h.clock pt).answer h.seen }
step h (receive m pt) =
    record { clock = (update_call h.clock m pt).left; seen = with_remote (update_call h.clock m pt).answer m h.seen }
step h (drift ms) =
    record {
      clock =
          record {
            actor = h.clock.actor;
            last_wall = h.clock.last_wall;
            last_counter = h.clock.last_counter;
            max_drift_ms = ms;
          };
      seen = h.seen;
    }

-- a history after some events, the first first
unfoldable pub run : History → List Event → History
run h [] = h
run h (e ∷ es) = run (step h e) es

-- Whatever a clock has issued and taken in, through any events, and whatever the physical time says: the next stamp that it issues is
-- greater than each of them. Proved in proofs/Monotone.antt.
abbrev pub IssuedGreater : Type 0
IssuedGreater =
    (j : HybridClock) (es : List Event) (pt : Time) (t : Timestamp)
    → (now_call (run (record { clock = j; seen = [] }) es).clock pt).answer ≡ done t
    → (s : Timestamp) → Memᴰ s (run (record { clock = j; seen = [] }) es).seen → stamp_less s t ≡ true

-- Sending by the paper's rule answers what the Rust answers, which arranges it differently. 02: "Results and overflow are as before."
use Rattle.std.specs.Prelude.{◌+◌, ◌-◌, ◌^◌, ◌≡◌, ltb}
use Rattle.words.specs.Names.{Time}
use Rattle.words.specs.Choice.{pick}
use Rattle.error.specs.declared.Refusal.TheVariants.{CounterOverflow}
use Rattle.error.specs.Answer.{ends, refused}
use Rattle.error.specs.declared.Ends.{Ends}
use Rattle.clock.specs.Hlc.{Hlc, send_l, send_c, send_event}
use Rattle.clock.specs.Hybrid.{stamped_at, now_call}
use Rattle.clock.specs.declared.stamp.Timestamp.{Timestamp}
use Rattle.clock.specs.declared.hybrid.HybridClock.{HybridClock}

-- 01: "Sending: a later physical time gives counter 0, else one more." rs: "if physical > self.last_wall { self.last_wall = physical;
-- self.last_counter = 0; } else { self.last_counter = self .last_counter .checked_add(1) .ok_or(ClockError::CounterOverflow)?; }"
unfoldable pub now_as_rust : HybridClock → Time → Ends Timestamp HybridClock
now_as_rust j pt =
    pick (ltb j.last_wall pt) (stamped_at j (record { l = pt; c = 0 }))
    (pick (ltb j.last_counter (2 ^ 32 - 1)) (stamped_at j (record { l = j.last_wall; c = j.last_counter + 1 }))
    (ends (refused CounterOverflow) j))

-- the event is made of the figure's two lines. Proved in proofs/SendRule.antt.
abbrev pub SendsByLines : Type 0
SendsByLines = (j : Hlc) (pt : Time) → send_event j pt ≡ record { l = send_l j pt; c = send_c j (send_l j pt) }

-- whatever the clock and the physical time. Proved in proofs/SendRule.antt.
abbrev pub SendsAsRust : Type 0
SendsAsRust = (j : HybridClock) (pt : Time) → now_call j pt ≡ now_as_rust j pt

-- The calls of a HybridClock, over the paper's events. 01: "The clock goes in by value and comes back moved on. Drift (20, before 19) is the
-- Rust's, not the paper's." A counter that does not fit 32 bits is 19; a refusal moves nothing.
use Rattle.std.specs.Prelude.{◌^◌, ltb, leb}
use Rattle.words.specs.Names.{Time}
use Rattle.words.specs.Choice.{pick, saturating}
use Rattle.stubs.specs.declared.ActorId.{ActorId}
use Rattle.error.specs.declared.Refusal.TheVariants.{CounterOverflow, RemoteAhead}
use Rattle.error.specs.Answer.{ends, done, refused, nothing}
use Rattle.error.specs.declared.Ends.{Ends}
use Rattle.clock.specs.Hlc.{Hlc, initially, send_event, receive_event}
use Rattle.clock.specs.declared.stamp.Timestamp.{Timestamp}
use Rattle.clock.specs.declared.hybrid.HybridClock.{HybridClock}

-- the paper's clock and stamp inside the Rust's
abbrev pub hlc_of : HybridClock → Hlc
hlc_of j = record { l = j.last_wall; c = j.last_counter }

abbrev pub stamp_hlc : Timestamp → Hlc
stamp_hlc t = record { l = t.wall_time; c = t.logical_counter }

-- a new clock: it has seen nothing. rs: "DEFAULT_MAX_DRIFT_MS: u64 = 60_000"
abbrev pub new_clock : ActorId → HybridClock
new_clock actor = record { actor = actor; last_wall = initially.l; last_counter = initially.c; max_drift_ms = 60000 }

-- the clock of the same actor and drift at e
abbrev pub moved_to : HybridClock → Hlc → HybridClock
moved_to j e = record { actor = j.actor; last_wall = e.l; last_counter = e.c; max_drift_ms = j.max_drift_ms }

-- the actor's stamp at e
abbrev pub stamp_of_event : HybridClock → Hlc → Timestamp
stamp_of_event j e = record { wall_time = e.l; logical_counter = e.c; actor_id = j.actor }

-- that stamp, and the clock moved to it
abbrev pub stamped_at : HybridClock → Hlc → Ends Timestamp HybridClock
stamped_at j e = ends (done (stamp_of_event j e)) (moved_to j e)

-- sending: the paper's event at e, where its counter fits
unfoldable pub issue_at : HybridClock → Hlc → Ends Timestamp HybridClock
issue_at j e = pick (ltb e.c (2 ^ 32)) (ends (done (stamp_of_event j e)) (moved_to j e)) (ends (refused CounterOverflow) j)

unfoldable pub now_call : HybridClock → Time → Ends Timestamp HybridClock
now_call j pt = issue_at j (send_event (hlc_of j) pt)

-- receiving: the paper's event at e, where its counter fits
unfoldable pub receive_at : HybridClock → Hlc → Ends Unit HybridClock
receive_at j e = pick (ltb e.c (2 ^ 32)) (ends (done nothing) (moved_to j e)) (ends (refused CounterOverflow) j)

-- 01: "a stamp beyond the hybrid clock's drift" is 20
unfoldable pub update_call : HybridClock → Timestamp → Time → Ends Unit HybridClock
update_call j m pt =
    pick (leb m.wall_time (saturating pt j.max_drift_ms))
    (receive_at j (receive_event (hlc_of j) (stamp_hlc m) pt))
    (ends (refused (RemoteAhead m.wall_time pt)) j)

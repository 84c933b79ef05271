-- Document 01, "Proved as a group (P)": its cases in one statement, said of the calls. Its proof stands in proofs/Group.antt.
use Rattle.std.specs.Prelude.{ℕ, ◌-◌, ◌^◌, ◌≡◌, List, [], ◌∷◌, ◌++◌, replicate}
use Rattle.std.specs.declared.option.Option.TheVariants.{None}
use Rattle.words.specs.Names.{Author, Seq, Time, Bytes, Clock}
use Rattle.error.specs.declared.Refusal.TheVariants.{Overlong}
use Rattle.error.specs.Numbers.{told}
use Rattle.error.specs.Answer.{Answer, done, nothing, and_then, accepted, told_by, ends, bad}
use Rattle.error.specs.declared.Ends.{Ends}
use Rattle.clock.specs.declared.stamp.Timestamp.{Timestamp}
use Rattle.clock.specs.declared.hybrid.HybridClock.{HybridClock}
use Rattle.clock.specs.declared.vector.CausalOrder.TheVariants.{Concurrent}
use Rattle.clock.specs.Hybrid.{update_call}
use Rattle.clock.specs.Vector.{clock_of, compare_call}
use Rattle.codec.specs.Leb128.{shortest}
use Rattle.codec.specs.Reading.{get_varint}
use Rattle.row.specs.Rows.{Row, HeldRow}
use Rattle.row.specs.Wire.{signed_bytes}
use Rattle.replicated_log.specs.Store.{MaybeStamp, Store}
use Rattle.replicated_log.specs.Areas.{Areas, areas, read_store, write_store}
use Rattle.merging.specs.Batch.{Limits}
use Rattle.merging.specs.Delta.{DeltaReport, DeltaLeft, delta_call}

-- ---- clocks and stamps

-- author 1's clock at wall and counter; its drift is HybridClock::new's
abbrev pub own : (wall counter : ℕ) → HybridClock
own wall counter = record { actor = record { 0 = 1 }; last_wall = wall; last_counter = counter; max_drift_ms = 60000 }

-- author 2's stamp
abbrev pub remote : (wall counter : ℕ) → Timestamp
remote wall counter = record { wall_time = wall; logical_counter = counter; actor_id = record { 0 = 2 } }

-- accepted, and the clock moved on
abbrev pub moved : (wall counter : ℕ) → Ends Unit HybridClock
moved wall counter = ends (done nothing) (own wall counter)

-- ---- rows, stores, settings

abbrev pub stamp_of : (wall : ℕ) → Author → Timestamp
stamp_of wall author = record { wall_time = wall; logical_counter = 0; actor_id = record { 0 = author } }

abbrev pub row_of : (wall : ℕ) → Author → Seq → (deps : Clock) (payload : Bytes) → Row
row_of wall author seq deps payload =
    record { stamp = stamp_of wall author; author = author; seq = seq; deps = deps; payload = payload; signature = [] }

abbrev pub held : (arrival : Time) → Row → HeldRow
held arrival r = record { row = r; arrival = arrival; outcome = 0; detail = 0 }

abbrev pub empty_store : (floor : MaybeStamp) → Store
empty_store f = record { log = []; held = []; floor = f; clock = []; compacted = []; marks = [] }

-- the settings in the order of `Limits`: held rows, held rows of an author, held payload bytes, pending age, drift, dependencies, payload bytes
abbrev pub settings : (pending per_actor bytes age drift deps payload : ℕ) → Limits
settings pending per_actor bytes age drift deps payload =
    record {
      max_pending = pending;
      max_pending_per_actor = per_actor;
      max_pending_bytes = bytes;
      max_pending_age = age;
      max_drift = drift;
      max_deps = deps;
      max_payload = payload;
    }

-- 2:1, which waits for 1:1
abbrev pub r21 : Row
r21 = row_of 3 2 1 ((1, 1) ∷ []) []

-- a store that holds it since it arrived
abbrev pub holding : (arrival : Time) → Store
holding arrival = record { log = []; held = held arrival r21 ∷ []; floor = None; clock = []; compacted = []; marks = [] }

-- areas with room for one logged row, this store written into them
abbrev pub lending : Store → Areas
lending s = write_store (areas (replicate 704 0) (replicate 45056 0) (replicate 2120 0)) s

-- the joined call, by settings of age 50 and drift 60,000
abbrev pub calling : HybridClock → Time → Store → (batch : Bytes) → Ends DeltaReport DeltaLeft
calling j time s batch =
    delta_call (lending s) j
    (record { limits = settings 64 64 65536 50 60000 16 256; time = time; batch = batch; scratch = replicate 704 0; output = replicate 18 0 })

-- a batch of no row, and one of a rightly signed row with outcome 0
abbrev pub no_row : Bytes
no_row = 0 ∷ []

abbrev pub one_row : Row → Bytes
one_row r = 1 ∷ signed_bytes r ++ (1 ∷ 0 ∷ 0 ∷ [])

-- the rows held after a call, and how many expired
abbrev pub held_after : Ends DeltaReport DeltaLeft → Answer (List HeldRow × ℕ)
held_after x = and_then x.answer (λ told. and_then (read_store x.left.lent.areas) (λ s. done (s.held, told.report.expired)))

-- ---- the cases

pub record P : Type 0 where
  -- 01: "300 is AC 02, 2^64 − 1 is nine FF then 01"; of its third case 02: "80 00 (hexadecimal) no longer reads as 0"
  pub three_hundred : shortest 300 ≡ 0xac ∷ 0x02 ∷ []
  pub greatest : shortest (2 ^ 64 - 1) ≡ 0xff ∷ 0xff ∷ 0xff ∷ 0xff ∷ 0xff ∷ 0xff ∷ 0xff ∷ 0xff ∷ 0xff ∷ 0x01 ∷ []
  pub overlong_zero : get_varint (0x80 ∷ 0x00 ∷ []) 0 ≡ bad Overlong
  -- 01: "own 10/3 (wall/counter), remote 10/7, physical 10 gives 10/8; remote 9/7 gives 10/4; remote 12/7 gives 12/8; remote 9/7 with physical 13 gives 13/0"
  pub equal_walls : update_call (own 10 3) (remote 10 7) 10 ≡ moved 10 8
  pub own_wall : update_call (own 10 3) (remote 9 7) 10 ≡ moved 10 4
  pub remote_wall : update_call (own 10 3) (remote 12 7) 10 ≡ moved 12 8
  pub physical_wall : update_call (own 10 3) (remote 9 7) 13 ≡ moved 13 0
  -- 01: "{1: 2} and {2: 1} are concurrent"
  pub concurrent : compare_call (clock_of ((1, 2) ∷ [])) (clock_of ((2, 1) ∷ [])) ≡ done Concurrent
  -- 01: "arrival 100, age 50: kept at 150, expired at 151"; whatever the hybrid clock
  pub kept : (j : HybridClock) → held_after (calling j 150 (holding 100) no_row) ≡ done (held 100 r21 ∷ [], 0)
  pub expired : (j : HybridClock) → held_after (calling j 151 (holding 100) no_row) ≡ done ([], 1)
  -- 01: "time 1,000, drift 60,000: 61,000 passes, 61,001 is 11"
  pub passes : (j : HybridClock) → told_by (calling j 1000 (empty_store None) (one_row (row_of 61000 1 1 [] []))).answer ≡ accepted
  pub ahead : (j : HybridClock) → told_by (calling j 1000 (empty_store None) (one_row (row_of 61001 1 1 [] []))).answer ≡ told 11 1 1

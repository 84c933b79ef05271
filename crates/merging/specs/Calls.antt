-- Over whole areas: a batch merged, and setting the floor. 01: "Order in a batch call: 4 for settings, 2 for store areas, then 1; 3 and 4 by the first
-- fault in reading; 2 for output and scratch; 5 to 12 row by row in that order; 13 by row; 14 to 18."
use Rattle.std.specs.Prelude.{ℕ, ◌+◌, ◌*◌, Bool, ◌&&◌, length, replicate, leb}
use Rattle.std.specs.declared.option.Option.TheVariants.{Some}
use Rattle.words.specs.Names.{Time, Bytes, Area}
use Rattle.words.specs.Sizes.{slot_size, line_size}
use Rattle.words.specs.Choice.{pick}
use Rattle.words.specs.Areas.{put_at}
use Rattle.error.specs.declared.Refusal.TheVariants.{OverCapacity, ShortArea}
use Rattle.std.specs.declared.result.Result.TheVariants.{Ok, Err}
use Rattle.error.specs.Answer.{Answer, done, refused, nothing, and_then, unless, ends}
use Rattle.error.specs.declared.Ends.{Ends}
use Rattle.clock.specs.declared.stamp.Timestamp.{Timestamp}
use Rattle.replicated_log.specs.Store.{MaybeStamp, Store}
use Rattle.replicated_log.specs.Areas.{Areas, capacity, read_store, write_store, leave}
use Rattle.merging.specs.Batch.{Limits, limits_ok, read_batch}
use Rattle.merging.specs.Merging.{above_floor, Report, Merged, merge}

-- ---- a batch

-- what a call brings beside the store: 01: "A call brings settings (`MergeLimits`), the time in ms, the store, a batch, a scratch area and an output area."
pub record BatchCall : Type 0 where
  pub limits : Limits
  pub time : Time
  pub batch : Bytes
  pub scratch : Area
  pub output : Area

-- 01: "output 18 × (held + batch rows) bytes; scratch 704 × (held + batch rows)"
unfoldable pub room_for : (rows : ℕ) (scratch output : Area) → Bool
room_for rows scratch output = leb (line_size * rows) (length output) && leb (slot_size * rows) (length scratch)

unfoldable pub batch_answer : Areas → BatchCall → Answer Merged
batch_answer a c =
    unless (limits_ok c.limits) OverCapacity
    (and_then (read_store a) (λ s.
    and_then (read_batch c.batch) (λ rows.
    unless (room_for (length s.held + length rows) c.scratch c.output) ShortArea
    (merge (capacity a.log) c.limits c.time s rows))))

-- every lent byte afterwards
pub record Lent : Type 0 where
  pub areas : Areas
  pub scratch : Area
  pub output : Area

-- 01: "A refusal changes no lent byte except that scratch is always all zero after the call."; of the output, 01: "Later bytes stay."
unfoldable pub batch_ends : Areas → BatchCall → Answer Merged → Ends Report Lent
batch_ends a c (Ok m) =
    ends (done m.report)
    (record { areas = write_store a m.store; scratch = replicate (length c.scratch) 0; output = put_at c.output 0 m.lines })
batch_ends a c (Err r) =
    ends (refused r)
    (record { areas = a; scratch = replicate (length c.scratch) 0; output = c.output })

unfoldable pub batch_call : Areas → BatchCall → Ends Report Lent
batch_call a c = batch_ends a c (batch_answer a c)

-- ---- setting the floor

-- rs: "It never lowers it"
unfoldable pub raise_floor : MaybeStamp → Timestamp → MaybeStamp
raise_floor floor t = pick (above_floor floor t) (Some t) floor

abbrev pub with_floor : Store → Timestamp → Store
with_floor s t =
    record {
      log = s.log;
      held = s.held;
      floor = raise_floor s.floor t;
      clock = s.clock;
      compacted = s.compacted;
      marks = s.marks;
    }

unfoldable pub set_floor_call : Areas → Timestamp → Ends Unit Areas
set_floor_call a t = leave a (and_then (read_store a) (λ s. done (nothing, with_floor s t)))

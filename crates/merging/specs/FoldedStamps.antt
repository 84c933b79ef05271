-- What a batch's stamps do to the hybrid clock that the joined call hands back. Statements; their proofs stand in proofs/FoldedStamps.antt.
use Rattle.std.specs.Prelude.{◌+◌, ◌≤◌, ◌≡◌, true, length}
use mathlib.Core.List.{List, [], ◌∷◌, map, Memᴰ}
use Rattle.words.specs.Names.{Time}
use Rattle.words.specs.Choice.{saturating}
use Rattle.error.specs.Answer.{done}
use Rattle.clock.specs.declared.stamp.Timestamp.{Timestamp}
use Rattle.clock.specs.declared.hybrid.HybridClock.{HybridClock}
use Rattle.clock.specs.Order.{stamp_less}
use Rattle.clock.specs.Hybrid.{now_call, update_call}
use Rattle.clock.specs.Monotone.{Event, History, run, with_remote}
use Rattle.replicated_log.specs.Areas.{Areas}
use Rattle.merging.specs.Batch.{read_batch}
use Rattle.merging.specs.Calls.{BatchCall}
use Rattle.merging.specs.Delta.{fold, stamps_read, DeltaReport, delta_call}

-- the stamps whose fold passed, the first first
unfoldable pub passed : HybridClock → Time → List Timestamp → List Timestamp
passed j time [] = []
passed j time (t ∷ ts) = with_remote (update_call j t time).answer t (passed (update_call j t time).left time ts)

-- each stamp passed or is counted
abbrev pub FoldsCounted : Type 0
FoldsCounted = (j : HybridClock) (time : Time) (ts : List Timestamp) → length (passed j time ts) + (fold j time ts).failed ≡ length ts

-- folding stamps moves a clock as its history does that receives them one after the other (clock/specs/Monotone.antt), whatever it issued and received before
abbrev pub FoldsReceive : Type 0
FoldsReceive = (h : History) (time : Time) (ts : List Timestamp) → (fold h.clock time ts).clock ≡ (run h (map (λ t. Event.receive t time) ts)).clock

-- after an accepted call, whatever the physical time then says: the next stamp that the clock issues is greater than each stamp of the batch whose fold passed
abbrev pub IssuedAbove : Type 0
IssuedAbove =
    (a : Areas) (j : HybridClock) (c : BatchCall) (x : DeltaReport) → (delta_call a j c).answer ≡ done x
    → (pt : Time) (t : Timestamp) → (now_call (delta_call a j c).left.hybrid pt).answer ≡ done t
    → (s : Timestamp) → Memᴰ s (passed j c.time (stamps_read (read_batch c.batch))) → stamp_less s t ≡ true

-- so where none failed, it is greater than every stamp of the batch
abbrev pub IssuedAboveAll : Type 0
IssuedAboveAll =
    (a : Areas) (j : HybridClock) (c : BatchCall) (x : DeltaReport) → (delta_call a j c).answer ≡ done x → x.failed ≡ 0
    → (pt : Time) (t : Timestamp) → (now_call (delta_call a j c).left.hybrid pt).answer ≡ done t
    → (s : Timestamp) → Memᴰ s (stamps_read (read_batch c.batch)) → stamp_less s t ≡ true

-- 19 stops a fold of an accepted batch only where the clock is above that stamp already: 7 has kept the last counter out. So, failed folds or not, the next
-- stamp is greater than each stamp of the batch that is within the clock's drift; only 20 can leave a stamp of the batch that is not below it
abbrev pub IssuedAboveWithin : Type 0
IssuedAboveWithin =
    (a : Areas) (j : HybridClock) (c : BatchCall) (x : DeltaReport) → (delta_call a j c).answer ≡ done x
    → (pt : Time) (t : Timestamp) → (now_call (delta_call a j c).left.hybrid pt).answer ≡ done t
    → (s : Timestamp) → Memᴰ s (stamps_read (read_batch c.batch)) → s.wall_time ≤ saturating c.time j.max_drift_ms → stamp_less s t ≡ true

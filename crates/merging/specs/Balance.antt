-- 01: "Held before + batch rows = expired + duplicates + applied + stale + rejected + dropped + held after, each defined by the steps.", for every accepted merge, on
-- any store and batch. Statements; their proofs stand in proofs/Balance.antt.
use Rattle.std.specs.Prelude.{ℕ, ◌+◌, ◌≡◌, List, length}
use Rattle.words.specs.Names.{Time}
use Rattle.error.specs.Answer.{done}
use Rattle.clock.specs.declared.hybrid.HybridClock.{HybridClock}
use Rattle.row.specs.Reading.{BatchRow}
use Rattle.replicated_log.specs.Store.{Store}
use Rattle.replicated_log.specs.Areas.{Areas, read_store}
use Rattle.merging.specs.Batch.{Limits, read_batch}
use Rattle.merging.specs.Merging.{Report, Merged, merge}
use Rattle.merging.specs.Calls.{BatchCall}
use Rattle.merging.specs.Delta.{DeltaReport, delta_call}

-- the sum, of a report
abbrev pub Sums : (held-before rows : ℕ) → Report → Type 0
Sums held-before rows r =
    held-before + rows ≡ r.expired + r.duplicates + r.applied + r.stale + r.rejected + r.dropped + r.held

-- what a merge reports, of a store with so many rows held and a batch of so many
pub record Balanced (held-before rows : ℕ) (m : Merged) : Type 0 where
  pub balance : Sums held-before rows m.report
  pub held_after : m.report.held ≡ length m.store.held

abbrev pub Balance : Type 0
Balance =
    (cap : ℕ) (l : Limits) (time : Time) (s : Store) (rows : List BatchRow) (m : Merged) → merge cap l time s rows ≡ done m
    → Balanced (length s.held) (length rows) m

-- the same of the joined call over areas: its report is that of the store that the areas hold and of the rows that the batch holds
abbrev pub DeltaBalance : Type 0
DeltaBalance =
    (a : Areas) (j : HybridClock) (c : BatchCall) (s : Store) (rows : List BatchRow) (x : DeltaReport) → read_store a ≡ done s
    → read_batch c.batch ≡ done rows → (delta_call a j c).answer ≡ done x → Sums (length s.held) (length rows) x.report

-- Document 02, ticket 13: stores that let rows expire. The first store is the one that does, the second keeps demand 3's limit. Statements; their proofs stand in
-- proofs/Expiring.antt.
use Rattle.std.specs.Prelude.{◌+◌, ◌≤◌, ◌<◌, ◌≡◌, ◌↔◌, ◌⊎◌, true, length}
use mathlib.Core.List.{List, [], ◌∷◌, ◌++◌, Memᴰ, Sublistᴰ}
use Rattle.error.specs.Answer.{done, nothing}
use Rattle.clock.specs.declared.hybrid.HybridClock.{HybridClock}
use Rattle.clock.specs.Entries.{get}
use Rattle.row.specs.Rows.{Row}
use Rattle.row.specs.Reading.{BatchRow}
use Rattle.replicated_log.specs.Store.{Store}
use Rattle.replicated_log.specs.Areas.{Areas, rows_of, capacity, read_store}
use Rattle.merging.specs.Batch.{limits_ok, read_batch, validate_all}
use Rattle.merging.specs.Merging.{quotas}
use Rattle.merging.specs.Calls.{BatchCall, room_for}
use Rattle.merging.specs.Delta.{DeltaReport, delta_call}
use Rattle.merging.specs.Offers.{Call, Given, AllGiven, after_call, run_calls, Empty, batch_rows, rows_read, offered, accepted, Spans, OneContent, AllMayStand, Within}

-- two lists of calls on two stores as `Demand3` has them, but for the times of their batches, which are any
pub record AtAnyTimes (a₁ a₂ : Areas) (cs₁ cs₂ : List Call) : Type 0 where
  pub given₁ : AllGiven cs₁
  pub given₂ : AllGiven cs₂
  pub empty₁ : Empty a₁
  pub empty₂ : Empty a₂
  pub may_stand₁ : AllMayStand a₁ [] cs₁
  pub may_stand₂ : AllMayStand a₂ [] cs₂
  pub one_content_lem : OneContent (offered a₁ cs₁ ++ offered a₂ cs₂)

-- the rows of a batch that catches up, by the rows offered to the second store and the first's log
pub record CarriesMissing (offers log rows : List Row) : Type 0 where
  -- 02: "carries every row offered in the second's whole list that the first has not logged": one that the first only holds too, for it may expire in that very
  -- batch
  pub every : (r : Row) → Memᴰ r offers → (Memᴰ r log → ⊥) → Memᴰ r rows
  -- 02: "both offered the same rows": the batch is offered to the first, so that it carries no row that the second was not offered
  pub no_other : Within rows offers

-- the areas hold a store, and 02: "both logs, clocks and held rows are equal", compared as in `Agree`
pub record Equals (a : Areas) (t : Store) : Type 0 where
  pub store : Store
  pub holds : read_store a ≡ done store
  pub log : store.log ≡ t.log
  pub clock : store.clock ≡ t.clock
  pub held : rows_of store.held ≡ rows_of t.held

-- what holds of the two lists
pub record CatchesUp (a₁ a₂ : Areas) (cs₁ cs₂ : List Call) : Type 0 where
  pub store₁ : Store
  pub store₂ : Store
  pub holds₁ : read_store (run_calls a₁ cs₁) ≡ done store₁
  pub holds₂ : read_store (run_calls a₂ cs₂) ≡ done store₂
  -- 02: "Every row of the first's log is in the second's log, in the same relative order."
  pub part : Sublistᴰ store₁.log store₂.log
  -- 02: "directly after the first accepts one batch": at any time, with any settings, areas and hybrid clock. Of later calls nothing is said: 02: "a later batch may
  -- let its held rows expire again"
  pub caught_up : (hybrid : HybridClock) (c : BatchCall) (x : DeltaReport) → Given (Call.batch hybrid c) → (delta_call (run_calls a₁ cs₁) hybrid c).answer ≡ done x
      → CarriesMissing (offered a₂ cs₂) store₁.log (rows_read (read_batch c.batch))
      → Equals (after_call (run_calls a₁ cs₁) (Call.batch hybrid c)) store₂

-- the ticket. 02: "Drop the limit on the span of batch times for one of two stores, the other keeping it": `Spans` is asked of the second alone. Of "both offered
-- the same rows" one half is enough: the first was offered no row that the second was not. What else the second was offered comes with the batch
abbrev pub Ticket13 : Type 0
Ticket13 =
    (a₁ a₂ : Areas) (cs₁ cs₂ : List Call) → AtAnyTimes a₁ a₂ cs₁ cs₂
    → Spans (accepted a₂ cs₂) → Within (offered a₁ cs₁) (offered a₂ cs₂) → CatchesUp a₁ a₂ cs₁ cs₂

-- ---- the ticket as it is written

abbrev pub SameRows : List Row → List Row → Type 0
SameRows rows₁ rows₂ = Within rows₁ rows₂ × Within rows₂ rows₁

-- 02: "both offered the same rows", where the batch that catches up is the last call of the first list: that it carries no other row follows
pub record AsWritten (a₁ a₂ : Areas) (cs₁ cs₂ : List Call) : Type 0 where
  pub store₁ : Store
  pub store₂ : Store
  pub holds₁ : read_store (run_calls a₁ cs₁) ≡ done store₁
  pub holds₂ : read_store (run_calls a₂ cs₂) ≡ done store₂
  pub part : SameRows (offered a₁ cs₁) (offered a₂ cs₂) → Sublistᴰ store₁.log store₂.log
  pub caught_up : (hybrid : HybridClock) (c : BatchCall) (x : DeltaReport) → Given (Call.batch hybrid c) → (delta_call (run_calls a₁ cs₁) hybrid c).answer ≡ done x
      → SameRows (offered a₁ (cs₁ ++ (Call.batch hybrid c ∷ []))) (offered a₂ cs₂)
      → ((r : Row) → Memᴰ r (offered a₂ cs₂) → (Memᴰ r store₁.log → ⊥) → Memᴰ r (rows_read (read_batch c.batch)))
      → Equals (run_calls a₁ (cs₁ ++ (Call.batch hybrid c ∷ []))) store₂

abbrev pub Ticket13AsWritten : Type 0
Ticket13AsWritten =
    (a₁ a₂ : Areas) (cs₁ cs₂ : List Call) → AtAnyTimes a₁ a₂ cs₁ cs₂ → Spans (accepted a₂ cs₂) → AsWritten a₁ a₂ cs₁ cs₂

-- ---- what a desk does that was away

-- what to send it: the rows of the second's log above the first's clock, and all that the second holds
abbrev pub EnoughToSend : Type 0
EnoughToSend =
    (a₁ a₂ : Areas) (cs₁ cs₂ : List Call) → AtAnyTimes a₁ a₂ cs₁ cs₂
    → Spans (accepted a₂ cs₂) → Within (offered a₁ cs₁) (offered a₂ cs₂)
    → (s₁ s₂ : Store) → read_store (run_calls a₁ cs₁) ≡ done s₁ → read_store (run_calls a₂ cs₂) ≡ done s₂
    → (rows : List Row)
    → ((r : Row) → Memᴰ r rows ↔ ((Memᴰ r s₂.log × (get s₁.clock r.author < r.seq)) ⊎ Memᴰ r (rows_of s₂.held)))
    → CarriesMissing (offered a₂ cs₂) s₁.log rows

-- when the batch is accepted: it passes 4, 2, 1 and 3 and its rows pass 5 to 12, as ever; what the second holds is within its quotas, and the first's log has room
-- for the rows of the second's. Then 13 to 18 do not come
abbrev pub CatchUpAccepted : Type 0
CatchUpAccepted =
    (a₁ a₂ : Areas) (cs₁ cs₂ : List Call) → AtAnyTimes a₁ a₂ cs₁ cs₂
    → Spans (accepted a₂ cs₂) → Within (offered a₁ cs₁) (offered a₂ cs₂)
    → (s₁ s₂ : Store) → read_store (run_calls a₁ cs₁) ≡ done s₁ → read_store (run_calls a₂ cs₂) ≡ done s₂
    → (hybrid : HybridClock) (c : BatchCall) (rows : List BatchRow) → limits_ok c.limits ≡ true → read_batch c.batch ≡ done rows
    → room_for (length s₁.held + length rows) c.scratch c.output ≡ true → validate_all c.limits c.time rows ≡ done nothing
    → CarriesMissing (offered a₂ cs₂) s₁.log (batch_rows rows)
    → quotas c.limits s₂.held ≡ done nothing → length s₂.log ≤ capacity (run_calls a₁ cs₁).log
    → (x : DeltaReport) × ((delta_call (run_calls a₁ cs₁) hybrid c).answer ≡ done x)

-- how it sees that nothing is missing from its log: the clocks are equal, whatever either store let expire
abbrev pub ClocksTell : Type 0
ClocksTell =
    (a₁ a₂ : Areas) (cs₁ cs₂ : List Call) → AtAnyTimes a₁ a₂ cs₁ cs₂
    → (s₁ s₂ : Store) → read_store (run_calls a₁ cs₁) ≡ done s₁ → read_store (run_calls a₂ cs₂) ≡ done s₂
    → s₁.clock ≡ s₂.clock → s₁.log ≡ s₂.log

-- 01: "A refusal changes no lent byte except that scratch is always all zero after the call."; 02: "here a refusal moves nothing"; and what a floor setting and a
-- sealing leave. Statements; their proofs stand in proofs/LentBytes.antt.
use Rattle.std.specs.Prelude.{◌≡◌, length, replicate}
use Rattle.words.specs.Names.{Bytes}
use Rattle.error.specs.declared.Refusal.{Refusal}
use Rattle.error.specs.Answer.{done, refused, nothing}
use Rattle.clock.specs.declared.stamp.Timestamp.{Timestamp}
use Rattle.clock.specs.declared.hybrid.HybridClock.{HybridClock}
use Rattle.row.specs.Rows.{Row}
use Rattle.replicated_log.specs.Store.{Store}
use Rattle.replicated_log.specs.Areas.{Areas, read_store, write_store}
use Rattle.replicated_log.specs.Insertion.{insert}
use Rattle.merging.specs.Calls.{BatchCall, set_floor_call}
use Rattle.merging.specs.Delta.{DeltaLeft, delta_call}
use Rattle.merging.specs.Desk.{PrepareCall, prepare_call, read_sealed, seal_call}

-- after a joined call: the three areas and the output as lent, scratch zero, and the hybrid clock as it came
pub record Unchanged (a : Areas) (j : HybridClock) (c : BatchCall) (left : DeltaLeft) : Type 0 where
  pub areas_kept : left.lent.areas ≡ a
  pub output_kept : left.lent.output ≡ c.output
  pub scratch_zero : left.lent.scratch ≡ replicate (length c.scratch) 0
  pub hybrid_kept : left.hybrid ≡ j

abbrev pub RefusedLeaves : Type 0
RefusedLeaves =
    (a : Areas) (j : HybridClock) (c : BatchCall) (r : Refusal) → (delta_call a j c).answer ≡ refused r → Unchanged a j c (delta_call a j c).left

abbrev pub FloorRefusedLeaves : Type 0
FloorRefusedLeaves = (a : Areas) (t : Timestamp) (r : Refusal) → (set_floor_call a t).answer ≡ refused r → (set_floor_call a t).left ≡ a

-- a floor setting writes the store that the areas hold with its floor alone raised: log, held rows, clocks and watermarks are as they were
pub record Floored (a : Areas) (s : Store) (t : Timestamp) : Type 0 where
  pub store : Store
  pub writes : (set_floor_call a t).left ≡ write_store a store
  pub log : store.log ≡ s.log
  pub held : store.held ≡ s.held
  pub clock : store.clock ≡ s.clock
  pub compacted : store.compacted ≡ s.compacted
  pub marks : store.marks ≡ s.marks

abbrev pub FloorLeaves : Type 0
FloorLeaves = (a : Areas) (s : Store) (t : Timestamp) → read_store a ≡ done s → Floored a s t

-- a refused preparing hands the hybrid clock back as it came, and leaves the output
abbrev pub PrepareRefusedLeaves : Type 0
PrepareRefusedLeaves =
    (c : PrepareCall) (r : Refusal) → (prepare_call c).answer ≡ refused r → (prepare_call c).left ≡ record { hybrid = c.hybrid; output = c.output }

abbrev pub SealRefusedLeaves : Type 0
SealRefusedLeaves =
    (a : Areas) (bytes signature : Bytes) (r : Refusal) → (seal_call a bytes signature).answer ≡ refused r → (seal_call a bytes signature).left ≡ a

-- an accepted sealing writes the store with the row inserted, whose held rows, floor and compacted clock are as they were
pub record SealedInto (a : Areas) (s : Store) (bytes signature : Bytes) : Type 0 where
  pub row : Row
  pub reads : read_sealed bytes signature ≡ done row
  pub writes : (seal_call a bytes signature).left ≡ write_store a (insert s row)
  pub held : (insert s row).held ≡ s.held
  pub floor : (insert s row).floor ≡ s.floor
  pub compacted : (insert s row).compacted ≡ s.compacted

abbrev pub SealLeaves : Type 0
SealLeaves =
    (a : Areas) (s : Store) (bytes signature : Bytes) → read_store a ≡ done s → (seal_call a bytes signature).answer ≡ done nothing
    → SealedInto a s bytes signature

-- Document 01, "Call lists and fair offers" (demand 3), with the sealings of document 02, ticket 1, and the joined call of ticket 2: call lists, what they offer,
-- when offers are fair, causal listings, and what demand 3 says. The theorem stands in proofs/Convergence.antt.
use Rattle.std.specs.Prelude.{ℕ, suc, ◌+◌, ◌≤◌, ◌<◌, ◌^◌, ◌≡◌, ◌↔◌, Bool, true, not, ◌&&◌, ◌||◌, ltb, eqb}
use mathlib.Core.List.{List, [], ◌∷◌, ◌++◌, map, Memᴰ, Sublistᴰ}
use Rattle.words.specs.Names.{Author, Seq, Time, Bytes}
use Rattle.words.specs.Be.{AllBytes}
use Rattle.words.specs.Lists.{count_if}
use Rattle.std.specs.declared.result.Result.TheVariants.{Ok, Err}
use Rattle.error.specs.Answer.{Answer, done, refused, nothing}
use Rattle.clock.specs.declared.stamp.Timestamp.{Timestamp}
use Rattle.clock.specs.declared.hybrid.HybridClock.{HybridClock}
use Rattle.clock.specs.Order.{stamp_less}
use Rattle.clock.specs.Entries.{get}
use Rattle.row.specs.Rows.{Row, work_less, stamp_ok}
use Rattle.row.specs.Reading.{BatchRow}
use Rattle.replicated_log.specs.Store.{Store}
use Rattle.replicated_log.specs.Areas.{Areas, rows_of, read_store}
use Rattle.merging.specs.Batch.{read_batch}
use Rattle.merging.specs.Calls.{BatchCall, set_floor_call}
use Rattle.merging.specs.Delta.{delta_call}
use Rattle.merging.specs.Desk.{read_sealed, seal_call, Own}
use Rattle.merging.specs.Merging.{same_content}

-- 01: "A call list is any list of batch calls and floor settings on one store, refused ones included."; and sealings, each by its bytes and its signature. 02:
-- "What is said about two stores covers the joined call; hybrid clocks are no part of that comparison.": each batch call has any hybrid clock
pub data Call : Type 0 where
  batch : (hybrid : HybridClock) → BatchCall → Call
  floor : Timestamp → Call
  seal : (bytes signature : Bytes) → Call

-- 01: "batch, settings, time, floor and the other areas are any at all": a byte is below 256, the time and the numbers of a stamp fit their widths
abbrev pub Given : Call → Type 0
Given (batch hybrid c) = (c.time < 2 ^ 64) × AllBytes c.batch
Given (floor t) = stamp_ok t ≡ true
Given (seal bytes signature) = AllBytes bytes × AllBytes signature

-- each call of a list is one that can be made
abbrev pub AllGiven : List Call → Type 0
AllGiven cs = (c : Call) → Memᴰ c cs → Given c

-- 01: "Each call gets the store as the last one returned or left it": the very definitions that the exported calls' contracts cite
unfoldable pub after_call : Areas → Call → Areas
after_call a (batch hybrid c) = (delta_call a hybrid c).left.lent.areas
after_call a (floor t) = (set_floor_call a t).left
after_call a (seal bytes signature) = (seal_call a bytes signature).left

unfoldable pub run_calls : Areas → List Call → Areas
run_calls a [] = a
run_calls a (c ∷ cs) = run_calls (after_call a c) cs

-- 01: "It starts from an empty store: no row logged or held, no number in the clock, no watermark."; any floor. Then no row was compacted either: by the store
-- rules the clock is the compacted clock with each logged row observed
pub record Empty (a : Areas) : Type 0 where
  pub store : Store
  pub holds : read_store a ≡ done store
  pub log : store.log ≡ []
  pub held : store.held ≡ []
  pub clock : store.clock ≡ []
  pub marks : store.marks ≡ []

-- ---- offers

-- the rows of a batch; none where it cannot be read
unfoldable pub batch_rows : List BatchRow → List Row
batch_rows bs = map (λ b. b.row) bs

abbrev pub rows_read : Answer (List BatchRow) → List Row
rows_read (Ok bs) = batch_rows bs
rows_read (Err r) = []

-- the row of a sealing
abbrev pub row_read : Answer Row → List Row
row_read (Ok r) = r ∷ []
row_read (Err f) = []

abbrev pub when_accepted : {A B : Type 0} → Answer A → List B → List B
when_accepted (Ok x) l = l
when_accepted (Err r) l = []

-- 01: "A row is offered to a store when an accepted batch of its list holds it"; 02: "A desk's own row, sealed as prepared, counts as offered to its store": every
-- accepted sealing; `AllMayStand` asks `Own` of each
unfoldable pub offered_by : Areas → Call → List Row
offered_by a (batch hybrid c) = when_accepted (delta_call a hybrid c).answer (rows_read (read_batch c.batch))
offered_by a (floor t) = []
offered_by a (seal bytes signature) = when_accepted (seal_call a bytes signature).answer (row_read (read_sealed bytes signature))

unfoldable pub offered : Areas → List Call → List Row
offered a [] = []
offered a (c ∷ cs) = offered_by a c ++ offered (after_call a c) cs

-- the time and the pending age of an accepted batch
pub record Accepted : Type 0 where
  pub time : Time
  pub age : Time

unfoldable pub accepted_by : Areas → Call → List Accepted
accepted_by a (batch hybrid c) = when_accepted (delta_call a hybrid c).answer (record { time = c.time; age = c.limits.max_pending_age } ∷ [])
accepted_by a (floor t) = []
accepted_by a (seal bytes signature) = []

unfoldable pub accepted : Areas → List Call → List Accepted
accepted a [] = []
accepted a (c ∷ cs) = accepted_by a c ++ accepted (after_call a c) cs

-- 01: "the times of accepted batches span at most the least pending age among those batches": no two times are further apart than any of the ages
abbrev pub Spans : List Accepted → Type 0
Spans bs = (x y z : Accepted) → Memᴰ x bs → Memᴰ y bs → Memᴰ z bs → x.time ≤ y.time + z.age

-- 01: "Offers are fair when no author and sequence is offered with two contents, in one store or across both"; 01: "equal author, sequence and content make one
-- row"
abbrev pub OneContent : List Row → Type 0
OneContent rows = (r s : Row) → Memᴰ r rows → Memᴰ s rows → r.author ≡ s.author → r.seq ≡ s.seq → r ≡ s

-- and two rows are equal where step 2 would compare them as equal; proved in proofs/RowContent.antt
abbrev pub OneRow : Type 0
OneRow = (r s : Row) → ((r.author ≡ s.author) × (r.seq ≡ s.seq) × (same_content r s ≡ true)) ↔ (r ≡ s)

-- ---- sealings

-- 02: "In a call list of demand 3 such a sealing, or a refused one, may stand beside batch calls and floor settings, and no other sealing may."
abbrev pub MayStand : Areas → (before : List Row) → Call → Type 0
MayStand a before (batch hybrid c) = Unit
MayStand a before (floor t) = Unit
MayStand a before (seal bytes signature) =
    (r : Row) → (seal_call a bytes signature).answer ≡ done nothing → read_sealed bytes signature ≡ done r → Own a before r

-- each call of a list may stand where it stands
pub data AllMayStand : Areas → (before : List Row) → List Call → Type 0 where
  none : {a : Areas} {before : List Row} → AllMayStand a before []
  more : {a : Areas} {before : List Row} {c : Call} {cs : List Call}
      → MayStand a before c → AllMayStand (after_call a c) (before ++ offered_by a c) cs → AllMayStand a before (c ∷ cs)

-- ---- causal listings

-- how many rows of an author
unfoldable pub count : Author → List Row → ℕ
count a rows = count_if (λ r. eqb r.author a) rows

-- 01: "a list of rows offered to the store, not necessarily all, without repeats, each its author's next number from 1, each dependency at most the number of that
-- author's rows before it". `ListedAfter offers before rows`: these rows go on a causal listing whose rows so far are `before`
pub data ListedAfter (offers : List Row) : List Row → List Row → Type 0 where
  none : {before : List Row} → ListedAfter offers before []
  more : {before rows : List Row} {r : Row}
      → Memᴰ r offers → (Memᴰ r before → ⊥) → r.seq ≡ suc (count r.author before)
      → ((a : Author) (n : Seq) → Memᴰ (a, n) r.deps → n ≤ count a before)
      → ListedAfter offers (before ++ (r ∷ [])) rows → ListedAfter offers before (r ∷ rows)

abbrev pub CausalListing : List Row → List Row → Type 0
CausalListing offers rows = ListedAfter offers [] rows

-- some causal listing ends in r
abbrev pub Caused : List Row → Row → Type 0
Caused offers r = (before : List Row) × CausalListing offers (before ++ (r ∷ []))

-- ---- what demand 3 says

-- 01: "rising stamp order (wall, counter, author)"; "So equal stamps of one author stand newest first"
unfoldable pub log_less : Row → Row → Bool
log_less r s = stamp_less r.stamp s.stamp || (not (stamp_less s.stamp r.stamp) && ltb s.seq r.seq)

-- each row is below every later one, so that none stands twice
pub data Sorted (less_than : Row → Row → Bool) : List Row → Type 0 where
  none : Sorted less_than []
  more : {r : Row} {rows : List Row} → ((s : Row) → Memᴰ s rows → less_than r s ≡ true) → Sorted less_than rows → Sorted less_than (r ∷ rows)

-- of one store: the log holds exactly the rows that a causal listing of the offered rows ends in, in one order, with the clock and the held rows that follow
pub record Follows (offers : List Row) (s : Store) : Type 0 where
  pub logged : (r : Row) → Memᴰ r s.log ↔ Caused offers r
  pub log_order : Sorted log_less s.log
  pub clock : (a : Author) → get s.clock a ≡ count a s.log
  pub clock_entries : (a : Author) (n : Seq) → Memᴰ (a, n) s.clock → 0 < n
  pub held : (r : Row) → Memᴰ r (rows_of s.held) ↔ (Memᴰ r offers × (Memᴰ r s.log → ⊥))
  pub held_order : Sorted work_less (rows_of s.held)

-- every row of the one is a row of the other
abbrev pub Within : List Row → List Row → Type 0
Within few many = (r : Row) → Memᴰ r few → Memᴰ r many

-- of two stores: more offers give more log, in the same relative order; equal offers give equal logs, clocks and held rows
pub record Agree (offers₁ offers₂ : List Row) (s₁ s₂ : Store) : Type 0 where
  pub more : Within offers₂ offers₁ → Sublistᴰ s₂.log s₁.log
  pub same_log : Within offers₁ offers₂ → Within offers₂ offers₁ → s₁.log ≡ s₂.log
  pub same_clock : Within offers₁ offers₂ → Within offers₂ offers₁ → s₁.clock ≡ s₂.clock
  pub same_held : Within offers₁ offers₂ → Within offers₂ offers₁ → rows_of s₁.held ≡ rows_of s₂.held

-- demand 3: what holds of two lists of calls on two stores
pub record Converges (a₁ a₂ : Areas) (cs₁ cs₂ : List Call) : Type 0 where
  pub store₁ : Store
  pub store₂ : Store
  pub holds₁ : read_store (run_calls a₁ cs₁) ≡ done store₁
  pub holds₂ : read_store (run_calls a₂ cs₂) ≡ done store₂
  pub follows₁ : Follows (offered a₁ cs₁) store₁
  pub follows₂ : Follows (offered a₂ cs₂) store₂
  pub agree : Agree (offered a₁ cs₁) (offered a₂ cs₂) store₁ store₂

-- the statement: two lists of calls from two empty stores, with fair offers, converge
abbrev pub Demand3 : Type 0
Demand3 =
    (a₁ a₂ : Areas) (cs₁ cs₂ : List Call) → AllGiven cs₁ → AllGiven cs₂ → Empty a₁ → Empty a₂
    → AllMayStand a₁ [] cs₁ → AllMayStand a₂ [] cs₂
    → OneContent (offered a₁ cs₁ ++ offered a₂ cs₂) → Spans (accepted a₁ cs₁) → Spans (accepted a₂ cs₂)
    → Converges a₁ a₂ cs₁ cs₂

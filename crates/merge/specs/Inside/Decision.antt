-- What the parts of a batch call require and promise, by the definitions of merging. Inside: need not be believed.
use Rattle.std.specs.Prelude.{ℕ, ◌+◌, ◌-◌, ◌*◌, ◌≤◌, ◌<◌, ◌≡◌, true, List, [], ltb, eqb, length}
use Rattle.words.specs.Sizes.{word_size, most_batch, most_held, slot_size, held_size, clock_size, head_floor, head_clock, head_held_count, head_size, line_size}
use Rattle.words.specs.Names.{Time, Bytes, Area, Position}
use Rattle.words.specs.Be.{be64, column}
use Rattle.words.specs.Areas.{put_at}
use Rattle.error.specs.declared.Refusal.{Refusal}
use Rattle.error.specs.declared.Refusal.TheVariants.{ShortArea}
use Rattle.std.specs.declared.result.Result.TheVariants.{Ok, Err}
use Rattle.error.specs.Answer.{Answer, done, refused, and_then, unless, got, nothing}
use Rattle.clock.specs.Vector.{entries, sound}
use Rattle.clock.specs.Area.{clock_at}
use Rattle.row.specs.Slots.{slot_at, slot_ok, slots_at}
use Rattle.row.specs.Reading.{BatchRow}
use Rattle.replicated_log.specs.Store.{Store}
use Rattle.replicated_log.specs.Areas.{Areas, capacity, read_store, rows_of, floor_at, held_bytes}
use Rattle.replicated_log.specs.Inside.Units.{unit_of}
use Rattle.replicated_log.specs.Inside.StoreTests.{HeadOk}
use Rattle.replicated_log.specs.Inside.StoreChanges.{Stored, Sound, AllReady}
use Rattle.merging.specs.Batch.{Limits, limits_ok, read_rows, read_batch, validate_all}
use Rattle.merging.specs.Merging.{unexpired, Admitted, starting, admit_all, Drained, drain, fate, lines, quotas, Merged, commit, merge}
use Rattle.merging.specs.Calls.{BatchCall, room_for, batch_answer}
use Rattle.merging.specs.Trace.{Fits}
use Rattle.working.specs.Inside.References.{entry_size, refs_ok, work_rows}
use Rattle.working.specs.Inside.Scratch.{Working, Begun}
use Rattle.quota.specs.Inside.Room.{rows_logged}
use Rattle.commit.specs.declared.Fates.{Fates}
use Rattle.commit.specs.Inside.HeldSlots.{SlotsRise}
use Rattle.commit.specs.Inside.Logging.{AllLogged}
use Rattle.merge.specs.declared.deciding.Prepared.{Prepared}
use Rattle.merge.specs.declared.deciding.Settled.{Settled}
use Rattle.merge.specs.declared.deciding.Decision.{Decision}
use Rattle.words.specs.Lists.{count_if}
use Rattle.replicated_log.specs.Insertion.{insert_all, fits}
use Rattle.merging.specs.Inside.RowStarts.{StartsAt}

-- what a call brings, from its parts
abbrev pub call_of : Limits → Time → (batch : Bytes) (scratch output : Area) → BatchCall
call_of l time batch scratch output = record { limits = l; time = time; batch = batch; scratch = scratch; output = output }

-- ---- what is refused before rows are merged

-- a batch that was read, n rows from `first` on, each valid
pub record Taken (l : Limits) (time : Time) (batch : Bytes) (first : Position) (n : ℕ) : Type 0 where
  pub rows : List BatchRow
  pub end : Position
  pub from : read_rows batch first n ≡ got rows end
  pub brings : read_batch batch ≡ done rows
  pub counted : length rows ≡ n
  pub few : n ≤ most_batch
  pub valid : validate_all l time rows ≡ done nothing

-- the answer behind the test of the store
unfoldable pub brought : (cap : ℕ) → Limits → Time → Store → (batch : Bytes) (scratch output : Area) → Answer Merged
brought cap l time s batch scratch output =
    and_then (read_batch batch) (λ rows.
    unless (room_for (length s.held + length rows) scratch output) ShortArea
    (merge cap l time s rows))

-- the same, where its rows start, and that there is room for them beside so many held rows
pub record TakenIn (l : Limits) (time : Time) (held : ℕ) (batch : Bytes) (scratch output : Area) (starts : List Position) (p : Prepared) : Type 0 where
  pub held_is : p.held ≡ held
  pub first : Position
  pub taken : Taken l time batch first p.rows
  pub starts_are : StartsAt batch starts first p.rows
  pub room : room_for (p.held + p.rows) scratch output ≡ true

-- a batch that is refused, on whatever store has so many held rows
abbrev pub NotTaken : Limits → Time → (held : ℕ) (batch : Bytes) (scratch output : Area) → Refusal → Type 0
NotTaken l time held batch scratch output r = (cap : ℕ) (s : Store) → length s.held ≡ held → brought cap l time s batch scratch output ≡ refused r

abbrev pub TakesIn : Limits → Time → (held : ℕ) (batch : Bytes) (scratch output : Area) (starts : List Position) → Answer Prepared → Type 0
TakesIn l time held batch scratch output starts (Ok p) = TakenIn l time held batch scratch output starts p
TakesIn l time held batch scratch output starts (Err r) = NotTaken l time held batch scratch output r

-- settings within capacity, a sound store with so many held rows, and a batch that was read, with room in scratch
pub record Opened (a : Areas) (l : Limits) (time : Time) (batch : Bytes) (scratch : Area) (starts : List Position) (n count : ℕ) : Type 0 where
  pub within : limits_ok l ≡ true
  pub store : Store
  pub reads : read_store a ≡ done store
  pub counts : count ≡ length store.held
  pub first : Position
  pub taken : Taken l time batch first n
  pub starts_are : StartsAt batch starts first n
  pub starts_room : n ≤ length starts
  pub room : slot_size * (count + n) ≤ length scratch

abbrev pub Prepares : Areas → Limits → Time → (batch : Bytes) (scratch output : Area) (starts : List Position) → Answer Prepared → Type 0
Prepares a l time batch scratch output starts (Ok p) =
    Opened a l time batch scratch starts p.rows p.held × (room_for (p.held + p.rows) scratch output ≡ true)
Prepares a l time batch scratch output starts (Err r) = batch_answer a (call_of l time batch scratch output) ≡ refused r

-- ---- steps 1 to 3

pub record SettleNeeds (held : Area) (batch : Bytes) (head scratch : Area) (count : ℕ) (starts : List Position) (n : ℕ) : Type 0 where
  pub few : count ≤ most_held
  pub slots : (k : ℕ) → k < count → slot_ok (slot_at held (slot_size * k)) ≡ true
  pub begun : Begun batch starts n
  pub rows_few : n ≤ most_batch
  pub room : entry_size * (count + n) ≤ length scratch
  pub long : head_clock + clock_size ≤ length head
  pub clock : sound (clock_at head head_clock) ≡ true

-- the rows that are left and logged, with references to them in t
pub record Refers (held : Area) (batch : Bytes) (time : Time) (t : Area) (waiting logged : ℕ) (d : Drained) : Type 0 where
  pub waiting_are : work_rows held batch time (column t 0 waiting) ≡ d.waiting
  pub logged_are : work_rows held batch time (column t word_size logged) ≡ d.logged
  pub waiting_refs : refs_ok held batch (column t 0 waiting) ≡ true
  pub logged_refs : refs_ok held batch (column t word_size logged) ≡ true

pub record SettledRows (held : Area) (batch : Bytes) (head : Area) (time : Time) (t : Area) (count : ℕ) (cutoff : Time) (rows : List BatchRow) (s : Settled) : Type 0 where
  pub admitted : Admitted
  pub admits : admit_all (entries (clock_at head head_clock)) time (starting (unexpired cutoff (slots_at held 0 count))) rows ≡ done admitted
  pub drained : Drained
  pub is : drained ≡ drain (length admitted.working) (record { clock = entries (clock_at head head_clock); waiting = admitted.working; logged = []; dropped = 0 })
  pub refers : Refers held batch time t s.waiting s.logged drained
  pub expired_is : s.expired ≡ count - length (unexpired cutoff (slots_at held 0 count))
  pub duplicates_are : s.duplicates ≡ admitted.duplicates
  pub dropped_is : s.dropped ≡ drained.dropped
  pub authors_are : s.authors ≡ length drained.clock
  pub total : s.waiting + s.logged ≤ count + length rows

abbrev pub Settles : (held : Area) (batch : Bytes) (head t : Area) (count : ℕ) (cutoff : Time) (starts : List Position) (n : ℕ) → Answer Settled → Type 0
Settles held batch head t count cutoff starts n (Ok s) =
    (time : Time) (first : Position) (rows : List BatchRow) (end : Position) → StartsAt batch starts first n → read_rows batch first n ≡ got rows end
    → SettledRows held batch head time t count cutoff rows s
Settles held batch head t count cutoff starts n (Err r) =
    (time : Time) (first : Position) (rows : List BatchRow) (end : Position) → StartsAt batch starts first n → read_rows batch first n ≡ got rows end
    → admit_all (entries (clock_at head head_clock)) time (starting (unexpired cutoff (slots_at held 0 count))) rows ≡ refused r

-- ---- 14 to 18

pub record JudgeNeeds (log held : Area) (batch : Bytes) (head t : Area) (waiting logged : ℕ) : Type 0 where
  pub working : Working held batch t waiting
  pub waiting_few : waiting ≤ most_held + most_batch
  pub stored : Sound log head
  pub refs : refs_ok held batch (column t word_size logged) ≡ true
  pub room : entry_size * logged ≤ length t
  pub logged_few : logged ≤ most_held + most_batch

pub record Judged (log held : Area) (batch : Bytes) (head t : Area) (l : Limits) (waiting logged authors : ℕ) (answer : Answer Unit) : Type 0 where
  pub is : (time : Time) (s : Store) (z w : Bytes) → Stored log head (capacity log) s z w
      → authors ≡ length (insert_all s (rows_logged held batch t logged)).clock
      → answer
      ≡ and_then (quotas l (work_rows held batch time (column t 0 waiting))) (λ u. unit_of (fits (capacity log) (insert_all s (rows_logged held batch t logged))))

-- ---- the decision

-- a merge that is accepted, with references to its rows in t
pub record Accepts (a : Areas) (l : Limits) (time : Time) (batch : Bytes) (t : Area) (d : Decision) : Type 0 where
  pub store : Store
  pub rows : List BatchRow
  pub drained : Drained
  pub merged : Merged
  pub reads : read_store a ≡ done store
  pub brings : read_batch batch ≡ done rows
  pub merges : merge (capacity a.log) l time store rows ≡ done merged
  pub store_is : merged.store ≡ commit store drained
  pub lines_are : merged.lines ≡ lines store.floor drained.logged
  pub told : merged.report
      ≡ record {
        applied = count_if (λ h. eqb (fate store.floor h) 0) drained.logged;
        stale = count_if (λ h. eqb (fate store.floor h) 1) drained.logged;
        rejected = count_if (λ h. ltb 1 (fate store.floor h)) drained.logged;
        duplicates = d.duplicates;
        held = d.waiting;
        expired = d.expired;
        dropped = d.dropped;
      }
  pub within : Fits (capacity a.log) (commit store drained)
  pub refers : Refers a.held batch time t d.waiting d.logged drained
  pub rise : SlotsRise t d.waiting
  pub few : d.waiting ≤ most_held
  pub total : d.waiting + d.logged ≤ length store.held + length rows
  pub rows_few : length rows ≤ most_batch

-- a merge that is refused
abbrev pub NotMerged : Areas → Limits → Time → (batch : Bytes) → Refusal → Type 0
NotMerged a l time batch r =
    (s : Store) × (rows : List BatchRow) × (read_store a ≡ done s) × (read_batch batch ≡ done rows) × (merge (capacity a.log) l time s rows ≡ refused r)

abbrev pub Merges : Areas → Limits → Time → (batch : Bytes) (t : Area) → Answer Decision → Type 0
Merges a l time batch t (Ok d) = Accepts a l time batch t d
Merges a l time batch t (Err r) = NotMerged a l time batch r

-- a batch that is accepted
pub record Accepted (a : Areas) (l : Limits) (time : Time) (batch : Bytes) (scratch output t : Area) (d : Decision) : Type 0 where
  pub accepts : Accepts a l time batch t d
  pub answer : batch_answer a (call_of l time batch scratch output) ≡ done accepts.merged
  pub room : room_for (length accepts.store.held + length accepts.rows) scratch output ≡ true

abbrev pub Decides : Areas → Limits → Time → (batch : Bytes) (scratch output t : Area) → Answer Decision → Type 0
Decides a l time batch scratch output t (Ok d) = Accepted a l time batch scratch output t d
Decides a l time batch scratch output t (Err r) = batch_answer a (call_of l time batch scratch output) ≡ refused r

-- ---- where the rows of an accepted batch start

-- a batch that can be read
abbrev pub Readable : Bytes → Type 0
Readable batch = (rows : List BatchRow) × (read_batch batch ≡ done rows)

-- the same, and where its rows start
pub record RowsBegin (batch : Bytes) (starts : List Position) : Type 0 where
  pub rows : List BatchRow
  pub first : Position
  pub end : Position
  pub brings : read_batch batch ≡ done rows
  pub from : read_rows batch first (length rows) ≡ got rows end
  pub starts_are : StartsAt batch starts first (length rows)
  pub few : length rows ≤ most_batch
  pub room : length rows ≤ length starts

abbrev pub StartsKnown : {A : Type 0} → Answer A → Bytes → (starts : List Position) → Type 0
StartsKnown (Ok x) batch starts = RowsBegin batch starts
StartsKnown (Err r) batch starts = Unit

-- ---- what is written

pub record CommitNeeds (log held head : Area) (batch : Bytes) (t output : Area) (waiting logged : ℕ) : Type 0 where
  pub refs : refs_ok held batch (column t word_size logged) ≡ true
  pub logged_few : logged ≤ most_held + most_batch
  pub scratch_room : entry_size * logged ≤ length t
  pub output_room : line_size * logged ≤ length output
  pub long : head_size ≤ length head
  pub head_ok : HeadOk head
  pub logs : AllReady log head (rows_of (work_rows held batch 0 (column t word_size logged)))
  pub working : Working held batch t waiting
  pub few : waiting ≤ most_held
  pub held_long : held_size ≤ length held
  pub rise : SlotsRise t waiting

-- the rows are logged, the held rows written, and their count put into the head
pub record Commits (log held head : Area) (batch : Bytes) (t output : Area) (waiting logged : ℕ) (time : Time) (log' held' head' output' : Area) (r : Fates) : Type 0 where
  pub middle : Area
  pub all_logged : AllLogged (floor_at head head_floor) log head output log' middle output' (work_rows held batch time (column t word_size logged)) r
  pub held_is : held' ≡ put_at held 0 (held_bytes (work_rows held batch time (column t 0 waiting)))
  pub head_is : head' ≡ put_at middle head_held_count (be64 waiting)

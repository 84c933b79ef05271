-- Merging over a store as values: document 01, "Merging, from `src/merge.rs`", steps 1 to 5.
use Rattle.std.specs.Prelude.{ℕ, zero, suc, ◌+◌, ◌-◌, Bool, true, ◌&&◌, List, [], ◌∷◌, ◌++◌, map, length, ltb, leb, eqb}
use Rattle.std.specs.declared.option.Option.TheVariants.{None, Some}
use Rattle.words.specs.Names.{Author, Seq, Time, Bytes, Clock}
use Rattle.words.specs.Be.{be64}
use Rattle.words.specs.Choice.{pick}
use Rattle.words.specs.Lists.{same, count_if}
use Rattle.error.specs.declared.Refusal.TheVariants.{Conflict, HeldOverflow, HeldBytes, AuthorOverflow}
use Rattle.error.specs.Answer.{Answer, done, refused, nothing, and_then, unless}
use Rattle.clock.specs.declared.stamp.Timestamp.{Timestamp}
use Rattle.clock.specs.Order.{stamp_less}
use Rattle.clock.specs.Entries.{get, observe, dominates}
use Rattle.row.specs.Rows.{Row, HeldRow, work_less}
use Rattle.row.specs.Reading.{BatchRow}
use Rattle.replicated_log.specs.Store.{MaybeStamp, Store, same_id, same_entries}
use Rattle.replicated_log.specs.Areas.{rows_of}
use Rattle.merging.specs.Batch.{Limits, validate_all}
use Rattle.replicated_log.specs.Insertion.{insert_all, fits}

-- ---- 1. 01: "Held rows with arrival below time minus `max_pending_age_ms` (not below 0) expire."

unfoldable pub in_time : (cutoff : Time) → HeldRow → Bool
in_time cutoff h = leb cutoff h.arrival

unfoldable pub unexpired : (cutoff : Time) → List HeldRow → List HeldRow
unexpired cutoff [] = []
unexpired cutoff (h ∷ hs) = pick (in_time cutoff h) (h ∷ unexpired cutoff hs) (unexpired cutoff hs)

-- the held rows that stay; `◌-◌` stops at 0
abbrev pub staying : Limits → Time → Store → List HeldRow
staying l time s = unexpired (time - l.max_pending_age) s.held

-- ---- 2. 01: "Rows go in order."

-- 01: "stamp, dependencies, payload and signature agree by value"
unfoldable pub same_stamp : Timestamp → Timestamp → Bool
same_stamp s t =
    eqb s.wall_time t.wall_time
    && eqb s.logical_counter t.logical_counter
    && eqb s.actor_id.0 t.actor_id.0

unfoldable pub same_content : Row → Row → Bool
same_content r s =
    same_stamp r.stamp s.stamp
    && same_entries r.deps s.deps
    && same r.payload s.payload
    && same r.signature s.signature

-- the working row of the same author and sequence
pub data Known : Type 0 where
  absent : Known
  present : HeldRow → Known

unfoldable pub look : Row → List HeldRow → Known
look r [] = absent
look r (h ∷ hs) = pick (same_id r h.row) (present h) (look r hs)

-- working rows stand in the order in which they would go: stamp, author, sequence
unfoldable pub enter : HeldRow → List HeldRow → List HeldRow
enter h [] = h ∷ []
enter h (k ∷ hs) = pick (work_less h.row k.row) (h ∷ k ∷ hs) (k ∷ enter h hs)

-- the working rows after some rows of the batch, and how many were duplicates
pub record Admitted : Type 0 where
  pub working : List HeldRow
  pub duplicates : ℕ

-- before the first: the held rows that stay
abbrev pub starting : List HeldRow → Admitted
starting hs = record { working = hs; duplicates = 0 }

abbrev pub duplicate : Admitted → Admitted
duplicate a = record { working = a.working; duplicates = a.duplicates + 1 }

-- 01: "Otherwise the row becomes a working row that arrived now."
abbrev pub arrived : Time → BatchRow → HeldRow
arrived time b = record { row = b.row; arrival = time; outcome = b.closing.outcome; detail = b.closing.detail }

-- 01: "duplicate if stamp, dependencies, payload and signature agree by value, else 13. Outcomes are not compared; the first is kept."
unfoldable pub when_known : Known → Time → BatchRow → Admitted → Answer Admitted
when_known absent time b a = done (record { working = enter (arrived time b) a.working; duplicates = a.duplicates })
when_known (present h) time b a =
    unless (same_content h.row b.row) (Conflict (record { 0 = b.row.author }) b.row.seq) (done (duplicate a))

-- 01: "Sequence at or below the author's clock number: duplicate. Same author and sequence held or earlier in the batch"
unfoldable pub admit : Clock → Time → Admitted → BatchRow → Answer Admitted
admit clock time a b =
    pick (leb b.row.seq (get clock b.row.author)) (done (duplicate a)) (when_known (look b.row a.working) time b a)

unfoldable pub admit_all : Clock → Time → Admitted → List BatchRow → Answer Admitted
admit_all clock time a [] = done a
admit_all clock time a (b ∷ bs) = and_then (admit clock time a b) (λ a. admit_all clock time a bs)

-- ---- 3. draining

-- 01: "A row is ready when its sequence is at most its author's clock number plus 1 and every dependency is at or below the clock."
unfoldable pub ready : Clock → Row → Bool
ready clock r = leb r.seq (suc (get clock r.author)) && dominates clock r.deps

-- the first ready row, and the others without it
pub data FirstReady : Type 0 where
  none_ready : FirstReady
  first_is : HeldRow → List HeldRow → FirstReady

-- the same behind a row that is not ready
unfoldable pub past : HeldRow → FirstReady → FirstReady
past h none_ready = none_ready
past h (first_is k hs) = first_is k (h ∷ hs)

-- 01: "Of the ready, the least by stamp, author, sequence goes first.": working rows stand in that order (Least)
unfoldable pub first_ready : Clock → List HeldRow → FirstReady
first_ready clock [] = none_ready
first_ready clock (h ∷ hs) = pick (ready clock h.row) (first_is h hs) (past h (first_ready clock hs))

-- how far draining has come: the clock, the rows that wait, the logged rows in logging order, and how many were dropped
pub record Drained : Type 0 where
  pub clock : Clock
  pub waiting : List HeldRow
  pub logged : List HeldRow
  pub dropped : ℕ

-- before the first step
abbrev pub to_drain : Store → Admitted → Drained
to_drain s a = record { clock = s.clock; waiting = a.working; logged = []; dropped = 0 }

-- the row h is logged, and the rest waits
abbrev pub logging : HeldRow → (rest : List HeldRow) → Drained → Drained
logging h rest d =
    record { clock = observe d.clock h.row.author h.row.seq; waiting = rest; logged = d.logged ++ (h ∷ []); dropped = d.dropped }

-- a row is dropped, and the rest waits
abbrev pub dropping : (rest : List HeldRow) → Drained → Drained
dropping rest d = record { clock = d.clock; waiting = rest; logged = d.logged; dropped = d.dropped + 1 }

-- 01: "If it is not its author's next it is dropped. Else the clock advances and it is logged."
unfoldable pub take_first : FirstReady → Drained → Drained
take_first none_ready d = d
take_first (first_is h rest) d = pick (eqb h.row.seq (suc (get d.clock h.row.author))) (logging h rest d) (dropping rest d)

-- n steps; more than there are working rows change nothing (Least)
unfoldable pub drain : ℕ → Drained → Drained
drain zero d = d
drain (suc n) d = drain n (take_first (first_ready d.clock d.waiting) d)

-- the working rows drained, in as many steps as there are rows
unfoldable pub settle : Store → Admitted → Drained
settle s a = drain (length a.working) (to_drain s a)

-- ---- 4. fates

-- a stamp is above a floor; where there is none, every stamp is
unfoldable pub above_floor : MaybeStamp → Timestamp → Bool
above_floor None t = true
above_floor (Some floor) t = stamp_less floor t

-- 01: "A logged row is stale if its stamp is at or below the floor; else its outcome decides applied or rejected."; "fate (0 applied, 1 stale, 2 to 5 for
-- outcomes 1 to 4)"
unfoldable pub fate : MaybeStamp → HeldRow → ℕ
fate floor h = pick (above_floor floor h.row.stamp) (pick (eqb h.outcome 0) 0 (h.outcome + 1)) 1

-- 01: "detail (0 for fates 0 and 1)"; an outcome of 0 has detail 0
unfoldable pub fate_detail : MaybeStamp → HeldRow → ℕ
fate_detail floor h = pick (above_floor floor h.row.stamp) h.detail 0

-- 01: "for each logged row, in logging order, 18 bytes: author 8 and sequence 8, big-endian, fate (0 applied, 1 stale, 2 to 5 for outcomes 1 to 4), detail"
unfoldable pub line : Author → Seq → (fate detail : ℕ) → Bytes
line author seq fate detail = be64 author ++ (be64 seq ++ (fate ∷ detail ∷ []))

unfoldable pub row_line : MaybeStamp → HeldRow → Bytes
row_line floor h = line h.row.author h.row.seq (fate floor h) (fate_detail floor h)

unfoldable pub lines : MaybeStamp → List HeldRow → Bytes
lines floor [] = []
lines floor (h ∷ hs) = row_line floor h ++ lines floor hs

-- ---- 5. 01: "Quotas are compared after that; equality passes."

unfoldable pub payload_bytes : List HeldRow → ℕ
payload_bytes [] = 0
payload_bytes (h ∷ hs) = length h.row.payload + payload_bytes hs

unfoldable pub authors : List HeldRow → List Author
authors hs = map (λ h. h.row.author) hs

-- how often an author stands among authors
unfoldable pub times : Author → List Author → ℕ
times a as' = count_if (λ b. eqb b a) as'

-- an author above the limit, or nobody
pub data Over : Type 0 where
  nobody : Over
  author : Author → Over

unfoldable pub lower : Author → Over → Over
lower a nobody = author a
lower a (author b) = author (pick (ltb b a) b a)

-- 16: 01: "lowest author named". The lowest of the authors that stands among all of them more often than the limit
unfoldable pub lowest_over : (limit : ℕ) (all : List Author) → List Author → Over
lowest_over limit all [] = nobody
lowest_over limit all (a ∷ as') = pick (ltb limit (times a all)) (lower a (lowest_over limit all as')) (lowest_over limit all as')

unfoldable pub author_quota : (limit : ℕ) → Over → Answer Unit
author_quota limit nobody = done nothing
author_quota limit (author a) = refused (AuthorOverflow limit (record { 0 = a }))

-- 14, 15, 16
unfoldable pub quotas : Limits → List HeldRow → Answer Unit
quotas l hs =
    unless (leb (length hs) l.max_pending) (HeldOverflow l.max_pending)
    (unless (leb (payload_bytes hs) l.max_pending_bytes) (HeldBytes l.max_pending_bytes)
    (author_quota l.max_pending_per_actor (lowest_over l.max_pending_per_actor (authors hs) (authors hs))))

-- ---- all of it

-- 01: "Counts: the Rust's, plus expired and dropped, added here."
pub record Report : Type 0 where
  pub applied : ℕ
  pub stale : ℕ
  pub rejected : ℕ
  pub duplicates : ℕ
  pub held : ℕ
  pub expired : ℕ
  pub dropped : ℕ

-- a merge that is accepted: the store afterwards, the counts and the output's lines
pub record Merged : Type 0 where
  pub store : Store
  pub report : Report
  pub lines : Bytes

-- the store with the waiting rows held and the logged ones inserted: 01: "All three are logged."
unfoldable pub commit : Store → Drained → Store
commit s d =
    insert_all
    (record {
      log = s.log;
      held = d.waiting;
      floor = s.floor;
      clock = s.clock;
      compacted = s.compacted;
      marks = s.marks;
    })
    (rows_of d.logged)

-- `kept` are the held rows that did not expire
unfoldable pub report : Store → (kept : List HeldRow) → Admitted → Drained → Report
report s kept a d =
    record {
      applied = count_if (λ h. eqb (fate s.floor h) 0) d.logged;
      stale = count_if (λ h. eqb (fate s.floor h) 1) d.logged;
      rejected = count_if (λ h. ltb 1 (fate s.floor h)) d.logged;
      duplicates = a.duplicates;
      held = length d.waiting;
      expired = length s.held - length kept;
      dropped = d.dropped;
    }

-- 14 to 16, then 17 and 18 for a log with room for cap rows
unfoldable pub finish : (cap : ℕ) → Limits → Store → (kept : List HeldRow) → Admitted → Drained → Answer Merged
finish cap l s kept a d =
    and_then (quotas l d.waiting) (λ u.
    and_then (fits cap (commit s d)) (λ s'.
    done (record { store = s'; report = report s kept a d; lines = lines s.floor d.logged })))

-- a batch that was read, against a store whose log has room for cap rows: 5 to 12, 13, 14 to 18
unfoldable pub merge : (cap : ℕ) → Limits → Time → Store → List BatchRow → Answer Merged
merge cap l time s rows =
    and_then (validate_all l time rows) (λ u.
    and_then (admit_all s.clock time (starting (staying l time s)) rows) (λ a.
    finish cap l s (staying l time s) a (settle s a)))

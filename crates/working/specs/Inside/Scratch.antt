-- What the functions on the scratch area promise, by the definitions of merging. Inside: need not be believed.
use Rattle.std.specs.Prelude.{ℕ, ◌+◌, ◌*◌, ◌≤◌, ◌≡◌, true, Result, Ok, Err, List, [], length}
use Rattle.words.specs.Sizes.{word_size}
use Rattle.words.specs.Names.{Time, Bytes, Area, Position, Clock}
use Rattle.error.specs.declared.Refusal.{Refusal}
use Rattle.error.specs.Answer.{Answer, done, refused}
use Rattle.row.specs.Rows.{HeldRow}
use Rattle.row.specs.Reading.{BatchRow}
use Rattle.merging.specs.Batch.{read_rows}
use Rattle.merging.specs.Merging.{Admitted, starting, admit_all, Drained, drain, unexpired}
use Rattle.working.specs.Inside.References.{entry_size, is_read, refs_ok, work_rows}
use Rattle.working.specs.declared.Admitting.{Admitting}
use Rattle.working.specs.declared.Draining.{Draining}
use Rattle.words.specs.Be.{column}
use Rattle.merging.specs.Inside.RowStarts.{StartsAt}

-- n working references, each to a row, with room for them
pub record Working (held : Area) (batch : Bytes) (s : Area) (n : ℕ) : Type 0 where
  pub room : entry_size * n ≤ length s
  pub refs : refs_ok held batch (column s 0 n) ≡ true

-- step 1: the working references are those of the held rows that did not expire, in their order
pub record Unexpired (held : Area) (batch : Bytes) (time cutoff : Time) (rows : List HeldRow) (t : Area) (n : ℕ) : Type 0 where
  pub rows_are : work_rows held batch time (column t 0 n) ≡ unexpired cutoff rows
  pub working : Working held batch t n
  pub few : n ≤ length rows

-- step 2: the answer that the result of admission stands for, over the scratch t that it leaves
abbrev pub admitting_of : (held : Area) (batch : Bytes) → Time → (t : Area) → Result Admitting Refusal → Answer Admitted
admitting_of held batch time t (Ok a) =
    done (record { working = work_rows held batch time (column t 0 a.working); duplicates = a.duplicates })
admitting_of held batch time t (Err r) = refused r

-- the references that are left, where the batch is admitted
abbrev pub AdmittedRefs : (held : Area) (batch : Bytes) (t : Area) (most : ℕ) → Result Admitting Refusal → Type 0
AdmittedRefs held batch t most (Ok a) = Working held batch t a.working × (a.working ≤ most)
AdmittedRefs held batch t most (Err r) = Unit

-- n rows that are read, each at its place in starts
pub record Begun (batch : Bytes) (starts : List Position) (n : ℕ) : Type 0 where
  pub first : Position
  pub starts_are : StartsAt batch starts first n
  pub read : is_read (read_rows batch first n) ≡ true
  pub room : n ≤ length starts

pub record AdmitsAll (clock : Clock) (held : Area) (batch : Bytes) (time : Time) (s t : Area) (n : ℕ) (rows : List BatchRow) (r : Result Admitting Refusal) : Type 0 where
  pub answer : admitting_of held batch time t r
      ≡ admit_all clock time (starting (work_rows held batch time (column s 0 n))) rows
  pub refs : AdmittedRefs held batch t (n + length rows) r

-- step 3: what draining n working references comes to
pub record Drains (clock : Clock) (held : Area) (batch : Bytes) (time : Time) (s t : Area) (n : ℕ) (r : Draining) : Type 0 where
  pub drained : Drained
  pub is : drained ≡ drain n (record { clock = clock; waiting = work_rows held batch time (column s 0 n); logged = []; dropped = 0 })
  pub waiting : work_rows held batch time (column t 0 r.waiting) ≡ drained.waiting
  pub logged : work_rows held batch time (column t word_size r.logged) ≡ drained.logged
  pub dropped : r.dropped ≡ drained.dropped
  pub authors : r.authors ≡ length drained.clock
  pub waiting_refs : refs_ok held batch (column t 0 r.waiting) ≡ true
  pub logged_refs : refs_ok held batch (column t word_size r.logged) ≡ true
  pub total : r.waiting + r.logged + r.dropped ≡ n

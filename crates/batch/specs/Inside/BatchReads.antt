-- What reading a batch promises, by the definitions of merging. Inside: need not be believed.
use Rattle.std.specs.Prelude.{ℕ, ◌≤◌, ◌≡◌, List, length}
use Rattle.words.specs.Sizes.{most_batch}
use Rattle.words.specs.Names.{Time, Bytes, Position}
use Rattle.std.specs.declared.result.Result.TheVariants.{Ok, Err}
use Rattle.error.specs.Answer.{Answer, done, refused, and_then, Got, got}
use Rattle.row.specs.declared.StampedOperation.{StampedOperation}
use Rattle.row.specs.Values.{row_of, OpFits}
use Rattle.row.specs.declared.reader.Closing.{Closing}
use Rattle.row.specs.Reading.{number, BatchRow}
use Rattle.merging.specs.Batch.{Limits, whole, read_rows, read_batch, validate, validate_all}
use Rattle.batch.specs.declared.BatchRead.{BatchRead}
use Rattle.merging.specs.Inside.RowStarts.{StartsAt}

-- the tests 5 to 12 of a row, wherever its payload and signature stand
pub record Validates (l : Limits) (time : Time) (op : StampedOperation) (verdict : ℕ) (answer : Answer Unit) : Type 0 where
  pub is : (src : Bytes) (c : Closing) → OpFits src op → c.verdict ≡ verdict → answer ≡ validate l time (record { row = row_of src op; closing = c })

-- the same behind what the rows before it came to
pub record GoesOn (before : Answer Unit) (l : Limits) (time : Time) (op : StampedOperation) (verdict : ℕ) (answer : Answer Unit) : Type 0 where
  pub is : (src : Bytes) (c : Closing) → OpFits src op → c.verdict ≡ verdict
      → answer ≡ and_then before (λ u. validate l time (record { row = row_of src op; closing = c }))

-- n rows from `first` on that were read, and what their validation comes to
pub record Brings (s : Bytes) (l : Limits) (time : Time) (first : Position) (n : ℕ) (valid : Answer Unit) : Type 0 where
  pub rows : List BatchRow
  pub end : Position
  pub from : read_rows s first n ≡ got rows end
  pub batch : whole s (read_rows s first n) ≡ done rows
  pub counted : length rows ≡ n
  pub few : n ≤ most_batch
  pub valid_is : valid ≡ validate_all l time rows

-- so many rows and then nothing, or the refusal
abbrev pub RowsBy : Answer BatchRead → Bytes → (first : Position) (n : ℕ) → Limits → Time → Type 0
RowsBy (Ok b) s first n l time = (b.rows ≡ n) × Brings s l time first n b.valid
RowsBy (Err f) s first n l time = whole s (read_rows s first n) ≡ refused f

pub record ReadsRows (s : Bytes) (first : Position) (n : ℕ) (l : Limits) (time : Time) (r : Answer BatchRead) : Type 0 where
  pub is : RowsBy r s first n l time

-- the position past a number
abbrev pub past_number : Got ℕ → Position
past_number (Ok (n, at)) = at
past_number (Err r) = 0

-- where the first row of a batch starts: past the count
abbrev pub first_row : Bytes → Position
first_row s = past_number (number s 0)

-- the whole batch, or the refusal
abbrev pub BatchBy : Answer BatchRead → Bytes → Limits → Time → Type 0
BatchBy (Ok b) s l time = Brings s l time (first_row s) b.rows b.valid × (read_batch s ≡ whole s (read_rows s (first_row s) b.rows))
BatchBy (Err f) s l time = read_batch s ≡ refused f

pub record ReadsBatch (s : Bytes) (l : Limits) (time : Time) (r : Answer BatchRead) : Type 0 where
  pub is : BatchBy r s l time

-- where the rows of a batch that was read start, the first of them at `first`
abbrev pub RowsStart : Answer BatchRead → Bytes → (first : Position) (starts : List Position) → Type 0
RowsStart (Ok b) s first starts = StartsAt s starts first b.rows
RowsStart (Err f) s first starts = Unit

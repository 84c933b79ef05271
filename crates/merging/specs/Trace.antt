-- What an accepted merge and an accepted batch call passed, and what they come to. Statements; their proofs stand in proofs/Traces.antt.
use Rattle.std.specs.Prelude.{ℕ, ◌+◌, ◌≤◌, ◌≡◌, true, List, length}
use Rattle.words.specs.Names.{Time}
use Rattle.words.specs.Sizes.{most_authors}
use Rattle.error.specs.Answer.{done, nothing}
use Rattle.row.specs.Reading.{BatchRow}
use Rattle.replicated_log.specs.Store.{Store}
use Rattle.replicated_log.specs.Areas.{Areas, capacity, read_store}
use Rattle.merging.specs.Batch.{Limits, limits_ok, read_batch, validate_all}
use Rattle.merging.specs.Merging.{staying, Admitted, starting, admit_all, lines, quotas, Merged, commit, report, settle, merge}
use Rattle.merging.specs.Calls.{BatchCall, room_for, batch_answer}

-- a store that fits is within its capacities
pub record Fits (cap : ℕ) (s : Store) : Type 0 where
  pub log : length s.log ≤ cap
  pub clock : length s.clock ≤ most_authors
  pub marks : length s.marks ≤ most_authors

-- 5 to 12, 13, 14 to 16, 17 and 18 were passed, and the result is what the definitions say
pub record Went (cap : ℕ) (l : Limits) (time : Time) (s : Store) (rows : List BatchRow) (m : Merged) : Type 0 where
  pub valid : validate_all l time rows ≡ done nothing
  pub admitted : Admitted
  pub admits : admit_all s.clock time (starting (staying l time s)) rows ≡ done admitted
  pub quota : quotas l (settle s admitted).waiting ≡ done nothing
  pub within : Fits cap (commit s (settle s admitted))
  pub store : m.store ≡ commit s (settle s admitted)
  pub told : m.report ≡ report s (staying l time s) admitted (settle s admitted)
  -- 01: "for each logged row, in logging order, 18 bytes": no line more, and none of another row
  pub lines_are : m.lines ≡ lines s.floor (settle s admitted).logged

abbrev pub MergeWent : Type 0
MergeWent =
    (cap : ℕ) (l : Limits) (time : Time) (s : Store) (rows : List BatchRow) (m : Merged) → merge cap l time s rows ≡ done m → Went cap l time s rows m

-- 4, 2, 1, 3 and 4, and 2 were passed, and the store that the areas hold was merged with the rows that the batch holds
pub record Answered (a : Areas) (c : BatchCall) (m : Merged) : Type 0 where
  pub limits : limits_ok c.limits ≡ true
  pub store : Store
  pub reads : read_store a ≡ done store
  pub rows : List BatchRow
  pub brings : read_batch c.batch ≡ done rows
  pub room : room_for (length store.held + length rows) c.scratch c.output ≡ true
  pub merges : merge (capacity a.log) c.limits c.time store rows ≡ done m

abbrev pub CallAnswered : Type 0
CallAnswered = (a : Areas) (c : BatchCall) (m : Merged) → batch_answer a c ≡ done m → Answered a c m

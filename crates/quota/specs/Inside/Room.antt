-- What the test of room promises. Inside: need not be believed.
use Rattle.std.specs.Prelude.{ℕ, ◌≡◌, List, length}
use Rattle.words.specs.Sizes.{word_size}
use Rattle.words.specs.Names.{Bytes, Area}
use Rattle.error.specs.Answer.{Answer}
use Rattle.row.specs.Rows.{Row}
use Rattle.replicated_log.specs.Store.{Store}
use Rattle.replicated_log.specs.Areas.{capacity, rows_of}
use Rattle.replicated_log.specs.Inside.Units.{unit_of}
use Rattle.replicated_log.specs.Inside.StoreChanges.{Stored}
use Rattle.working.specs.Inside.References.{work_rows}
use Rattle.words.specs.Be.{column}
use Rattle.replicated_log.specs.Insertion.{insert_all, fits}

-- the rows of the first m logged references; rows do not depend on when they arrived
unfoldable pub rows_logged : (held : Area) (batch : Bytes) (scratch : Area) (m : ℕ) → List Row
rows_logged held batch scratch m = rows_of (work_rows held batch 0 (column scratch word_size m))

-- 17 and 18, whatever store it is, where `authors` is the number of authors in the clock afterwards
pub record Rooms (log head : Area) (rows : List Row) (authors : ℕ) (answer : Answer Unit) : Type 0 where
  pub is : (s : Store) (z w : Bytes) → Stored log head (capacity log) s z w → authors ≡ length (insert_all s rows).clock
      → answer ≡ unit_of (fits (capacity log) (insert_all s rows))

-- Where the rows of a batch start, so that none need be read again to find the next. Inside: need not be believed.
use Rattle.std.specs.Prelude.{ℕ, zero, suc, ◌<◌, ◌≡◌, List, get_or}
use Rattle.words.specs.Names.{Bytes, Position}
use Rattle.std.specs.declared.result.Result.TheVariants.{Ok, Err}
use Rattle.error.specs.Answer.{Got, got, bad}
use Rattle.row.specs.Reading.{BatchRow, read_row}

-- the position past a row
abbrev pub past_row : Got BatchRow → Position
past_row (Ok (row, at)) = at
past_row (Err r) = 0

-- where the i-th of the rows from `at` on starts
unfoldable pub start_of : Bytes → Position → ℕ → Position
start_of s at zero = at
start_of s at (suc i) = start_of s (past_row (read_row s at)) i

-- the first n of starts are where n rows from `first` on start
abbrev pub StartsAt : Bytes → (starts : List Position) (first : Position) (n : ℕ) → Type 0
StartsAt s starts first n = (i : ℕ) → i < n → get_or starts i 0 ≡ start_of s first i

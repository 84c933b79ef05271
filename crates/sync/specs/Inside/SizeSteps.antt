-- What the steps of delta_sizes count. Inside: need not be believed.
use Rattle.std.specs.Prelude.{ℕ, ◌+◌, ◌≤◌, ◌≡◌, List, ◌++◌, length}
use Rattle.words.specs.Names.{Author}
use Rattle.codec.specs.Leb128.{shortest}
use Rattle.row.specs.Rows.{Row}
use Rattle.row.specs.Wire.{signed_bytes}
use Rattle.sync.specs.Delta.{row_size, chunks}
use Rattle.sync.specs.Chunks.{sizes}
use Rattle.sync.specs.Sizes.{cut, figures_of_each, numbers}

-- what a row adds to a chunk
pub record RowSizes (r : Row) (size bytes : ℕ) : Type 0 where
  pub size_is : size ≡ row_size r
  pub size_few : size ≤ 726
  pub bytes_is : bytes ≡ length (signed_bytes r)
  pub bytes_few : bytes ≤ 912

-- how long a Delta of n rows is, which have so many bytes: tag, count and rows
unfoldable pub delta_length : (n row_bytes : ℕ) → ℕ
delta_length n row_bytes = 1 + length (shortest n) + row_bytes

-- the numbers that are written while the rows of `current` are in the current chunk, and `rest` is to come
abbrev pub to_come : (most bytes : ℕ) (sender : Author) (sig_len : ℕ) (current rest : List Row) → List ℕ
to_come most bytes sender sig_len current rest =
    numbers (figures_of_each sender sig_len (cut (chunks most bytes (length current) (sizes current) rest) (current ++ rest)))

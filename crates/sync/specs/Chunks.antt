-- What the delta's positions and the chunks are, for every log, clock and limit. Statements; their proofs stand in proofs/DeltaTheorems.antt.
use Rattle.std.specs.Prelude.{ℕ, ◌+◌, ◌≤◌, ◌<◌, ◌≡◌, ◌⊎◌, List, [], ◌∷◌, ◌++◌, length}
use Rattle.words.specs.Names.{Clock}
use Rattle.row.specs.Rows.{Row}
use Rattle.sync.specs.Delta.{delta, delta_rows, row_size, at_least_one, chunk_ops}

-- ---- the delta

-- numbers that strictly rise, from lo on and below hi
pub data Rising : (lo hi : ℕ) → List ℕ → Type 0 where
  none : {lo hi : ℕ} → Rising lo hi []
  more : {lo hi p : ℕ} {ps : List ℕ} → lo ≤ p → p < hi → Rising (p + 1) hi ps → Rising lo hi (p ∷ ps)

-- positions rise, and each is one of the log
abbrev pub DeltaRising : Type 0
DeltaRising = (peer : Clock) (rows : List Row) → Rising 0 (length rows) (delta peer 0 rows)

-- ---- chunks

unfoldable pub sizes : List Row → ℕ
sizes [] = 0
sizes (r ∷ rs) = row_size r + sizes rs

unfoldable pub total : List ℕ → ℕ
total [] = 0
total (n ∷ ns) = n + total ns

-- the rows cut into chunks of these numbers of rows, none empty and none of more than `most` rows; only one row alone may be larger than `bytes`
pub data Chunked (most bytes : ℕ) : List ℕ → List Row → Type 0 where
  no_chunks : Chunked most bytes [] []
  next_chunk : {n : ℕ} {ns : List ℕ} {rows : List Row} (chunk rest : List Row) → rows ≡ chunk ++ rest → length chunk ≡ n → 0 < n → n ≤ most
      → (n ≡ 1) ⊎ (sizes chunk ≤ bytes) → Chunked most bytes ns rest → Chunked most bytes (n ∷ ns) rows

abbrev pub ChunksAre : Type 0
ChunksAre = (rows : List Row) (per_chunk bytes : ℕ) → Chunked (at_least_one per_chunk) bytes (chunk_ops rows per_chunk bytes) rows

-- every row of the delta is in one of them
abbrev pub ChunksTotal : Type 0
ChunksTotal = (peer : Clock) (rows : List Row) (per_chunk bytes : ℕ) → total (chunk_ops (delta_rows peer rows) per_chunk bytes) ≡ length (delta_rows peer rows)

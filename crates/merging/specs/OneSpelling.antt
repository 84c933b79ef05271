-- What is proved of the bytes of a batch, and of those that are sealed. 02: "The server now files batches by their bytes, so one number may have one spelling." Statements; their proofs
-- stand in proofs/OneSpelling.antt.
use Rattle.std.specs.Prelude.{◌≡◌, List, [], ◌∷◌, ◌++◌, length}
use Rattle.words.specs.Names.{Bytes}
use Rattle.words.specs.Be.{AllBytes}
use Rattle.error.specs.Answer.{done}
use Rattle.codec.specs.Leb128.{shortest}
use Rattle.row.specs.Rows.{Row}
use Rattle.row.specs.Wire.{unsigned_bytes}
use Rattle.row.specs.Reading.{BatchRow}
use Rattle.row.specs.RoundTrip.{batch_row_bytes}
use Rattle.merging.specs.Batch.{read_batch}
use Rattle.merging.specs.Desk.{read_sealed}

-- rows one behind the other
unfoldable pub rows_bytes : List BatchRow → Bytes
rows_bytes [] = []
rows_bytes (b ∷ bs) = batch_row_bytes b ++ rows_bytes bs

-- a batch as it is written. 01: "a varint count, then rows, then nothing"
unfoldable pub batch_bytes : List BatchRow → Bytes
batch_bytes rows = shortest (length rows) ++ rows_bytes rows

-- what reads as these rows, with their closing bytes, is what is written of them
abbrev pub OnlyWritten : Type 0
OnlyWritten = (s : Bytes) (rows : List BatchRow) → AllBytes s → read_batch s ≡ done rows → s ≡ batch_bytes rows

-- so two readable batches of equal rows and closing bytes are equal bytes
abbrev pub OneSpelling : Type 0
OneSpelling = (s t : Bytes) (rows : List BatchRow) → AllBytes s → AllBytes t → read_batch s ≡ done rows → read_batch t ≡ done rows → s ≡ t

-- the bytes that are sealed are those that are written of the row, so that its signature, made over them, is over what goes out
abbrev pub SealedWritten : Type 0
SealedWritten = (bytes signature : Bytes) (r : Row) → AllBytes bytes → read_sealed bytes signature ≡ done r → bytes ≡ unsigned_bytes r

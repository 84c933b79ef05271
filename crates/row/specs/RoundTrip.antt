-- What is proved of a row's bytes: what is written is read, and nothing else is read as this row. Statements; their proofs stand in proofs/RoundTrip.antt and
-- proofs/OneSpelling.antt.
use Rattle.std.specs.Prelude.{ℕ, ◌+◌, ◌≤◌, ◌≡◌, true, [], ◌∷◌, ◌++◌, length, drop}
use Rattle.words.specs.Names.{Bytes, Position}
use Rattle.words.specs.Be.{AllBytes}
use Rattle.error.specs.Answer.{got}
use Rattle.row.specs.Rows.{Row, outcome_ok, row_ok}
use Rattle.row.specs.Reading.{BatchRow, read_row}
use Rattle.row.specs.Wire.{signed_bytes}

-- a row within capacity that is written, anywhere in a list, with closing bytes as they may be behind it, is read as this row
abbrev pub ReadBack : Type 0
ReadBack =
    (p q : Bytes) (r : Row) (verdict outcome detail : ℕ) → row_ok r ≡ true → verdict ≤ 1 → outcome_ok outcome detail ≡ true
    → read_row (p ++ ((signed_bytes r ++ (verdict ∷ outcome ∷ detail ∷ [])) ++ q)) (length p)
    ≡ got (record { row = r; closing = record { verdict = verdict; outcome = outcome; detail = detail } }) (length p + length (signed_bytes r) + 3)

-- a row of a batch as it is written. 01: "Three bytes follow: verdict .. outcome .. and detail"
unfoldable pub batch_row_bytes : BatchRow → Bytes
batch_row_bytes b = signed_bytes b.row ++ (b.closing.verdict ∷ b.closing.outcome ∷ b.closing.detail ∷ [])

-- 02: "one number may have one spelling", and so a row: where b was read, next the position past it, stand the bytes that are written of b
abbrev pub OnlyWritten : Type 0
OnlyWritten = (s : Bytes) (at : Position) (b : BatchRow) (next : Position) → AllBytes s → read_row s at ≡ got b next → drop at s ≡ batch_row_bytes b ++ drop next s

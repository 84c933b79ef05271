-- Working rows as references in the scratch area: below 64 the number of a held slot, from 64 on 64 plus the position of a row in the batch. Entry i of scratch
-- has two words: the i-th working reference, and the i-th logged one. Inside: need not be believed.
use Rattle.std.specs.Prelude.{ℕ, ◌-◌, ◌*◌, Bool, true, false, List, [], ◌∷◌, ltb}
use Rattle.words.specs.Sizes.{word_size, most_held, slot_size}
use Rattle.words.specs.Names.{Time, Bytes, Area}
use Rattle.words.specs.Choice.{pick}
use Rattle.std.specs.declared.result.Result.TheVariants.{Ok, Err}
use Rattle.error.specs.Answer.{Got}
use Rattle.row.specs.Rows.{HeldRow}
use Rattle.row.specs.Slots.{slot_at, slot_ok, decode_held}
use Rattle.row.specs.Reading.{BatchRow, read_row}
use Rattle.merging.specs.Merging.{arrived}

-- an entry of scratch
abbrev pub entry_size : ℕ
entry_size = 2 * word_size

-- something was read
abbrev pub is_read : {A : Type 0} → Got A → Bool
is_read (Ok (a, n)) = true
is_read (Err r) = false

-- a batch row as it arrives now; what is not read stands for nothing
abbrev pub arrived_by : Time → Got BatchRow → HeldRow
arrived_by time (Ok (b, n)) = arrived time b
arrived_by time (Err r) = decode_held []

-- a row stands where the reference says
unfoldable pub ref_ok : (held : Area) (batch : Bytes) (k : ℕ) → Bool
ref_ok held batch k = pick (ltb k most_held) (slot_ok (slot_at held (slot_size * k))) (is_read (read_row batch (k - most_held)))

-- the row that a reference stands for
unfoldable pub work_row : (held : Area) (batch : Bytes) → Time → (k : ℕ) → HeldRow
work_row held batch time k = pick (ltb k most_held) (decode_held (slot_at held (slot_size * k))) (arrived_by time (read_row batch (k - most_held)))

-- every reference is one
unfoldable pub refs_ok : (held : Area) (batch : Bytes) (references : List ℕ) → Bool
refs_ok held batch [] = true
refs_ok held batch (k ∷ ks) = pick (ref_ok held batch k) (refs_ok held batch ks) false

unfoldable pub work_rows : (held : Area) (batch : Bytes) → Time → (references : List ℕ) → List HeldRow
work_rows held batch time [] = []
work_rows held batch time (k ∷ ks) = work_row held batch time k ∷ work_rows held batch time ks

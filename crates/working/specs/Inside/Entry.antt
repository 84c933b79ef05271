-- What became of one row of the batch. Inside: need not be believed.
use Rattle.std.specs.Prelude.{ℕ, ◌+◌, ◌≡◌, true, Result, Ok, Err, List}
use Rattle.words.specs.Names.{Seq, Time, Bytes, Area, Position, Clock}
use Rattle.stubs.specs.declared.ActorId.{ActorId}
use Rattle.error.specs.declared.Refusal.{Refusal}
use Rattle.error.specs.declared.Refusal.TheVariants.{Conflict}
use Rattle.error.specs.Answer.{done, refused, got}
use Rattle.row.specs.Reading.{BatchRow, read_row}
use Rattle.merging.specs.Merging.{Admitted, admit, enter}
use Rattle.working.specs.Inside.References.{ref_ok, refs_ok, work_row, work_rows}
use Rattle.working.specs.Inside.Looks.{ref_row, KeyOf}
use Rattle.working.specs.Inside.Keys.{Keyed}
use Rattle.working.specs.declared.looks.Key.{Key}
use Rattle.working.specs.declared.entering.Admit.{Admit}
use Rattle.working.specs.declared.entering.Admit.TheVariants.{Duplicate, Entered}
use Rattle.words.specs.Be.{column}

-- the working rows of references, after so many duplicates
abbrev pub admitted : (held : Area) (batch : Bytes) → Time → (references : List ℕ) (duplicates : ℕ) → Admitted
admitted held batch time ks duplicates = record { working = work_rows held batch time ks; duplicates = duplicates }

-- k is a reference, its row has this key, and it is to stand among n others
pub record Entrant (held : Area) (batch : Bytes) (s : Area) (ks : List ℕ) (n k : ℕ) (key : Key) : Type 0 where
  pub refs : refs_ok held batch (column s 0 n) ≡ true
  pub keyed : Keyed held batch s ks n
  pub ok : ref_ok held batch k ≡ true
  pub own : KeyOf (ref_row held batch k) key

-- the reference k put in where its row goes; ks the keys then
pub record Puts (held : Area) (batch : Bytes) (s t : Area) (ks : List ℕ) (n k : ℕ) : Type 0 where
  pub rows : (time : Time) → work_rows held batch time (column t 0 (n + 1)) ≡ enter (work_row held batch time k) (work_rows held batch time (column s 0 n))
  pub refs : refs_ok held batch (column t 0 (n + 1)) ≡ true
  pub keyed : Keyed held batch t ks (n + 1)

-- the row at `at`; ks the keys then
pub data Admits (clock : Clock) (held : Area) (batch : Bytes) (s t : Area) (ks : List ℕ) (n : ℕ) (at : Position) : Result Admit Refusal → Type 0 where
  is_duplicate : (b : BatchRow) (next : Position) → read_row batch at ≡ got b next
      → ((time : Time) (duplicates : ℕ)
      → admit clock time (admitted held batch time (column s 0 n) duplicates) b ≡ done (admitted held batch time (column s 0 n) (duplicates + 1)))
      → t ≡ s → Keyed held batch t ks n → Admits clock held batch s t ks n at (Ok Duplicate)
  is_conflict : {actor : ActorId} {seq : Seq} (b : BatchRow) (next : Position) → read_row batch at ≡ got b next
      → ((time : Time) (duplicates : ℕ)
      → admit clock time (admitted held batch time (column s 0 n) duplicates) b ≡ refused (Conflict actor seq))
      → Admits clock held batch s t ks n at (Err (Conflict actor seq))
  is_entered : (b : BatchRow) (next : Position) → read_row batch at ≡ got b next
      → ((time : Time) (duplicates : ℕ)
      → admit clock time (admitted held batch time (column s 0 n) duplicates) b ≡ done (admitted held batch time (column t 0 (n + 1)) duplicates))
      → refs_ok held batch (column t 0 (n + 1)) ≡ true → Keyed held batch t ks (n + 1) → Admits clock held batch s t ks n at (Ok Entered)

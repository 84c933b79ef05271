-- A batch that reads is what is written of its rows, and so are the bytes that are sealed.
use Prim.Native.Nat.{ℕ, zero, suc}
use mathlib.Core.Path.{◌≡◌, refl, sym, ◌∙◌}
use mathlib.Core.List.{List}
use native.Mathlib.Omega.{arith}
use lib.Dec.{leb}
use lib.ListN.{length}
use Rattle.words.specs.Be.{AllBytes}
use Rattle.error.specs.Answer.{got}
use Rattle.codec.proofs.OneSpelling.{Stand, joined, all_stands}
use Rattle.codec.proofs.ReadSteps.{got_value, got_next, by}
use Rattle.codec.specs.Reading.{part_of}
use Rattle.row.specs.Reading.{BatchRow, read_row, read_head, read_deps, read_part}
use Rattle.row.specs.Unsigned.{read_unsigned}
use Rattle.row.specs.Wire.{unsigned_bytes}
use Rattle.row.proofs.OneSpelling.{number_stands, head_stands, deps_stand, sized_stands, row_stands}
use Rattle.merging.specs.Batch.{read_rows, whole}
use Rattle.merging.specs.Desk.{signed, read_sealed}
use Rattle.merging.specs.OneSpelling.{rows_bytes, batch_bytes, OnlyWritten, OneSpelling, SealedWritten}
use Rattle.merging.proofs.Traces.{unless_done, then_done, whole_got}
use Rattle.merging.proofs.BatchRows.{batch_got}

module _ (s : List ℕ) (bs : AllBytes s) where
  rows_stand : (n at : ℕ) (rows : List BatchRow) (next : ℕ) → read_rows s at n ≡ got rows next → Stand s at next (rows_bytes rows)
  unfolding read_rows rows_bytes
  rows_stand zero at rows next e = rw (← got_value e, ← got_next e) (record { here = refl })
  rows_stand (suc n) at rows next e =
      by (read_row s at) _ e (λ row at₁ e₁ e₂.
      by (read_rows s at₁ n) _ e₂ (λ rest at₂ e₃ e₄.
      rw (← got_value e₄, ← got_next e₄) (joined (row_stands s bs at row at₁ e₁) (rows_stand n at₁ rest at₂ e₃))))

pub only_written : OnlyWritten
unfolding batch_bytes
only_written s rows bs e =
    let (first, f, g) = batch_got s rows e in
    all_stands (joined (number_stands s bs 0 (length rows) first f) (rows_stand s bs (length rows) first rows (length s) g)) (omega arith)

pub one_spelling : OneSpelling
one_spelling s t rows bs ct e f = only_written s rows bs e ∙ sym (only_written t rows ct f)

pub sealed_written : SealedWritten
unfolding read_sealed read_unsigned unsigned_bytes
sealed_written bytes signature r bs e =
    let (x, p, e₁) = then_done (whole bytes (read_unsigned bytes 0)) _ e in
    let (q, e₂) = unless_done (leb (length signature) 64) _ _ e₁ in
    let z : signed x signature ≡ r = cc in
    by (read_head bytes 0) _ (whole_got bytes (read_unsigned bytes 0) x p) (λ h a1 x1 f1.
    by (read_deps bytes a1) _ f1 (λ ds a2 x2 f2.
    by (read_part bytes a2 256) _ f2 (λ payload a3 x3 f3.
    rw (← z, ← got_value f3)
    (all_stands
    (joined (head_stands bytes bs 0 h a1 x1 ds (part_of bytes payload) signature)
    (joined (deps_stand bytes bs a1 ds a2 x2) (sized_stands bytes bs 256 a2 payload a3 x3)))
    (omega (arith, got_next f3))))))

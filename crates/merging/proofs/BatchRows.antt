-- The rows that a batch's bytes bring: where they are read, and what holds of each. They are within capacity, and their outcomes as they may be.
use Prim.Native.Nat.{ℕ, zero, suc}
use mathlib.Core.Path.{◌≡◌, sym, ap}
use mathlib.Core.Logic.{inl, inr}
use mathlib.Core.List.Memᴰ
use mathlib.Core.List.{List, [], ◌∷◌, Memᴰ}
use lib.Dec.{leb}
use lib.ListN.{length}
use Rattle.words.specs.Be.{AllBytes}
use Rattle.error.specs.Answer.{done, got}
use Rattle.codec.proofs.ReadSteps.{after_got, need_got, got_value}
use Rattle.row.specs.Reading.{BatchRow, number, read_row}
use Rattle.row.proofs.ReadRows.{read_row_ok}
use Rattle.merging.specs.Batch.{read_rows, read_batch}
use Rattle.merging.proofs.Traces.{whole_got}
use Rattle.merging.proofs.RulesKept.{Brings}

module _ (s : List ℕ) where
  -- as many rows are read as were asked for
  pub read_length : (n at : ℕ) (rows : List BatchRow) (next : ℕ) → read_rows s at n ≡ got rows next → length rows ≡ n
  unfolding read_rows
  read_length zero at rows next e =
      let p : rows ≡ [] = sym (got_value e) in
      rw p
  read_length (suc n) at rows next e =
      let (row, at₁, e₁, e₂) = after_got (read_row s at) _ e in
      let (rest, at₂, e₃, e₄) = after_got (read_rows s at₁ n) _ e₂ in
      let p : rows ≡ row ∷ rest = sym (got_value e₄) in
      rw p (ap suc (read_length n at₁ rest at₂ e₃))

  -- a batch that was read: the number of its rows, and behind it these, up to the end
  pub batch_got : (rows : List BatchRow) → read_batch s ≡ done rows
      → (first : ℕ) × (number s 0 ≡ got (length rows) first) × (read_rows s first (length rows) ≡ got rows (length s))
  unfolding read_batch
  batch_got rows e =
      let (n, first, f₁, f₂) = after_got (number s 0) _ (whole_got s _ rows e) in
      let (t, f₃) = need_got (leb n 64) _ _ f₂ in
      let l : length rows ≡ n = read_length n first rows (length s) f₃ in
      (first, rw l f₁, rw l f₃)

  -- what holds of every row that can be read holds of each row of a batch
  module _ (P : BatchRow → Type 0) (holds : (at : ℕ) (b : BatchRow) (next : ℕ) → read_row s at ≡ got b next → P b) where
    rows_have : (n at : ℕ) (rows : List BatchRow) (next : ℕ) → read_rows s at n ≡ got rows next → (b : BatchRow) → Memᴰ b rows → P b
    unfolding read_rows
    rows_have zero at rows next e b m =
        let p : rows ≡ [] = sym (got_value e) in
        absurd (Memᴰ.not-nil (rw p at m))
    rows_have (suc n) at rows next e b m =
        let (row, at₁, e₁, e₂) = after_got (read_row s at) _ e in
        let (rest, at₂, e₃, e₄) = after_got (read_rows s at₁ n) _ e₂ in
        let p : rows ≡ row ∷ rest = sym (got_value e₄) in
        elim (Memᴰ.cases_cons (rw p at m)) [ inl q ↦ rw q (holds at row at₁ e₁) | inr k ↦ rows_have n at₁ rest at₂ e₃ b k ]

    pub batch_has : (rows : List BatchRow) → read_batch s ≡ done rows → (b : BatchRow) → Memᴰ b rows → P b
    batch_has rows e = let (first, f, g) = batch_got rows e in rows_have (length rows) first rows (length s) g

pub brought : (s : List ℕ) → AllBytes s → (rows : List BatchRow) → read_batch s ≡ done rows → Brings rows
brought s bytes = batch_has s _ (λ at b next e. let k = read_row_ok s bytes at b next e in (k.row, k.outcome))

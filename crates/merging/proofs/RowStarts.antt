-- Where the rows of a batch start.
use Prim.Native.Nat.{ℕ, zero, suc, ◌+◌}
use mathlib.Core.Path.{◌≡◌, refl}
use mathlib.Core.List.{List}
use native.Mathlib.Omega.{arith}
use Rattle.row.specs.Reading.{read_row}
use Rattle.merging.specs.Inside.RowStarts.{past_row, start_of}

-- the next row starts past this one
pub start_next : (s : List ℕ) (at i : ℕ) → start_of s at (i + 1) ≡ past_row (read_row s (start_of s at i))
unfolding start_of
start_next s at zero = refl
start_next s at (suc i) =
    let e : suc i + 1 ≡ suc (i + 1) = omega arith in
    rw e (start_next s (past_row (read_row s at)) i)

-- row_ok as a record, in both directions: that of the row when it is logged.
use mathlib.Core.Path.{◌≡◌, refl}
use mathlib.Core.Bool.{true}
use Rattle.row.specs.Rows.{Row, row_ok, held_ok, outcome_ok, logged}
use Rattle.words.proofs.Conjunction.{and_both}
use Rattle.row.proofs.CanonicalSlot.{HeldGood, held_row, held_good, good_held}

pub row_good : (r : Row) → row_ok r ≡ true → HeldGood (logged r)
unfolding held_ok outcome_ok
row_good r t = held_good (logged r) (and_both _ _ (and_both _ _ t refl) refl)

pub good_row : (r : Row) → HeldGood (logged r) → row_ok r ≡ true
good_row r g = held_row (logged r) (good_held (logged r) g)

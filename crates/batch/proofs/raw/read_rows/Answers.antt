use Rattle.std.proofs.Common.{refl, arith, rules}
use Rattle.error.proofs.Exits.{handed_on}
use Rattle.batch.proofs.BatchLoop.{counting_start, left_over, all_read, row_stops, counting_turn, rows_refused}
use Rattle.batch.proofs.RowStarts.{starting_start, starting_turn, all_noted, none_start}
use Rattle.batch.proofs.raw.read_rows.Goals as goal

pub loop-i-init : goal.loop-i-init
loop-i-init c = (counting_start _ _ _ _ _ c.requires.0, starting_start _ _ _)

pub returns-in_err-row : goal.returns-in_err-row
returns-in_err-row c =
    record { reads = rows_refused (handed_on c.from_residual.ensures) (row_stops c.loop-i.invariant.0 c.loop-i-test.true c.in_err-row.ensures); start = none_start _ _ _ (handed_on c.from_residual.ensures) }

pub validated-valid-requires : goal.validated-valid-requires
validated-valid-requires c = (c.in_ok-row.ensures.fits _ _ refl).deps

pub loop-i-preserved : goal.loop-i-preserved
loop-i-preserved c =
    (counting_turn c.loop-i.invariant.0 c.loop-i-test.true c.in_ok-row.ensures c.validated-valid.ensures, starting_turn c.loop-i.invariant.1 (search rules) c.in_ok-row.ensures)

pub returns-then-at-s : goal.returns-then-at-s
returns-then-at-s c = record { reads = rows_refused refl (left_over c.loop-i.invariant.0 (omega arith) (λ e. omega arith)); start = tt }

pub returns : goal.returns
returns c = record { reads = record { is = (refl, all_read c.loop-i.invariant.0 (omega arith) (omega arith)) }; start = all_noted c.loop-i.invariant.1 c.loop-i-test.false }

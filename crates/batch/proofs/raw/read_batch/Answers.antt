use Rattle.error.proofs.Exits.{handed_on}
use Rattle.batch.proofs.BatchLoop.{count_is, no_count, over_count, batch_by_rows}
use Rattle.batch.proofs.RowStarts.{none_start, start_by_rows}
use Rattle.batch.proofs.raw.read_batch.Goals as goal

pub returns-in_err-count : goal.returns-in_err-count
returns-in_err-count c =
    record { reads = no_count _ _ _ (count_is _ _ c.or.ensures c.get_varint.ensures c.in_err-count.was) (handed_on c.from_residual.ensures); start = none_start _ _ _ (handed_on c.from_residual.ensures) }

pub returns-then-count-gt64 : goal.returns-then-count-gt64
returns-then-count-gt64 c = record { reads = over_count _ _ _ (count_is _ _ c.or.ensures c.get_varint.ensures c.in_ok-count.was) c.if-count-gt64.true; start = tt }

pub returns : goal.returns
returns c =
    record {
      reads = batch_by_rows _ _ _ (count_is _ _ c.or.ensures c.get_varint.ensures c.in_ok-count.was) c.if-count-gt64.false c.read_rows.ensures.reads;
      start = start_by_rows _ _ _ (count_is _ _ c.or.ensures c.get_varint.ensures c.in_ok-count.was) c.read_rows.ensures.start;
    }

use Rattle.error.proofs.Exits.{handed_on}
use Rattle.replicated_log.specs.Areas.{areas}
use Rattle.merge.proofs.CallAnswers.{decides, starts_known}
use Rattle.merge.proofs.deciding.decide.Goals as goal

pub returns-in_err-rows : goal.returns-in_err-rows
returns-in_err-rows c = rw (handed_on c.from_residual.ensures) (record { decides = c.in_err-rows.ensures; begin = tt })

pub returns : goal.returns
returns c =
    let args = c.args in
    let store = areas args.log.now args.held.now args.head.now in
    let ready = c.in_ok-rows.ensures in
    record {
      decides = decides store _ _ _ _ _ _ _ _ ready.0 ready.1 _ _ c.decide_rows.ensures;
      begin = starts_known store _ _ _ _ args.output.now _ _ _ ready.0 c.decide_rows.result;
    }

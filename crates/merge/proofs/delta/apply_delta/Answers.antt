use Rattle.replicated_log.specs.Areas.{areas}
use Rattle.merge.proofs.JoinedCall.{delta_refused, delta_accepted}
use Rattle.merge.proofs.delta.apply_delta.Goals as goal

pub fold_stamps-folded-requires : goal.fold_stamps-folded-requires
fold_stamps-folded-requires c = rw c.in-Ok.is at c.apply_remote_ops.ensures.begin

pub returns-in-Err : goal.returns-in-Err
returns-in-Err c =
    let args = c.args in
    delta_refused (areas args.log.now args.held.now args.head.now) _ _ _ _ (rw c.in-Err.is at c.apply_remote_ops.ensures.leaves)

pub returns : goal.returns
returns c =
    let args = c.args in
    delta_accepted (areas args.log.now args.held.now args.head.now) _ _ _ _ c.fold_stamps-folded.result (rw c.in-Ok.is at c.apply_remote_ops.ensures.leaves) c.fold_stamps-folded.ensures

use mathlib.Core.Path.{refl}
use Rattle.replicated_log.specs.Areas.{areas}
use Rattle.merge.proofs.CallAnswers.{commit_needs, batch_leaves, batch_refused}
use borrow.Author.Rules.{rules}
use Rattle.merge.proofs.call.apply_remote_ops.Goals as goal

pub returns-in-Err : goal.returns-in-Err
returns-in-Err c =
    let args = c.args in
    let store = areas args.log.now args.held.now args.head.now in
    let refused = c.refuse in
    let why = rw c.in-Err.is at c.decide.ensures.decides in
    record {
      leaves = batch_refused store _ _ _ _ _ c.decide.new.scratch _ _ refused.result why refused.ensures.is refused.ensures.clear (search rules);
      begin = rw refused.ensures.is tt;
    }

pub commit-fates-requires : goal.commit-fates-requires
commit-fates-requires c =
    let accepted = rw c.in-Ok.is at c.decide.ensures.decides in
    commit_needs accepted.accepts _ _ (search rules) accepted.room

pub returns : goal.returns
returns c =
    let accepted = rw c.in-Ok.is at c.decide.ensures.decides in
    record {
      leaves = batch_leaves accepted.accepts _ _ (search rules) accepted.answer _ _ _ _ _ c.commit-fates.ensures _ c.zero.ensures _ refl refl refl refl refl refl refl;
      begin = rw c.in-Ok.is at c.decide.ensures.begin;
    }

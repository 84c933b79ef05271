use Rattle.error.proofs.Exits.{handed_on}
use Rattle.merge.proofs.Settlement.{kept_few, admit_needs, drain_needs, settle_refused, settle_rows}
use borrow.Author.Rules.{rules}
use Rattle.merge.proofs.deciding.settle.Goals as goal

pub admit_all-requires : goal.admit_all-requires
admit_all-requires c = admit_needs c.requires c.unexpired-kept.ensures (search rules)

pub returns-in_err-entered : goal.returns-in_err-entered
returns-in_err-entered c = rw (handed_on c.from_residual.ensures) (settle_refused c.requires c.unexpired-kept.ensures c.in_err-entered.ensures)

pub drain-d-requires : goal.drain-d-requires
drain-d-requires c = drain_needs c.requires c.unexpired-kept.ensures c.in_ok-entered.ensures

pub overflow_sub-result : goal.overflow_sub-result
overflow_sub-result c = kept_few c.requires c.unexpired-kept.ensures

pub returns : goal.returns
returns c = settle_rows c.requires c.unexpired-kept.ensures c.in_ok-entered.ensures c.drain-d.ensures

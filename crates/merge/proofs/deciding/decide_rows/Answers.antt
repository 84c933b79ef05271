use mathlib.Core.Path.{refl}
use Rattle.error.proofs.Exits.{handed_on}
use Rattle.merge.proofs.Judgement.{oldest_is, used_long, settle_needs, judge_needs, not_admitted, not_passed, accepts}
use borrow.Author.Rules.{rules}
use Rattle.merge.proofs.deciding.decide_rows.Goals as goal

pub slice_bounds-used-end : goal.slice_bounds-used-end
slice_bounds-used-end c = used_long c.requires refl (oldest_is c.args.limits _ c.saturating_sub-cutoff.ensures)

pub settle-requires : goal.settle-requires
settle-requires c = settle_needs c.requires refl (oldest_is c.args.limits _ c.saturating_sub-cutoff.ensures)

pub returns-in_err-settled : goal.returns-in_err-settled
returns-in_err-settled c =
    rw (handed_on c.from_residual.ensures) (not_admitted c.requires refl (oldest_is c.args.limits _ c.saturating_sub-cutoff.ensures) c.in_err-settled.ensures)

pub judge-requires : goal.judge-requires
judge-requires c =
    judge_needs c.requires refl (oldest_is c.args.limits _ c.saturating_sub-cutoff.ensures) c.in_ok-settled.ensures (search rules)

pub returns-in_err-judge : goal.returns-in_err-judge
returns-in_err-judge c =
    rw (handed_on c.from_residual-in_err-judge.ensures) (not_passed c.requires refl (oldest_is c.args.limits _ c.saturating_sub-cutoff.ensures) c.in_ok-settled.ensures (search rules) c.in_err-judge.ensures refl)

pub returns : goal.returns
returns c =
    accepts c.requires refl (oldest_is c.args.limits _ c.saturating_sub-cutoff.ensures) c.in_ok-settled.ensures (search rules) c.in_ok-judge.ensures refl c.ranges.time.fits (λ i. (c.type_inv.batch i).fits)

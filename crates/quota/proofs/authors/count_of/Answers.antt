use Rattle.std.proofs.Common.{sym, ◌∙◌, ap, take, eqb, count_by, arith}
use Rattle.std.proofs.lemmas.List.{take_all}
use Rattle.quota.proofs.AuthorCounts.{times_is}
use Rattle.quota.proofs.authors.count_of.Goals as goal

pub returns : goal.returns
returns c =
    let args = c.args in
    c.loop-b.invariant.1 ∙ ap (count_by (λ b. eqb b args.a)) (take_all c.loop-b.b-index (take args.n args.authors.now) (omega arith)) ∙ sym (times_is args.a _)

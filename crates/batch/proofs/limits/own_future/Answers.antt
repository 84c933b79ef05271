use Rattle.std.proofs.Common.{◌==◌, ◌&&◌, leb, ◌∙◌, take, rules, tests}
use Rattle.std.proofs.lemmas.Iterator.{YieldsList-from_slice, YieldsList-from_zip}
use Rattle.std.proofs.lemmas.Iterator.Search.{any_from_yields_List}
use Rattle.row.specs.Values.{deps_of}
use Rattle.batch.proofs.Validation.{own_by_columns}
use Rattle.batch.proofs.limits.own_future.Goals as goal

pub returns : goal.returns
unfolding deps_of
returns c =
    any_from_yields_List (λ p. p.0 == c.args.actor.0 && leb c.args.seq p.1) c.any.new.self _ c.any.result c.any.ensures.ran
    (YieldsList-from_zip (YieldsList-from_slice (take c.args.d.count c.args.d.authors) (search rules))
    (YieldsList-from_slice (take c.args.d.count c.args.d.numbers) (search rules)))
    (λ x b q k. (search rules, search (rules, tests)))
    ∙ own_by_columns _ _ _ _

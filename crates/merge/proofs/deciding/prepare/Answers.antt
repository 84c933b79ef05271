use mathlib.Core.Path.{sym, ◌∙◌}
use native.Mathlib.Omega.{arith}
use Rattle.error.proofs.Exits.{handed_on}
use Rattle.replicated_log.specs.Areas.{areas}
use Rattle.replicated_log.proofs.Calls.Queries.{passed, stopped}
use Rattle.merge.proofs.Preparation.{no_limits, no_store, prepared_by_lem}
use borrow.Author.Rules.{rules}
use Rattle.merge.proofs.deciding.prepare.Goals as goal

pub returns-then-not-are_within : goal.returns-then-not-are_within
returns-then-not-are_within c =
    let args = c.args in
    no_limits (areas args.log.now args.held.now args.head.now) _ _ _ _ _ (sym c.are_within.ensures ∙ c.if-not-are_within.true)

pub returns-in_err-check_store : goal.returns-in_err-check_store
returns-in_err-check_store c =
    let args = c.args in
    let store = areas args.log.now args.held.now args.head.now in
    rw (handed_on c.from_residual.ensures) (no_store store _ _ _ _ _ (sym c.are_within.ensures ∙ c.if-not-are_within.false) _ (stopped store c.in_err-check_store.ensures))

pub get_word-count-requires : goal.get_word-count-requires
get_word-count-requires c =
    let args = c.args in
    omega (arith, (passed (areas args.log.now args.held.now args.head.now) c.in_ok-check_store.ensures).long.head)

pub take_in-requires : goal.take_in-requires
take_in-requires c =
    let args = c.args in
    let known = passed (areas args.log.now args.held.now args.head.now) c.in_ok-check_store.ensures in
    (omega (arith, c.get_word-count.ensures, known.ok.held_few), search rules)

pub returns : goal.returns
returns c =
    let args = c.args in
    let store = areas args.log.now args.held.now args.head.now in
    prepared_by_lem store _ _ _ _ _ (sym c.are_within.ensures ∙ c.if-not-are_within.false) (passed store c.in_ok-check_store.ensures) _ (search rules) _ (rw c.get_word-count.ensures at c.take_in.ensures)

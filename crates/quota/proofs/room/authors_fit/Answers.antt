use mathlib.Core.Path.{sym, ◌∙◌, ap}
use native.Mathlib.Omega.{arith}
use Rattle.words.specs.Be.{get64}
use Rattle.error.proofs.Exits.{is_refused, no_error}
use Rattle.replicated_log.proofs.Calls.Restoration.{entries_few}
use Rattle.quota.proofs.AuthorCounts.{ref_at_lem}
use Rattle.quota.proofs.RoomTest.{run_start, run_turn, run_not, run_end}
use Rattle.quota.proofs.room.authors_fit.Goals as goal

pub loop-i-init : goal.loop-i-init
loop-i-init c = run_start _ _ _ _ _ c.requires.2 (entries_few _ c.requires.2)

pub author_of-author-requires : goal.author_of-author-requires
author_of-author-requires c = ref_at_lem _ _ _ 8 _ c.loop-i.i _ c.requires.0 c.loop-i-test.true (c.get_word-k.ensures ∙ ap (get64 _) (omega arith))

pub returns-then-is_err : goal.returns-then-is_err
returns-then-is_err c =
    let (k, e) = is_refused c.observe.result (sym c.if-is_err.ensures.value) in
    run_not _ _ _ _ _ _ c.loop-i.i _ _ _ c.loop-i-test.true c.loop-i.invariant c.get_word-k.ensures c.author_of-author.ensures c.observe.ensures k e

pub loop-i-preserved : goal.loop-i-preserved
loop-i-preserved c =
    run_turn _ _ _ _ _ _ c.loop-i.i _ _ _ c.loop-i-test.true c.loop-i.invariant c.get_word-k.ensures c.author_of-author.ensures c.observe.ensures (no_error _ (sym c.if-is_err.ensures.value))

pub returns : goal.returns
returns c = run_end _ _ _ _ _ _ c.loop-i.i c.loop-i-test.false c.loop-i.invariant

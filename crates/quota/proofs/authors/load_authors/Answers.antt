use mathlib.Core.Path.{◌∙◌, ap}
use native.Mathlib.Omega.{arith}
use Rattle.words.specs.Be.{get64}
use Rattle.quota.proofs.AuthorCounts.{ref_at_lem, load_start, load_turn, load_end}
use Rattle.quota.proofs.authors.load_authors.Goals as goal

pub loop-i-init : goal.loop-i-init
loop-i-init c = load_start _ _ _ _

pub author_of-requires : goal.author_of-requires
author_of-requires c = ref_at_lem _ _ _ 0 _ c.loop-i.i _ c.requires.0 c.loop-i-test.true (c.get_word-k.ensures ∙ ap (get64 _) (omega arith))

pub loop-i-preserved : goal.loop-i-preserved
loop-i-preserved c = load_turn _ _ _ c.loop-i.authors c.loop-i.i _ _ (omega arith) c.get_word-k.ensures c.author_of.ensures c.loop-i.invariant

pub returns : goal.returns
returns c = load_end _ _ _ _ _ c.loop-i.i (omega arith) (omega arith) c.loop-i.invariant

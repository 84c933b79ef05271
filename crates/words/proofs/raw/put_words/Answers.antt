use borrow.Author.Rules.{rules}
use mathlib.Core.List.{[]}
use Rattle.words.proofs.Puts.{words_none, words_turn}
use Rattle.words.proofs.raw.put_words.Goals as goal

pub loop-i-init : goal.loop-i-init
loop-i-init c = words_none _ [] _

pub loop-i-preserved : goal.loop-i-preserved
loop-i-preserved c =
    words_turn _ _ _ _ _ c.loop-i.i c.loop-i.invariant c.put_word.ensures (search rules) (search rules)

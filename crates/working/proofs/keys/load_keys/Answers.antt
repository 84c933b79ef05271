use borrow.Author.Rules.{rules}
use native.Mathlib.Omega.{arith}
use Rattle.working.proofs.ScratchColumns.{refs_of, ref_there}
use Rattle.working.proofs.KeyTable.{keyed_none, keyed_turn, keyed_end}
use Rattle.working.proofs.keys.load_keys.Goals as goal

pub loop-i-init : goal.loop-i-init
loop-i-init c = keyed_none _ _ _ _

pub load_key-key-requires : goal.load_key-key-requires
load_key-key-requires c = ref_there _ _ _ _ _ _ (refs_of _ _ _ c.requires.0.refs) (search rules) c.get_word-k.ensures

pub loop-i-preserved : goal.loop-i-preserved
loop-i-preserved c = keyed_turn _ _ _ _ _ _ _ _ c.get_word-k.ensures c.load_key-key.ensures c.write_key.ensures c.loop-i.invariant

pub returns : goal.returns
returns c = keyed_end _ _ _ _ _ _ (omega arith) (search rules) c.loop-i.invariant

use borrow.Author.Rules.{rules}
use Rattle.codec.proofs.WriterLaws.{start, inside, turn, last}
use Rattle.codec.proofs.raw.store_varint.Goals as goal

pub loop-rest-init : goal.loop-rest-init
loop-rest-init c = start _ _ _

pub bounds-out-i : goal.bounds-out-i
bounds-out-i c = inside c.loop-rest.invariant (search rules)

pub loop-rest-preserved : goal.loop-rest-preserved
loop-rest-preserved c = turn c.loop-rest.invariant (search rules) _ _ (search rules) (search rules) (search rules)

pub bounds-out-i-2 : goal.bounds-out-i-2
bounds-out-i-2 c = inside c.loop-rest.invariant (search rules)

pub returns : goal.returns
returns c = last c.loop-rest.invariant (search rules) _ (search rules) (search rules)

use native.Mathlib.Omega.{arith}
use Rattle.row.proofs.PartLengths.{number_few}
use Rattle.sync.proofs.SizeLoops.{frame_sum}
use borrow.Author.Rules.{rules}
use Rattle.sync.proofs.sizes.frame_len.Goals as goal

pub overflow_add-body : goal.overflow_add-body
overflow_add-body c = omega (arith, (number_few (search rules) c.varint_len.ensures).1)

pub overflow_add-body-2 : goal.overflow_add-body-2
overflow_add-body-2 c = omega (arith, c.requires.0, (number_few (search rules) c.varint_len.ensures).1)

pub sized_len-requires : goal.sized_len-requires
sized_len-requires c = omega (arith, c.requires.0, (number_few (search rules) c.varint_len.ensures).1)

pub overflow_add-result : goal.overflow_add-result
overflow_add-result c =
    omega (arith, c.requires.0, (number_few (search rules) c.varint_len.ensures).1, (number_few (search rules) c.varint_len-2.ensures).1, c.sized_len.ensures.1)

pub overflow_add-result-2 : goal.overflow_add-result-2
overflow_add-result-2 c =
    omega (arith, c.requires, (number_few (search rules) c.varint_len.ensures).1, (number_few (search rules) c.varint_len-2.ensures).1, c.sized_len.ensures.1, c.sized_len-2.ensures.1)

pub returns : goal.returns
returns c = frame_sum _ _ _ _ _ _ _ _ _ c.varint_len.ensures (omega arith) c.varint_len-2.ensures c.sized_len.ensures.0 c.sized_len-2.ensures.0

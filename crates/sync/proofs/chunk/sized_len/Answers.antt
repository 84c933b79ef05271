use native.Mathlib.Omega.{arith}
use Rattle.codec.specs.Inside.EnvelopeParts.{sized_length}
use Rattle.row.proofs.PartLengths.{number_few}
use borrow.Author.Rules.{rules}
use Rattle.sync.proofs.chunk.sized_len.Goals as goal

pub overflow_add-result : goal.overflow_add-result
overflow_add-result c = omega (arith, c.requires, (number_few (search rules) c.varint_len.ensures).1)

pub returns : goal.returns
unfolding sized_length
returns c = (omega (arith, c.varint_len.ensures), omega (arith, (number_few (search rules) c.varint_len.ensures).1))

use native.Mathlib.Omega.{arith}
use lib.Count.{leading_le}
use Rattle.codec.proofs.WriterLaws.{length_bits}
use Rattle.codec.proofs.varint_len.Goals as goal

pub overflow_sub-bits : goal.overflow_sub-bits
overflow_sub-bits c = leading_le 64 _

pub returns : goal.returns
returns c = length_bits _ (omega arith)

use mathlib.Core.Path.{refl}
use native.Mathlib.Omega.{arith}
use Rattle.codec.proofs.WriterLaws.{wrote, short_area, put_one}
use Rattle.codec.proofs.put_u8.Goals as goal

pub returns-then-at-out : goal.returns-then-at-out
returns-then-at-out c = short_area _ _ _ (omega arith) refl

pub returns : goal.returns
returns c = wrote _ _ _ (omega arith) (record { past = refl; output = put_one _ _ _ (omega arith) })

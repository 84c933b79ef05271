use native.Mathlib.Omega.{arith}
use Rattle.codec.proofs.WriterLaws.{room_no, room_yes}
use Rattle.codec.proofs.raw.past.Goals as goal

pub returns-then-n-len : goal.returns-then-n-len
returns-then-n-len c = room_no _ _ _ (omega arith)

pub returns-then-at-len : goal.returns-then-at-len
returns-then-at-len c = room_no _ _ _ (omega arith)

pub returns : goal.returns
returns c = room_yes _ _ _ (omega arith)

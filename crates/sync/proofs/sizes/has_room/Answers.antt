use native.Mathlib.Omega.{arith}
use Rattle.sync.proofs.SizeLoops.{row_room, chunk_room}
use Rattle.sync.proofs.sizes.has_room.Goals as goal

pub returns-then-n-room : goal.returns-then-n-room
returns-then-n-room c = row_room _ _ _ _ _ _ c.if-n-room.true

pub returns : goal.returns
returns c = chunk_room _ _ _ _ _ _ _ _ c.count_chunks.ensures (omega arith)

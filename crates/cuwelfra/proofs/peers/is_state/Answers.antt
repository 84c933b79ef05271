use mathlib.Core.Path.{ap}
use Rattle.peer.specs.Area.{state_ok}
use Prim.Native.Nat.{ℕ}
use lib.Dec.{leb}
use Rattle.cuwelfra.proofs.peers.is_state.Goals as goal

pub returns : goal.returns
unfolding state_ok
returns c = ap (λ (n : ℕ). leb n 3) c.get_word.ensures

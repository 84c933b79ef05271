use Prim.Native.Nat.{◌+◌}
use native.Mathlib.Omega.{arith}
use Rattle.peer.specs.Area.{pings_at}
use Rattle.peer.proofs.PeerArea.{words_are}
use Rattle.peer.proofs.raw.load_pings.Goals as goal

pub returns : goal.returns
unfolding pings_at
returns c = λ i. record { nonces = words_are c.args.s.now c.loop-i.n-items (c.args.at + 8) c.loop-i.i 8 (omega arith) (omega arith) c.loop-i.invariant i; count = c.get_word-count.ensures i }

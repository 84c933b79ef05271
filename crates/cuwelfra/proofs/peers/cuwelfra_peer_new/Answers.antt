use native.Mathlib.Omega.{arith}
use Rattle.cuwelfra.proofs.PeerLaws.{new_short, new_peer_lem}
use Rattle.cuwelfra.proofs.peers.cuwelfra_peer_new.Goals as goal

pub returns-then-area-lt704 : goal.returns-then-area-lt704
returns-then-area-lt704 c = new_short _ _ _ (omega arith) c.tell.ensures

pub returns : goal.returns
returns c = new_peer_lem _ _ _ _ _ (omega arith) c.new.ensures c.store_peer.ensures c.accept.ensures

use Rattle.cuwelfra.specs.Peers.{lost_area}
use Rattle.peer.specs.Peers.{lost_call}
use Rattle.peer.specs.declared.Peer.{Peer}
use Rattle.cuwelfra.proofs.PeerLaws.{record_long, lent_refused, lent_kept}
use Rattle.cuwelfra.proofs.peers.cuwelfra_peer_connection_lost.Goals as goal

pub keep_peer-requires : goal.keep_peer-requires
keep_peer-requires c = record_long _ _ c.in-Ok.ensures

pub returns-in-Ok : goal.returns-in-Ok
unfolding lost_area
returns-in-Ok c = lent_kept _ _ c.in-Ok.ensures (λ (p : Peer). lost_call p) _ c.connection_lost.ensures _ _ c.keep_peer.ensures

pub returns-in-Err : goal.returns-in-Err
unfolding lost_area
returns-in-Err c = lent_refused _ _ _ c.in-Err.ensures c.tell.ensures _

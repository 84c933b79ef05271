use Rattle.cuwelfra.specs.Peers.{record_ping_area}
use Rattle.peer.specs.Peers.{record_ping_call}
use Rattle.peer.specs.declared.Peer.{Peer}
use Rattle.cuwelfra.proofs.PeerLaws.{record_long, lent_refused, lent_kept}
use Rattle.cuwelfra.proofs.peers.cuwelfra_peer_record_ping.Goals as goal

pub keep_peer-requires : goal.keep_peer-requires
keep_peer-requires c = record_long _ _ c.in-Ok.ensures

pub returns-in-Ok : goal.returns-in-Ok
unfolding record_ping_area
returns-in-Ok c = lent_kept _ _ c.in-Ok.ensures (λ (p : Peer). record_ping_call p c.args.ms) _ c.record_ping.ensures _ _ c.keep_peer.ensures

pub returns-in-Err : goal.returns-in-Err
unfolding record_ping_area
returns-in-Err c = lent_refused _ _ _ c.in-Err.ensures c.tell.ensures _

use Rattle.cuwelfra.specs.Peers.{take_pong_area}
use Rattle.peer.specs.Peers.{take_pong_call}
use Rattle.peer.specs.declared.Peer.{Peer}
use Rattle.cuwelfra.proofs.PeerLaws.{record_long, lent_refused, lent_kept}
use Rattle.cuwelfra.proofs.peers.cuwelfra_peer_take_pong.Goals as goal

pub keep_peer-requires : goal.keep_peer-requires
keep_peer-requires c = record_long _ _ c.in-Ok.ensures

pub returns-in-Ok : goal.returns-in-Ok
unfolding take_pong_area
returns-in-Ok c = lent_kept _ _ c.in-Ok.ensures (λ (p : Peer). take_pong_call p c.args.nonce) _ c.take_pong.ensures _ _ c.keep_peer.ensures

pub returns-in-Err : goal.returns-in-Err
unfolding take_pong_area
returns-in-Err c = lent_refused _ _ _ c.in-Err.ensures c.tell.ensures _

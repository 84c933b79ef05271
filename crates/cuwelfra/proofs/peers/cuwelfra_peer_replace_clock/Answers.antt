use Rattle.std.proofs.Common.{arith}
use Rattle.cuwelfra.specs.Peers.{replace_area}
use Rattle.peer.specs.Peers.{replace_call}
use Rattle.peer.specs.declared.Peer.{Peer}
use Rattle.clock.specs.Area.{clock_at}
use Rattle.cuwelfra.proofs.PeerLaws.{record_long, lent_refused, lent_kept, long_both, short_clock}
use Rattle.cuwelfra.proofs.peers.cuwelfra_peer_replace_clock.Goals as goal

pub returns-then-clock-lt520 : goal.returns-then-clock-lt520
unfolding replace_area
returns-then-clock-lt520 c = short_clock _ _ _ _ (omega arith) c.tell.ensures

pub keep_peer-requires : goal.keep_peer-requires
keep_peer-requires c = record_long _ _ c.in-Ok.ensures

pub returns-in-Ok : goal.returns-in-Ok
unfolding replace_area
returns-in-Ok c =
    let args = c.args in
    rw (long_both args.area.now args.clock.now (omega arith))
    (lent_kept _ _ c.in-Ok.ensures (λ (p : Peer). replace_call p (clock_at args.clock.now 0)) _ (rw c.load_clock.ensures at c.replace_clock.ensures) _ _ c.keep_peer.ensures)

pub returns-in-Err : goal.returns-in-Err
unfolding replace_area
returns-in-Err c = rw (long_both c.args.area.now c.args.clock.now (omega arith)) (lent_refused _ _ _ c.in-Err.ensures c.tell-in-Err.ensures _)

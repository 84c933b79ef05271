use Rattle.std.proofs.Common.{sym, ◌∙◌, arith}
use Rattle.cuwelfra.proofs.PeerLaws.{pending_short, pending_ok, pending_stateless}
use Rattle.cuwelfra.proofs.peers.cuwelfra_peer_pending_ops.Goals as goal

pub returns-then-area-lt704 : goal.returns-then-area-lt704
returns-then-area-lt704 c = pending_short _ _ _ (omega arith) c.clock_told.ensures

pub returns-then-is_state : goal.returns-then-is_state
returns-then-is_state c =
    pending_ok _ _ _ _ _ (omega arith) (sym c.is_state.ensures ∙ c.if-is_state.true) c.load_peer.ensures c.pending_ops-answer.ensures c.clock_told-then-is_state.ensures

pub returns : goal.returns
returns c =
    pending_stateless _ _ _ _ _ (omega arith) _ (sym c.is_state.ensures ∙ c.if-is_state.false) c.load_peer.ensures c.pending_ops-answer.ensures c.and.ensures c.clock_told-2.ensures

use Rattle.std.proofs.Common.{sym, ◌∙◌, arith}
use Rattle.cuwelfra.proofs.PeerLaws.{record_short, record_stateless, record_there}
use Rattle.cuwelfra.proofs.peers.record.Goals as goal

pub returns-then-area-lt704 : goal.returns-then-area-lt704
returns-then-area-lt704 c = record_short _ (omega arith)

pub returns-then-not-is_state : goal.returns-then-not-is_state
returns-then-not-is_state c = record_stateless _ (omega arith) (sym c.is_state.ensures ∙ c.if-not-is_state.true)

pub returns : goal.returns
returns c = record_there _ (omega arith) (sym c.is_state.ensures ∙ c.if-not-is_state.false) _ c.load_peer.ensures

use Rattle.peer.specs.Peers.{new_peer, pings_of}
use Rattle.words.specs.Areas.{pad}
use Rattle.peer.proofs.Peer.new.Goals as goal

pub returns : goal.returns
unfolding new_peer pings_of pad
returns c = rw c.new.ensures

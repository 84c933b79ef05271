-- The record of a peer that is lent as an area. Inside: need not be believed.
use Rattle.words.specs.Names.{Area}
use Rattle.error.specs.declared.Refusal.TheVariants.{ShortArea, UnsoundStore}
use Rattle.error.specs.Answer.{Answer, done, unless}
use Rattle.peer.specs.declared.Peer.{Peer}
use Rattle.peer.specs.Area.{peer_at, state_ok}
use Rattle.cuwelfra.specs.Peers.{long_peer}

abbrev pub record_in : Area → Answer Peer
record_in s = unless (long_peer s) ShortArea (unless (state_ok s) UnsoundStore (done (peer_at s)))

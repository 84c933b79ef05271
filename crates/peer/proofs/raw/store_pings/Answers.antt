use native.Mathlib.Omega.{arith}
use Rattle.peer.proofs.PeerArea.{pings_stored}
use Rattle.peer.proofs.raw.store_pings.Goals as goal

pub returns : goal.returns
returns c =
    pings_stored c.args.p c.args.s.now _ _ c.args.at (omega arith) c.requires c.put_word.ensures c.put_words.ensures

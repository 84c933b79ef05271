use Rattle.std.proofs.Common.{rules, tests}
use Rattle.std.specs.Prelude.{◌==◌}
use Rattle.std.proofs.lemmas.Iterator.{YieldsList-from_slice}
use Rattle.std.proofs.lemmas.Iterator.Search.{position_from_yields_List}
use Rattle.peer.specs.Peers.{nonces}
use Rattle.peer.proofs.nonces.find_nonce.Goals as goal

pub returns : goal.returns
unfolding nonces
returns c = position_from_yields_List (λ m. m == c.args.n) _ _ c.position.result c.position.ensures.ran (YieldsList-from_slice _ (cc)) (λ x b q k. search (rules, tests))

use native.Mathlib.Omega.{arith}
use Rattle.peer.proofs.NonceLists.{tidied}
use Rattle.peer.proofs.nonces.tidy.Goals as goal

pub returns : goal.returns
returns c = tidied c.args.p (omega arith) c.requires _ (c.fill.ensures.after (λ y e. e))

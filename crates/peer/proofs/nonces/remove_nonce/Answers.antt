use mathlib.Core.Path.{◌∙◌}
use native.Mathlib.Omega.{arith}
use Rattle.peer.proofs.NonceLists.{removed}
use Rattle.peer.proofs.nonces.remove_nonce.Goals as goal

pub returns : goal.returns
returns c = c.tidy.ensures ∙ removed c.args.p (omega arith) c.requires.0 c.args.i _ c.requires.1 c.copy_within.ensures.after

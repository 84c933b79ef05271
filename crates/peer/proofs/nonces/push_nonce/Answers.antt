use native.Mathlib.Omega.{arith}
use Rattle.peer.specs.Peers.{nonces}
use Rattle.peer.proofs.NonceLists.{used, pushed, pushed_out}
use Rattle.peer.proofs.nonces.push_nonce.Goals as goal

pub returns-then-count-lt8 : goal.returns-then-count-lt8
returns-then-count-lt8 c = pushed (nonces c.args.p) c.tidy-count.result c.args.n c.tidy-count.ensures (omega arith)

pub returns : goal.returns
returns c =
    let l = used c.args.p (omega arith) c.requires in
    pushed_out (nonces c.args.p) _ c.tidy-count.result c.args.n (omega arith) c.tidy-count.ensures (omega arith) c.copy_within.ensures.after

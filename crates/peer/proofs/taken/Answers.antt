use borrow.Author.Rules.{rules}
use mathlib.Core.Path.{◌∙◌, sym, ap}
use native.Mathlib.Omega.{arith}
use Rattle.std.specs.Option.{is_some}
use Rattle.peer.specs.Peers.{nonces}
use Rattle.peer.proofs.NonceLists.{used, found, told}
use Rattle.peer.proofs.PongPlaces.{took_sent, took_again, took_none}
use Rattle.peer.proofs.taken.Goals as goal

pub moved-requires : goal.moved-requires
moved-requires c =
    let here = found (nonces c.args.p.outstanding) c.args.nonce c.in-Some.i (sym c.find_nonce.ensures ∙ c.in-Some.is) in
    (c.requires.1, c.requires.0, omega (arith, used c.args.p.outstanding (omega arith) c.requires.0))

pub returns-in-Some : goal.returns-in-Some
returns-in-Some c = took_sent c.args.p c.args.nonce _ _ c.in-Some.i (sym c.find_nonce.ensures ∙ c.in-Some.is) c.moved.ensures c.done.ensures

pub returns-then-is_some : goal.returns-then-is_some
returns-then-is_some c =
    took_again c.args.p c.args.nonce _ (told _ _ _ _ c.find_nonce.ensures (ap is_some c.in_default.is)) (told _ _ _ _ c.find_nonce-2.ensures (sym c.is_some.ensures ∙ c.if-is_some.true)) c.done-then-is_some.ensures

pub returns : goal.returns
returns c =
    took_none c.args.p c.args.nonce _ (told _ _ _ _ c.find_nonce.ensures (ap is_some c.in_default.is)) (told _ _ _ _ c.find_nonce-2.ensures (sym c.is_some.ensures ∙ c.if-is_some.false)) (search rules)

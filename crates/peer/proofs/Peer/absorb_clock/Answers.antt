use mathlib.Core.Path.{sym, ◌∙◌}
use Rattle.peer.proofs.PeerCalls.{on_sound_lem, unsound}
use Rattle.peer.specs.Peers.{absorbed, absorb_call}
use Rattle.peer.proofs.Peer.absorb_clock.Goals as goal

pub returns-then-not-is_sound : goal.returns-then-not-is_sound
unfolding absorb_call
returns-then-not-is_sound c = unsound c.args.self _ _ (sym c.is_sound.ensures ∙ c.if-not-is_sound.true) c.refuse.ensures

pub returns : goal.returns
unfolding absorb_call
returns c =
    on_sound_lem c.args.self (sym c.is_sound.ensures ∙ c.if-not-is_sound.false) _ _ (λ i. absorbed c.args.self (c.merge-answer.ensures.ended i))

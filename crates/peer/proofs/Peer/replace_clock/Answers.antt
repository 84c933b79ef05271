use mathlib.Core.Path.{sym, ◌∙◌}
use Rattle.peer.proofs.PeerCalls.{on_sound_lem, unsound}
use Rattle.peer.specs.Peers.{replace_call}
use Rattle.peer.proofs.Peer.replace_clock.Goals as goal

pub returns-then-not-is_sound : goal.returns-then-not-is_sound
unfolding replace_call
returns-then-not-is_sound c = unsound c.args.self _ _ (sym c.is_sound.ensures ∙ c.if-not-is_sound.true) c.refuse.ensures

pub returns-then-not-is_sound-2 : goal.returns-then-not-is_sound-2
unfolding replace_call
returns-then-not-is_sound-2 c = on_sound_lem c.args.self (sym c.is_sound.ensures ∙ c.if-not-is_sound.false) _ _ (c.refuse-then-not-is_sound-2.ensures ∙ rw (sym c.is_sound-2.ensures ∙ c.if-not-is_sound-2.true))

pub returns : goal.returns
unfolding replace_call
returns c = on_sound_lem c.args.self (sym c.is_sound.ensures ∙ c.if-not-is_sound.false) _ _ (c.done.ensures ∙ rw (sym c.is_sound-2.ensures ∙ c.if-not-is_sound-2.false))

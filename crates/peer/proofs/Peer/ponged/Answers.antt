use mathlib.Core.Path.{sym, ◌∙◌}
use Rattle.peer.proofs.PeerCalls.{few_sent, few_answered, on_sound_lem, unsound}
use Rattle.peer.specs.Peers.{take_pong_call}
use Rattle.peer.proofs.Peer.ponged.Goals as goal

pub returns-then-not-is_sound : goal.returns-then-not-is_sound
unfolding take_pong_call
returns-then-not-is_sound c = unsound c.args.self _ _ (sym c.is_sound.ensures ∙ c.if-not-is_sound.true) c.refuse.ensures

pub taken-requires : goal.taken-requires
taken-requires c = (few_sent _ (sym c.is_sound.ensures ∙ c.if-not-is_sound.false), few_answered _ (sym c.is_sound.ensures ∙ c.if-not-is_sound.false))

pub returns : goal.returns
unfolding take_pong_call
returns c = on_sound_lem c.args.self (sym c.is_sound.ensures ∙ c.if-not-is_sound.false) _ _ c.taken.ensures

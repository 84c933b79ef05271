use mathlib.Core.Path.{sym, ◌∙◌}
use Rattle.peer.proofs.PeerCalls.{few_sent, few_answered, on_sound_lem, unsound}
use Rattle.peer.specs.Peers.{record_ping_call}
use Rattle.error.specs.Answer.{ends, done, nothing}
use Rattle.peer.proofs.Peer.pinged.Goals as goal

pub returns-then-not-is_sound : goal.returns-then-not-is_sound
unfolding record_ping_call
returns-then-not-is_sound c = unsound c.args.self _ _ (sym c.is_sound.ensures ∙ c.if-not-is_sound.true) c.refuse.ensures

pub with_ping-requires : goal.with_ping-requires
with_ping-requires c = (few_sent _ (sym c.is_sound.ensures ∙ c.if-not-is_sound.false), few_answered _ (sym c.is_sound.ensures ∙ c.if-not-is_sound.false))

pub returns : goal.returns
unfolding record_ping_call
returns c = on_sound_lem c.args.self (sym c.is_sound.ensures ∙ c.if-not-is_sound.false) _ _ (c.done.ensures ∙ (λ i. ends (done nothing) (c.with_ping.ensures i)))

use mathlib.Core.Path.{sym, ◌∙◌}
use Rattle.peer.proofs.PeerCalls.{on_sound_lem, unsound}
use Rattle.peer.specs.Peers.{started_call}
use Rattle.error.specs.Answer.{ends, done, nothing}
use Rattle.peer.proofs.Peer.connection_started.Goals as goal

pub returns-then-not-is_sound : goal.returns-then-not-is_sound
unfolding started_call
returns-then-not-is_sound c = unsound c.args.self _ _ (sym c.is_sound.ensures ∙ c.if-not-is_sound.true) c.refuse.ensures

pub returns : goal.returns
unfolding started_call
returns c = on_sound_lem c.args.self (sym c.is_sound.ensures ∙ c.if-not-is_sound.false) _ _ (c.done.ensures ∙ (λ i. ends (done nothing) (c.with_times.ensures i)))

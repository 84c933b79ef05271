use mathlib.Core.Path.{sym, ◌∙◌}
use Rattle.peer.proofs.PeerCalls.{on_sound_lem, unsound}
use Rattle.peer.specs.Peers.{with_times}
use Rattle.peer.specs.Peers.{rebase_call}
use Rattle.error.specs.Answer.{ends, done, nothing}
use Rattle.peer.proofs.Peer.rebase_timers.Goals as goal

pub returns-then-not-is_sound : goal.returns-then-not-is_sound
unfolding rebase_call
returns-then-not-is_sound c = unsound c.args.self _ _ (sym c.is_sound.ensures ∙ c.if-not-is_sound.true) c.refuse.ensures

pub returns : goal.returns
unfolding rebase_call
returns c =
    let args = c.args in
    on_sound_lem args.self (sym c.is_sound.ensures ∙ c.if-not-is_sound.false) _ _ (c.done.ensures ∙ (λ i. ends (done nothing) (c.with_times.ensures i)) ∙ (λ i. ends (done nothing) (with_times args.self args.self.state (c.rebased-seen.ensures i) (c.rebased-ping.ensures i) (c.rebased-hello.ensures i))))

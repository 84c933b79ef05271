use mathlib.Core.Path.{◌∙◌, ap}
use Rattle.peer.specs.Area.{peer_at, state_of}
use Rattle.peer.proofs.raw.load_peer.Goals as goal

pub returns : goal.returns
unfolding peer_at
returns c =
    λ i. record {
      id = record { 0 = c.get_word-id.ensures i };
      state = (c.state_of-state.ensures ∙ ap state_of c.get_word-number.ensures) i;
      remote_clock = c.load_clock-remote_clock.ensures i;
      last_seen_ms = c.get_word-seen.ensures i;
      last_ping_ms = c.get_word-ping.ensures i;
      outstanding = c.load_pings-outstanding.ensures i;
      answered = c.load_pings-answered.ensures i;
      last_hello_ms = c.get_word-hello.ensures i;
    }

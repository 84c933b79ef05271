-- How the code takes a nonce out by its place, and puts lists of nonces into a record. Inside: need not be believed.
use Rattle.std.specs.Prelude.{ℕ, ◌+◌, List, ◌++◌, take, drop}
use Rattle.words.specs.Names.{Time}
use Rattle.peer.specs.declared.Pings.{Pings}
use Rattle.peer.specs.declared.Peer.{Peer}

-- all but the nonce at i
unfoldable pub without : ℕ → List ℕ → List ℕ
without i ns = take i ns ++ drop (i + 1) ns

-- the record with other lists of nonces
abbrev pub having_pings : Peer → (last_ping : Time) → (outstanding answered : Pings) → Peer
having_pings p last_ping outstanding answered =
    record {
      id = p.id;
      state = p.state;
      remote_clock = p.remote_clock;
      last_seen_ms = p.last_seen_ms;
      last_ping_ms = last_ping;
      outstanding = outstanding;
      answered = answered;
      last_hello_ms = p.last_hello_ms;
    }

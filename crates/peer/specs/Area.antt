-- A peer in a lent area, docs/LAYOUT.md: the record's fields in the Rust's order, 88 words.
use Rattle.std.specs.Prelude.{ℕ, ◌+◌, Bool, [], ◌∷◌, ◌++◌, leb, eqb}
use Rattle.words.specs.Names.{Area, Bytes, Position}
use Rattle.words.specs.Sizes.{word_size, most_pings, peer_state, peer_clock, peer_last_seen, peer_last_ping, peer_outstanding, peer_answered, peer_last_hello}
use Rattle.words.specs.Choice.{pick}
use Rattle.words.specs.Be.{be64, get64, bes, words_at}
use Rattle.clock.specs.Area.{clock_at, clock_bytes}
use Rattle.peer.specs.declared.PeerState.{PeerState}
use Rattle.peer.specs.declared.PeerState.TheVariants.{Connecting, Syncing, UpToDate, Disconnected}
use Rattle.peer.specs.declared.Pings.{Pings}
use Rattle.peer.specs.declared.Peer.{Peer}

-- LAYOUT: "0 connecting, 1 syncing, 2 up to date, 3 disconnected"
abbrev pub state_number : PeerState → ℕ
state_number Connecting = 0
state_number Syncing = 1
state_number UpToDate = 2
state_number Disconnected = 3

-- the state of a number; a greater one is no state, see state_ok
unfoldable pub state_of : ℕ → PeerState
state_of n = pick (eqb n 0) Connecting (pick (eqb n 1) Syncing (pick (eqb n 2) UpToDate Disconnected))

unfoldable pub pings_at : Area → Position → Pings
pings_at s at = record { nonces = words_at s (at + word_size) most_pings; count = get64 s at }

unfoldable pub peer_at : Area → Peer
peer_at s =
    record {
      id = record { 0 = get64 s 0 };
      state = state_of (get64 s peer_state);
      remote_clock = clock_at s peer_clock;
      last_seen_ms = get64 s peer_last_seen;
      last_ping_ms = get64 s peer_last_ping;
      outstanding = pings_at s peer_outstanding;
      answered = pings_at s peer_answered;
      last_hello_ms = get64 s peer_last_hello;
    }

-- the state's number is one of the four. LAYOUT: "a greater number is refusal 1"
unfoldable pub state_ok : Area → Bool
state_ok s = leb (get64 s peer_state) 3

unfoldable pub pings_bytes : Pings → Bytes
pings_bytes p = be64 p.count ++ bes p.nonces

unfoldable pub peer_bytes : Peer → Bytes
peer_bytes p =
    bes (p.id.0 ∷ state_number p.state ∷ []) ++ (clock_bytes p.remote_clock
    ++ (bes (p.last_seen_ms ∷ p.last_ping_ms ∷ []) ++ (pings_bytes p.outstanding ++ (pings_bytes p.answered ++ be64 p.last_hello_ms))))

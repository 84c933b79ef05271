-- The record of a peer, src/peer.rs. 01: "Peers keep 8 pings and 8 answered"; "the rules for clocks in a clock or peer lent alone, or a peer's
-- list counts above 8" are 1. A refusal leaves the record.
use Rattle.std.specs.Prelude.{ℕ, Bool, false, ◌&&◌, ◌||◌, List, [], ◌∷◌, ◌++◌, length, take, drop, ltb, leb, eqb}
use Rattle.words.specs.Names.{Author, Time, Clock}
use Rattle.words.specs.Sizes.{most_pings}
use Rattle.words.specs.Choice.{pick}
use Rattle.words.specs.Lists.{count_if}
use Rattle.words.specs.Areas.{pad}
use Rattle.error.specs.declared.Refusal.TheVariants.{UnsoundStore, UnaskedPong}
use Rattle.error.specs.Answer.{Answer, done, refused, and_then, unless, nothing, ends}
use Rattle.error.specs.declared.Ends.{Ends}
use Rattle.clock.specs.declared.vector.VectorClock.{VectorClock}
use Rattle.clock.specs.Vector.{sound, entries, clock_of, merge_call}
use Rattle.row.specs.Rows.{Row}
use Rattle.replicated_log.specs.Areas.{Areas, read_store}
use Rattle.replicated_log.specs.Calls.{unseen}
use Rattle.peer.specs.declared.PeerState.{PeerState}
use Rattle.peer.specs.declared.PeerState.TheVariants.{Connecting, Syncing, Disconnected}
use Rattle.peer.specs.declared.Pings.{Pings}
use Rattle.peer.specs.declared.Peer.{Peer}

-- the nonces of a list of pings
unfoldable pub nonces : Pings → List ℕ
nonces p = take p.count p.nonces

-- the list of at most 8 nonces, unused places zero
unfoldable pub pings_of : List ℕ → Pings
pings_of ns = record { nonces = pad most_pings ns; count = length ns }

-- the rules
unfoldable pub peer_sound : Peer → Bool
peer_sound p =
    leb p.outstanding.count most_pings
    && leb p.answered.count most_pings
    && sound p.remote_clock

-- one more nonce, of nine the first goes. rs: "Only the most recent few are kept"
unfoldable pub push : List ℕ → ℕ → List ℕ
push ns n = pick (ltb (length ns) most_pings) (ns ++ (n ∷ [])) (drop 1 (ns ++ (n ∷ [])))

unfoldable pub contains : ℕ → List ℕ → Bool
contains n [] = false
contains n (m ∷ ms) = eqb m n || contains n ms

-- without the first that equals n
unfoldable pub remove : ℕ → List ℕ → List ℕ
remove n [] = []
remove n (m ∷ ms) = pick (eqb m n) ms (m ∷ remove n ms)

-- the record with other pings
abbrev pub with_pings : Peer → (last_ping : Time) → (outstanding answered : List ℕ) → Peer
with_pings p last_ping outstanding answered =
    record {
      id = p.id;
      state = p.state;
      remote_clock = p.remote_clock;
      last_seen_ms = p.last_seen_ms;
      last_ping_ms = last_ping;
      outstanding = pings_of outstanding;
      answered = pings_of answered;
      last_hello_ms = p.last_hello_ms;
    }

-- the record with another clock
abbrev pub with_clock : Peer → VectorClock → Peer
with_clock p c =
    record {
      id = p.id;
      state = p.state;
      remote_clock = c;
      last_seen_ms = p.last_seen_ms;
      last_ping_ms = p.last_ping_ms;
      outstanding = p.outstanding;
      answered = p.answered;
      last_hello_ms = p.last_hello_ms;
    }

-- the record with another state and other times
abbrev pub with_times : Peer → PeerState → (seen ping hello : Time) → Peer
with_times p state seen ping hello =
    record {
      id = p.id;
      state = state;
      remote_clock = p.remote_clock;
      last_seen_ms = seen;
      last_ping_ms = ping;
      outstanding = p.outstanding;
      answered = p.answered;
      last_hello_ms = hello;
    }

-- a call on p: 1 before all else
unfoldable pub on_sound : Peer → Ends Unit Peer → Ends Unit Peer
on_sound p call = pick (peer_sound p) call (ends (refused UnsoundStore) p)

-- Peer::new
unfoldable pub new_peer : Author → Peer
new_peer id =
    record {
      id = record { 0 = id };
      state = Connecting;
      remote_clock = clock_of [];
      last_seen_ms = 0;
      last_ping_ms = 0;
      outstanding = pings_of [];
      answered = pings_of [];
      last_hello_ms = 0;
    }

-- Peer::connection_started
unfoldable pub started_call : Peer → Time → Ends Unit Peer
started_call p now = on_sound p (ends (done nothing) (with_times p Syncing now now now))

-- Peer::connection_lost
unfoldable pub lost_call : Peer → Ends Unit Peer
lost_call p = on_sound p (ends (done nothing) (with_times p Disconnected p.last_seen_ms p.last_ping_ms p.last_hello_ms))

-- Peer::absorb_clock: the peer's clock merged with another, with that call's refusals
abbrev pub absorbed : Peer → Ends Unit VectorClock → Ends Unit Peer
absorbed p c = ends c.answer (with_clock p c.left)

unfoldable pub absorb_call : Peer → VectorClock → Ends Unit Peer
absorb_call p c = on_sound p (absorbed p (merge_call p.remote_clock c))

-- Peer::replace_clock: zeros and all
unfoldable pub replace_call : Peer → VectorClock → Ends Unit Peer
replace_call p c = on_sound p (pick (sound c) (ends (done nothing) (with_clock p c)) (ends (refused UnsoundStore) p))

-- Peer::record_ping: the time is the nonce
unfoldable pub record_ping_call : Peer → Time → Ends Unit Peer
record_ping_call p now = on_sound p (ends (done nothing) (with_pings p now (push (nonces p.outstanding) now) (nonces p.answered)))

-- Peer::take_pong: a pong that answers an outstanding ping moves it to the answered; a repeat of a recent answer passes; else 21
unfoldable pub take_pong : Peer → (nonce : ℕ) → Ends Unit Peer
take_pong p nonce =
    pick (contains nonce (nonces p.outstanding))
    (ends (done nothing) (with_pings p p.last_ping_ms (remove nonce (nonces p.outstanding)) (push (nonces p.answered) nonce)))
    (pick (contains nonce (nonces p.answered)) (ends (done nothing) p) (ends (refused UnaskedPong) p))

unfoldable pub take_pong_call : Peer → (nonce : ℕ) → Ends Unit Peer
take_pong_call p nonce = on_sound p (take_pong p nonce)

-- a timer that stands in the future is pulled back
unfoldable pub rebased : (now timer : Time) → Time
rebased now timer = pick (ltb now timer) now timer

-- Peer::rebase_timers
unfoldable pub rebase_call : Peer → Time → Ends Unit Peer
rebase_call p now =
    on_sound p
    (ends (done nothing)
    (with_times p p.state (rebased now p.last_seen_ms) (rebased now p.last_ping_ms) (rebased now p.last_hello_ms)))

-- how many logged rows the peer has not acknowledged
unfoldable pub pending_ops : Clock → List Row → ℕ
pending_ops es rows = count_if (unseen es) rows

-- Peer::pending_ops: 2 for the store, 1 for store and peer
unfoldable pub pending_ops_call : Peer → Areas → Answer ℕ
pending_ops_call p a =
    and_then (read_store a) (λ s. unless (peer_sound p) UnsoundStore (done (pending_ops (entries p.remote_clock) s.log)))

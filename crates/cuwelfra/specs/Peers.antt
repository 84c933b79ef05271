-- The exported calls on a peer, whose record goes as an area. 2 for a short area, 1 for a state that is none, then the call's own refusals; a
-- refusal leaves the area.
use Rattle.std.specs.Prelude.{ℕ, Bool, ◌&&◌, length, leb}
use Rattle.words.specs.Names.{Author, Time, Area}
use Rattle.words.specs.Sizes.{peer_size}
use Rattle.words.specs.Choice.{pick}
use Rattle.words.specs.Areas.{put_at}
use Rattle.error.specs.declared.Refusal.TheVariants.{ShortArea, UnsoundStore}
use Rattle.error.specs.Answer.{Answer, done, refused, and_then, unless, nothing, ends}
use Rattle.error.specs.declared.Ends.{Ends}
use Rattle.clock.specs.Area.{clock_at}
use Rattle.replicated_log.specs.Areas.{Areas}
use Rattle.peer.specs.declared.Peer.{Peer}
use Rattle.peer.specs.Peers.{new_peer, started_call, lost_call, absorb_call, replace_call, record_ping_call, take_pong_call, rebase_call, pending_ops_call}
use Rattle.peer.specs.Area.{peer_at, peer_bytes, state_ok}
use Rattle.cuwelfra.specs.Exports.{written_back}
use Rattle.cuwelfra.specs.Vectors.{long}
use Rattle.replicated_log.specs.Calls.{check_call}

-- the area has room for a peer
abbrev pub long_peer : Area → Bool
long_peer s = leb peer_size (length s)

-- a call on the peer in s, where every area is long enough
abbrev pub lent_peer : (enough : Bool) → Area → Ends Unit Peer → Ends Unit Area
lent_peer enough s c =
    pick enough
    (pick (state_ok s) (written_back peer_bytes s c) (ends (refused UnsoundStore) s))
    (ends (refused ShortArea) s)

unfoldable pub new_peer_area : Area → Author → Ends Unit Area
new_peer_area s id = pick (long_peer s) (ends (done nothing) (put_at s 0 (peer_bytes (new_peer id)))) (ends (refused ShortArea) s)

unfoldable pub started_area : Area → Time → Ends Unit Area
started_area s now = lent_peer (long_peer s) s (started_call (peer_at s) now)

unfoldable pub lost_area : Area → Ends Unit Area
lost_area s = lent_peer (long_peer s) s (lost_call (peer_at s))

unfoldable pub absorb_area : (peer clock : Area) → Ends Unit Area
absorb_area s clock = lent_peer (long_peer s && long clock) s (absorb_call (peer_at s) (clock_at clock 0))

unfoldable pub replace_area : (peer clock : Area) → Ends Unit Area
replace_area s clock = lent_peer (long_peer s && long clock) s (replace_call (peer_at s) (clock_at clock 0))

unfoldable pub record_ping_area : Area → Time → Ends Unit Area
record_ping_area s now = lent_peer (long_peer s) s (record_ping_call (peer_at s) now)

unfoldable pub take_pong_area : Area → (nonce : ℕ) → Ends Unit Area
take_pong_area s nonce = lent_peer (long_peer s) s (take_pong_call (peer_at s) nonce)

unfoldable pub rebase_area : Area → Time → Ends Unit Area
rebase_area s now = lent_peer (long_peer s) s (rebase_call (peer_at s) now)

-- 2 for the peer, the store's refusals, then the peer's
unfoldable pub pending_ops_area : Area → Areas → Answer ℕ
pending_ops_area s a =
    unless (long_peer s) ShortArea
    (and_then (check_call a) (λ u. unless (state_ok s) UnsoundStore (pending_ops_call (peer_at s) a)))

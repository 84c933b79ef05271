-- A peer in a lent area: the turns of loading and storing, and that each undoes the other.
use Prim.Native.Nat.{ℕ, zero, suc, ◌+◌, ◌*◌, ◌≤◌, ◌<◌}
use mathlib.Core.Path.{◌≡◌, refl, sym, ◌∙◌, ap}
use mathlib.Core.Bool.{true}
use mathlib.Core.List.{List, [], ◌∷◌, ◌++◌, append_assoc}
use native.Mathlib.Omega.{arith}
use lib.ListN.{length, take, drop, get_or, length-append, take-append-drop}
use lib.Seq.{take-add, drop_at, drop-drop, length-take-le, ext_get_or}
use borrow.Author.Tests.{leb-true}
use Rattle.words.specs.Be.{AllBytes, be64, get64, bes, words_at}
use Rattle.words.specs.Areas.{put_at}
use Rattle.words.proofs.Words.{word_back, words_back, word_there, word_drop}
use Rattle.words.proofs.Puts.{put_put, length_put, length_bes, length_be}
use Rattle.clock.specs.Area.{clock_at, clock_bytes}
use Rattle.clock.proofs.ClockArea.{Wide, length_bytes, bytes_back as clock_back, load_store as clock_load}
use Rattle.peer.specs.declared.PeerState.{PeerState}
use Rattle.peer.specs.declared.PeerState.TheVariants.{Connecting, Syncing, UpToDate, Disconnected}
use Rattle.peer.specs.declared.Pings.{Pings}
use Rattle.peer.specs.declared.Peer.{Peer}
use Rattle.peer.specs.Area.{state_number, state_of, state_ok, pings_at, peer_at, pings_bytes, peer_bytes}

-- words one after the other
length_words : (s : List ℕ) (at n : ℕ) → length (words_at s at n) ≡ n
unfolding words_at
length_words s at zero = refl
length_words s at (suc n) = ap suc (length_words s (at + 8) n)

words_at_lem : (s : List ℕ) (at n k : ℕ) → k < n → get_or (words_at s at n) k 0 ≡ get64 s (at + 8 * k)
unfolding words_at
words_at_lem s at zero k h = absurd (omega arith)
words_at_lem s at (suc n) zero h =
    let e : at + 8 * 0 ≡ at = omega arith in
    rw e
words_at_lem s at (suc n) (suc k) h =
    let e : at + 8 + 8 * k ≡ at + 8 * suc k = omega arith in
    rw e at (words_at_lem s (at + 8) n k (omega arith))

-- an array that was filled word by word
pub words_are : (s l : List ℕ) (at i n : ℕ) → length l ≡ n → i ≡ n → ((k : ℕ) → k < i → get_or l k 0 ≡ get64 s (at + 8 * k)) → l ≡ words_at s at n
words_are s l at i n h e f =
    ext_get_or 0 l (words_at s at n) (h ∙ sym (length_words s at n)) (λ k m. f k (omega arith) ∙ sym (words_at_lem s at n k (omega arith)))

length_pings : (p : Pings) → length p.nonces ≡ 8 → length (pings_bytes p) ≡ 72
unfolding pings_bytes
length_pings p l8 = length-append (be64 p.count) (bes p.nonces) ∙ omega (arith, length_be p.count, length_bes p.nonces)

pub pings_stored : (p : Pings) (s t u : List ℕ) (at : ℕ) → length p.nonces ≡ 8 → at + 72 ≤ length s → t ≡ put_at s at (be64 p.count)
    → u ≡ put_at t (at + 8) (bes p.nonces) → u ≡ put_at s at (pings_bytes p)
unfolding pings_bytes
pings_stored p s t u at l8 h e f =
    let lb : length (be64 p.count) ≡ 8 = length_be p.count in
    let ln : length (bes p.nonces) ≡ 64 = omega (arith, length_bes p.nonces) in
    f ∙ rw e (put_put s (be64 p.count) (bes p.nonces) at (at + 8) (omega arith) (omega arith))

-- six writes one after the other
module _ (a b c d e f : List ℕ) (la : length a ≡ 16) (lb : length b ≡ 520) (lc : length c ≡ 16) (ld : length d ≡ 72) (le : length e ≡ 72) (lf : length f ≡ 8) where
  whole : length (a ++ (b ++ (c ++ (d ++ (e ++ f))))) ≡ 704
  whole = simp length-append (omega arith)

  puts : (s : List ℕ) → 704 ≤ length s
      → put_at (put_at (put_at (put_at (put_at (put_at s 0 a) 16 b) 536 c) 552 d) 624 e) 696 f ≡ put_at s 0 (a ++ (b ++ (c ++ (d ++ (e ++ f)))))
  puts s h =
      let l2 : length (a ++ b) ≡ 536 = length-append a b ∙ omega arith in
      let l3 : length ((a ++ b) ++ c) ≡ 552 = length-append (a ++ b) c ∙ omega arith in
      let l4 : length (((a ++ b) ++ c) ++ d) ≡ 624 = length-append ((a ++ b) ++ c) d ∙ omega arith in
      let l5 : length ((((a ++ b) ++ c) ++ d) ++ e) ≡ 696 = length-append (((a ++ b) ++ c) ++ d) e ∙ omega arith in
      rw (
        put_put s a b 0 16 (omega arith) (omega arith),
        put_put s (a ++ b) c 0 536 (omega arith) (omega arith),
        put_put s ((a ++ b) ++ c) d 0 552 (omega arith) (omega arith),
        put_put s (((a ++ b) ++ c) ++ d) e 0 624 (omega arith) (omega arith),
        put_put s ((((a ++ b) ++ c) ++ d) ++ e) f 0 696 (omega arith) (omega arith),
      ) (simp append_assoc)

-- what follows a part
next : (s x r : List ℕ) (at n m : ℕ) → drop at s ≡ x ++ r → length x ≡ n → at + n ≡ m → drop m s ≡ r
next s x r at n m e l h = rw (← h) (sym (drop-drop n at s) ∙ rw e (drop_at x r n l))

two : (a b : ℕ) → length (bes (a ∷ b ∷ [])) ≡ 16
two a b = length_bes (a ∷ b ∷ [])

module _ (p : Peer) (ra : length p.remote_clock.authors ≡ 32) (rn : length p.remote_clock.numbers ≡ 32)
    (o8 : length p.outstanding.nonces ≡ 8) (a8 : length p.answered.nonces ≡ 8) where
  pub peer_stored : (s s1 s2 s3 s4 s5 s6 : List ℕ) → 704 ≤ length s → s1 ≡ put_at s 0 (bes (p.id.0 ∷ state_number p.state ∷ []))
      → s2 ≡ put_at s1 16 (clock_bytes p.remote_clock) → s3 ≡ put_at s2 536 (bes (p.last_seen_ms ∷ p.last_ping_ms ∷ []))
      → s4 ≡ put_at s3 552 (pings_bytes p.outstanding) → s5 ≡ put_at s4 624 (pings_bytes p.answered) → s6 ≡ put_at s5 696 (be64 p.last_hello_ms)
      → s6 ≡ put_at s 0 (peer_bytes p)
  unfolding peer_bytes
  peer_stored s s1 s2 s3 s4 s5 s6 h e1 e2 e3 e4 e5 e6 =
      e6
      ∙ rw (e5, e4, e3, e2, e1)
      (puts (bes (p.id.0 ∷ state_number p.state ∷ [])) (clock_bytes p.remote_clock) (bes (p.last_seen_ms ∷ p.last_ping_ms ∷ []))
      (pings_bytes p.outstanding) (pings_bytes p.answered) (be64 p.last_hello_ms)
      (two p.id.0 (state_number p.state)) (length_bytes p.remote_clock ra rn) (two p.last_seen_ms p.last_ping_ms)
      (length_pings p.outstanding o8) (length_pings p.answered a8) (length_be p.last_hello_ms) s h)

  pub length_peer : length (peer_bytes p) ≡ 704
  unfolding peer_bytes
  length_peer =
      whole (bes (p.id.0 ∷ state_number p.state ∷ [])) (clock_bytes p.remote_clock) (bes (p.last_seen_ms ∷ p.last_ping_ms ∷ []))
      (pings_bytes p.outstanding) (pings_bytes p.answered) (be64 p.last_hello_ms)
      (two p.id.0 (state_number p.state)) (length_bytes p.remote_clock ra rn) (two p.last_seen_ms p.last_ping_ms)
      (length_pings p.outstanding o8) (length_pings p.answered a8) (length_be p.last_hello_ms)

-- storing what was loaded leaves the bytes
parts : (s : List ℕ) (at m n : ℕ) → take m (drop at s) ++ take n (drop (at + m) s) ≡ take (m + n) (drop at s)
parts s at m n = sym (take-add m n (drop at s) ∙ rw (drop-drop m at s))

state_back : (n : ℕ) → n ≤ 3 → state_number (state_of n) ≡ n
unfolding state_of
state_back zero h = refl
state_back (suc zero) h = refl
state_back (suc (suc zero)) h = refl
state_back (suc (suc (suc zero))) h = refl
state_back (suc (suc (suc (suc n)))) h = absurd (omega arith)

two_back : (s : List ℕ) (at : ℕ) → AllBytes s → at + 16 ≤ length s → bes (get64 s at ∷ get64 s (at + 8) ∷ []) ≡ take 16 (drop at s)
unfolding words_at
two_back s at b h = words_back s at 2 b h

pings_back : (s : List ℕ) (at : ℕ) → AllBytes s → at + 72 ≤ length s → pings_bytes (pings_at s at) ≡ take 72 (drop at s)
unfolding pings_bytes pings_at
pings_back s at b h = rw (word_back s at b (omega arith), words_back s (at + 8) 8 b (omega arith)) (parts s at 8 64)

bytes_back : (s : List ℕ) → AllBytes s → 704 ≤ length s → state_ok s ≡ true → peer_bytes (peer_at s) ≡ take 704 s
unfolding peer_bytes peer_at state_ok
bytes_back s b h ok =
    rw (
      state_back (get64 s 8) (leb-true (get64 s 8) 3 ok),
      two_back s 0 b (omega arith),
      clock_back s 16 b (omega arith),
      two_back s 536 b (omega arith),
      pings_back s 552 b (omega arith),
      pings_back s 624 b (omega arith),
      word_back s 696 b (omega arith),
      parts s 624 72 8,
      parts s 552 72 80,
      parts s 536 16 152,
      parts s 16 520 168,
    ) (parts s 0 16 688)

pub store_load : (s : List ℕ) → AllBytes s → 704 ≤ length s → state_ok s ≡ true → put_at s 0 (peer_bytes (peer_at s)) ≡ s
unfolding put_at
store_load s b h ok = rw (bytes_back s b h ok, length-take-le 704 s h) (take-append-drop 704 s)

-- loading what was stored gives the peer back
state_there : (s : PeerState) → state_of (state_number s) ≡ s
unfolding state_of
state_there Connecting = refl
state_there Syncing = refl
state_there UpToDate = refl
state_there Disconnected = refl

word_load : (s r : List ℕ) (at v : ℕ) → drop at s ≡ be64 v ++ r → v < 18446744073709551616 → get64 s at ≡ v
word_load s r at v e h =
    let z : at ≡ at + 0 = omega arith in
    ap (λ (n : ℕ). get64 s n) z ∙ sym (word_drop s at 0) ∙ rw e (word_there v r h)

words_load : (ws s r : List ℕ) (at : ℕ) → drop at s ≡ bes ws ++ r → Wide ws → words_at s at (length ws) ≡ ws
unfolding words_at bes
words_load [] s r at e h = refl
words_load (w ∷ ws) s r at e h =
    let f : drop at s ≡ be64 w ++ (bes ws ++ r) = e ∙ append_assoc (be64 w) (bes ws) r in
    rw (word_load s (bes ws ++ r) at w f (h 0), words_load ws s r (at + 8) (next s (be64 w) (bes ws ++ r) at 8 (at + 8) f (length_be w) refl) (λ i. h (suc i)))

-- a list of nonces whose numbers are words
pub record PingsFit (p : Pings) : Type 0 where
  pub eight : length p.nonces ≡ 8
  pub words : Wide p.nonces
  pub counted : p.count < 18446744073709551616

pings_load : (p : Pings) (s r : List ℕ) (at : ℕ) → PingsFit p → drop at s ≡ pings_bytes p ++ r → pings_at s at ≡ p
unfolding pings_at pings_bytes
pings_load p s r at fit e =
    let f : drop at s ≡ be64 p.count ++ (bes p.nonces ++ r) = e ∙ append_assoc (be64 p.count) (bes p.nonces) r in
    let g : drop (at + 8) s ≡ bes p.nonces ++ r = next s (be64 p.count) (bes p.nonces ++ r) at 8 (at + 8) f (length_be p.count) refl in
    λ i. record { nonces = (rw fit.eight at (words_load p.nonces s r (at + 8) g fit.words)) i; count = word_load s _ at p.count f fit.counted i }

-- a peer whose numbers are words
pub record PeerFits (p : Peer) : Type 0 where
  pub id : p.id.0 < 18446744073709551616
  pub authors : length p.remote_clock.authors ≡ 32
  pub numbers : length p.remote_clock.numbers ≡ 32
  pub author_words : Wide p.remote_clock.authors
  pub number_words : Wide p.remote_clock.numbers
  pub counted : p.remote_clock.count < 18446744073709551616
  pub seen : p.last_seen_ms < 18446744073709551616
  pub ping : p.last_ping_ms < 18446744073709551616
  pub outstanding : PingsFit p.outstanding
  pub answered : PingsFit p.answered
  pub hello : p.last_hello_ms < 18446744073709551616

put_here : (s x r : List ℕ) (at : ℕ) → drop at s ≡ x ++ r → put_at s at x ≡ s
unfolding put_at
put_here s x r at e = rw (next s x r at (length x) (at + length x) e refl refl, append_assoc (take at s) x r, ← e) (take-append-drop at s)

bes_two : (a b : ℕ) → bes (a ∷ b ∷ []) ≡ be64 a ++ be64 b
unfolding bes be64
bes_two a b = refl

state_fits : (s : PeerState) → state_number s < 18446744073709551616
state_fits Connecting = omega arith
state_fits Syncing = omega arith
state_fits UpToDate = omega arith
state_fits Disconnected = omega arith

-- an area that begins with a peer's bytes
module _ (p : Peer) (fit : PeerFits p) (t q : List ℕ) (h : 704 ≤ length t) (e : t ≡ peer_bytes p ++ q) where
  pub peer_there : peer_at t ≡ p
  unfolding peer_at peer_bytes
  peer_there =
      λ i. record {
        id = record { 0 = word_load t _ 0 p.id.0 g0 fit.id i };
        state = (ap state_of (word_load t _ 8 (state_number p.state) g8 (state_fits p.state)) ∙ state_there p.state) i;
        remote_clock = clock i;
        last_seen_ms = word_load t _ 536 p.last_seen_ms g536 fit.seen i;
        last_ping_ms = word_load t _ 544 p.last_ping_ms g544 fit.ping i;
        outstanding = pings_load p.outstanding t _ 552 fit.outstanding g552 i;
        answered = pings_load p.answered t _ 624 fit.answered g624 i;
        last_hello_ms = word_load t q 696 p.last_hello_ms g696 fit.hello i;
      }
    where
      r6 : List ℕ
      r6 = be64 p.last_hello_ms ++ q

      r5 : List ℕ
      r5 = pings_bytes p.answered ++ r6

      r4 : List ℕ
      r4 = pings_bytes p.outstanding ++ r5

      r3 : List ℕ
      r3 = be64 p.last_ping_ms ++ r4

      r2 : List ℕ
      r2 = be64 p.last_seen_ms ++ r3

      r1 : List ℕ
      r1 = clock_bytes p.remote_clock ++ r2

      g0 : drop 0 t ≡ be64 p.id.0 ++ (be64 (state_number p.state) ++ r1)
      g0 = e ∙ simp (bes_two, append_assoc)

      g8 : drop 8 t ≡ be64 (state_number p.state) ++ r1
      g8 = next t (be64 p.id.0) _ 0 8 8 g0 (length_be p.id.0) refl

      g16 : drop 16 t ≡ clock_bytes p.remote_clock ++ r2
      g16 = next t (be64 (state_number p.state)) _ 8 8 16 g8 (length_be (state_number p.state)) refl

      g536 : drop 536 t ≡ be64 p.last_seen_ms ++ r3
      g536 = next t (clock_bytes p.remote_clock) _ 16 520 536 g16 (length_bytes p.remote_clock fit.authors fit.numbers) refl

      g544 : drop 544 t ≡ be64 p.last_ping_ms ++ r4
      g544 = next t (be64 p.last_seen_ms) _ 536 8 544 g536 (length_be p.last_seen_ms) refl

      g552 : drop 552 t ≡ pings_bytes p.outstanding ++ r5
      g552 = next t (be64 p.last_ping_ms) _ 544 8 552 g544 (length_be p.last_ping_ms) refl

      g624 : drop 624 t ≡ pings_bytes p.answered ++ r6
      g624 = next t (pings_bytes p.outstanding) _ 552 72 624 g552 (length_pings p.outstanding fit.outstanding.eight) refl

      g696 : drop 696 t ≡ be64 p.last_hello_ms ++ q
      g696 = next t (pings_bytes p.answered) _ 624 72 696 g624 (length_pings p.answered fit.answered.eight) refl

      clock : clock_at t 16 ≡ p.remote_clock
      clock =
          rw (put_here t (clock_bytes p.remote_clock) r2 16 g16) at
          (clock_load t 16 p.remote_clock (omega arith) fit.authors fit.numbers fit.author_words fit.number_words fit.counted)

pub load_store : (s : List ℕ) (p : Peer) → 704 ≤ length s → PeerFits p → peer_at (put_at s 0 (peer_bytes p)) ≡ p
unfolding put_at
load_store s p h fit =
    let l : length (peer_bytes p) ≡ 704 = length_peer p fit.authors fit.numbers fit.outstanding.eight fit.answered.eight in
    peer_there p fit (put_at s 0 (peer_bytes p)) (drop (0 + length (peer_bytes p)) s) (omega (arith, length_put s (peer_bytes p) 0 (omega arith))) refl

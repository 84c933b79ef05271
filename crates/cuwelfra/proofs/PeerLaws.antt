-- One law for each outcome of the exported calls on a peer.
use Prim.Native.Nat.{ℕ, ◌≤◌, ◌<◌}
use mathlib.Core.Path.{◌≡◌, refl, sym, ◌∙◌, ap}
use mathlib.Core.Bool.{Bool, true, false, ◌&&◌}
use mathlib.Core.List.{List}
use native.Mathlib.Omega.{arith}
use lib.ListN.{length}
use lib.Dec.{leb}
use mathlib.Core.Logic.{inl, inr}
use borrow.Author.Tests.{le-leb, lt-leb, leb-true}
use Rattle.words.specs.Choice.{pick}
use Rattle.words.specs.Areas.{put_at}
use Rattle.words.proofs.Words.{test}
use Rattle.error.specs.declared.Refusal.{Refusal}
use Rattle.error.specs.declared.Refusal.TheVariants.{ShortArea, UnsoundStore}
use Rattle.error.specs.declared.Told.{Told}
use Rattle.error.specs.Numbers.{told_of}
use Rattle.std.specs.declared.result.Result.TheVariants.{Ok, Err}
use Rattle.error.specs.Answer.{Answer, done, refused, and_then, unless, accepted, told_by, nothing, ends}
use Rattle.std.specs.Result.{result_and}
use Rattle.replicated_log.proofs.Calls.Changes.{clashing}
use Rattle.merging.proofs.Traces.{done_same}
use Rattle.error.specs.declared.Ends.{Ends}
use Rattle.peer.specs.declared.Peer.{Peer}
use Rattle.peer.specs.Peers.{new_peer}
use Rattle.peer.specs.Area.{peer_bytes, state_ok}
use Rattle.cuwelfra.specs.Exports.{exported, written_back}
use Rattle.clock.specs.Vector.{entries}
use Rattle.replicated_log.specs.Areas.{Areas, read_store}
use Rattle.replicated_log.specs.Store.{Store}
use Rattle.peer.specs.Peers.{peer_sound, pending_ops, pending_ops_call}
use Rattle.peer.specs.Area.{peer_at}
use Rattle.cuwelfra.specs.declared.vector.ClockTold.{ClockTold}
use Rattle.cuwelfra.specs.Vectors.{count_told}
use Rattle.cuwelfra.specs.Inside.LentRecords.{record_in}
use Rattle.cuwelfra.specs.Peers.{lent_peer, long_peer, new_peer_area, pending_ops_area}
use Rattle.replicated_log.specs.Calls.{check_call}

long_peer_lem : (s : List ℕ) → 704 ≤ length s → long_peer s ≡ true
long_peer_lem s h = le-leb 704 (length s) h

short_peer : (s : List ℕ) → length s < 704 → long_peer s ≡ false
short_peer s h = lt-leb 704 (length s) h

module _ (s : List ℕ) where
  pub record_short : length s < 704 → refused ShortArea ≡ record_in s
  record_short h = rw (short_peer s h)

  module _ (h : 704 ≤ length s) where
    pub record_stateless : state_ok s ≡ false → refused UnsoundStore ≡ record_in s
    record_stateless e = rw (long_peer_lem s h, e)

    pub record_there : state_ok s ≡ true → (p : Peer) → p ≡ peer_at s → done p ≡ record_in s
    record_there e p f = rw (long_peer_lem s h, e) (ap (λ (x : Peer). done x) f)

  pub record_long : (p : Peer) → done p ≡ record_in s → 704 ≤ length s
  record_long p e =
      elim (test (leb 704 (length s))) [
        | inl h ↦ leb-true 704 (length s) h
        | inr h ↦ absurd (clashing p ShortArea (rw h at e))
      ]

  -- an area that has no record: the refusal, and nothing is changed
  pub lent_refused : (f : Refusal) (told : Told) → refused f ≡ record_in s → told ≡ told_of f → (c : Ends Unit Peer) → (told, s) ≡ exported told_by (lent_peer (long_peer s) s c)
  lent_refused f told e q c = go (long_peer s) (state_ok s) e
    where
      go : (b o : Bool) → refused f ≡ unless b ShortArea (unless o UnsoundStore (done (peer_at s)))
          → (told, s) ≡ exported told_by (pick b (pick o (written_back peer_bytes s c) (ends (refused UnsoundStore) s)) (ends (refused ShortArea) s))
      go true true e = absurd (clashing (peer_at s) f (sym e))
      go true false e = let z : f ≡ UnsoundStore = cc in λ i. ((q ∙ ap told_of z) i, s)
      go false o e = let z : f ≡ ShortArea = cc in λ i. ((q ∙ ap told_of z) i, s)

  -- else the call on it
  pub lent_kept : (p : Peer) → done p ≡ record_in s → (c : Peer → Ends Unit Peer) (d : Ends Unit Peer) → d ≡ c p → (told : Told) (t : List ℕ)
      → (told, t) ≡ exported told_by (written_back peer_bytes s d) → (told, t) ≡ exported told_by (lent_peer (long_peer s) s (c (peer_at s)))
  lent_kept p e c d f told t k = go (long_peer s) (state_ok s) e
    where
      go : (b o : Bool) → done p ≡ unless b ShortArea (unless o UnsoundStore (done (peer_at s)))
          → (told, t) ≡ exported told_by (pick b (pick o (written_back peer_bytes s (c (peer_at s))) (ends (refused UnsoundStore) s)) (ends (refused ShortArea) s))
      go true true e = rw (← done_same e, ← f) k
      go true false e = absurd (clashing p UnsoundStore e)
      go false o e = absurd (clashing p ShortArea e)

-- where a clock is lent too
pub long_both : (s c : List ℕ) → 520 ≤ length c → long_peer s && leb 520 (length c) ≡ long_peer s
long_both s c k = rw (le-leb 520 (length c) k) (elim (long_peer s) as (λ b. b && true ≡ b) [ true ↦ refl | false ↦ refl ])

pub short_clock : (s c : List ℕ) (e : Ends Unit Peer) (told : Told) → length c < 520 → told ≡ told_of ShortArea
    → (told, s) ≡ exported told_by (lent_peer (long_peer s && leb 520 (length c)) s e)
short_clock s c e told k q =
    let b : long_peer s && leb 520 (length c) ≡ false = rw (lt-leb 520 (length c) k) (elim (long_peer s) as (λ b. b && false ≡ false) [ true ↦ refl | false ↦ refl ]) in
    rw b (λ i. (q i, s))

pub new_short : (s : List ℕ) (id : ℕ) (told : Told) → length s < 704 → told ≡ told_of ShortArea → (told, s) ≡ exported told_by (new_peer_area s id)
unfolding new_peer_area
new_short s id told h q = rw (short_peer s h) (λ i. (q i, s))

pub new_peer_lem : (s t : List ℕ) (id : ℕ) (p : Peer) (told : Told) → 704 ≤ length s → p ≡ new_peer id → t ≡ put_at s 0 (peer_bytes p) → told ≡ accepted → (told, t) ≡ exported told_by (new_peer_area s id)
unfolding new_peer_area
new_peer_lem s t id p told h e q a = rw (long_peer_lem s h, ← e) (λ i. (a i, q i))

-- rows that a peer has not acknowledged
pub pending_short : (s : List ℕ) (a : Areas) (r : ClockTold) → length s < 704 → r ≡ count_told (refused ShortArea) → r ≡ count_told (pending_ops_area s a)
unfolding pending_ops_area
pending_short s a r h q = rw (short_peer s h) q

-- the store is read before the peer, whose refusal is 1 too
module _ (p : Peer) (a : Areas) where
  checked : (x : Answer Store) → read_store a ≡ x → pending_ops_call p a ≡ and_then (and_then x (λ s. done nothing)) (λ u. pending_ops_call p a)
  unfolding pending_ops_call
  checked (Ok s) e = refl
  checked (Err z) e = rw e

  pub after_check : pending_ops_call p a ≡ and_then (check_call a) (λ u. pending_ops_call p a)
  unfolding check_call
  after_check = checked (read_store a) refl

  stopped_by : (b : Bool) (n : ℕ) (z : Refusal) → unless b UnsoundStore (done n) ≡ refused z → ◌≡◌ {A = Answer ℕ} (refused z) (refused UnsoundStore)
  stopped_by true n z e = absurd (let y : ◌≡◌ {A = ℕ} 0 1 = cc in omega arith)
  stopped_by false n z e = sym e

  number_stateless : (x : Answer Store) (k : ℕ) → read_store a ≡ x → pending_ops_call p a ≡ done k → refused UnsoundStore ≡ and_then {B = ℕ} (and_then x (λ s. done nothing)) (λ u. refused UnsoundStore)
  unfolding pending_ops_call
  number_stateless (Ok s) k e g = refl
  number_stateless (Err z) k e g = absurd (let d : ◌≡◌ {A = Answer ℕ} (refused z) (done k) = rw e at g in let y : ◌≡◌ {A = ℕ} 0 1 = cc in omega arith)

  refused_stateless : (x : Answer Store) (z : Refusal) → read_store a ≡ x → pending_ops_call p a ≡ refused z → refused z ≡ and_then {B = ℕ} (and_then x (λ s. done nothing)) (λ u. refused UnsoundStore)
  unfolding pending_ops_call
  refused_stateless (Ok s) z e g = stopped_by (peer_sound p) (pending_ops (entries p.remote_clock) s.log) z (rw e at g)
  refused_stateless (Err y) z e g = sym (rw e at g)

module _ (s : List ℕ) (a : Areas) (p : Peer) (n : Answer ℕ) (r : ClockTold) (h : 704 ≤ length s) where
  pub pending_ok : state_ok s ≡ true → p ≡ peer_at s → n ≡ pending_ops_call p a → r ≡ count_told n → r ≡ count_told (pending_ops_area s a)
  unfolding pending_ops_area
  pending_ok e f g q = q ∙ rw (long_peer_lem s h, e, ← f) (ap count_told (g ∙ after_check p a))

  pub pending_stateless : (y : Answer ℕ) → state_ok s ≡ false → p ≡ peer_at s → n ≡ pending_ops_call p a → y ≡ result_and n (refused UnsoundStore) → r ≡ count_told y
      → r ≡ count_told (pending_ops_area s a)
  unfolding pending_ops_area check_call
  pending_stateless y e f g i q =
      q
      ∙ rw (long_peer_lem s h, e)
      (ap count_told (i ∙ (elim n as (λ x. n ≡ x → result_and {U = ℕ} x (refused UnsoundStore) ≡ and_then {B = ℕ} (and_then (read_store a) (λ s. done nothing)) (λ u. refused UnsoundStore)) [
        | Ok k ↦ λ j. number_stateless p a (read_store a) k refl (sym g ∙ j)
        | Err z ↦ λ j. refused_stateless p a (read_store a) z refl (sym g ∙ j)
      ]) refl))

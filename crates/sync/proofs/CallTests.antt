-- The tests of a call over a store and a peer's clock, and what they leave.
use Prim.Native.Nat.{ℕ, ◌*◌, ◌/◌, ◌≤◌, ◌<◌}
use mathlib.Core.Path.{◌≡◌, refl, sym, ◌∙◌, ap}
use mathlib.Core.Bool.{Bool, true, false}
use mathlib.Core.List.{List}
use native.Mathlib.Omega.{arith}
use lib.Dec.{leb}
use lib.ListN.{length}
use borrow.Author.Tests.{leb-true, le-leb, lt-leb}
use Rattle.words.specs.Be.{get64}
use Rattle.error.specs.declared.Refusal.{Refusal}
use Rattle.error.specs.declared.Refusal.TheVariants.{UnsoundStore, ShortArea}
use Rattle.std.specs.declared.result.Result.TheVariants.{Ok, Err}
use Rattle.error.specs.Answer.{Answer, done, refused, and_then, unless, ends}
use Rattle.clock.specs.declared.vector.VectorClock.{VectorClock}
use Rattle.clock.specs.Vector.{entries, sound}
use Rattle.clock.specs.Area.{clock_at}
use Rattle.replicated_log.specs.Store.{Store}
use Rattle.replicated_log.specs.Areas.{Areas, read_store, decode_store}
use Rattle.replicated_log.specs.Calls.{read_clock, log_len_call}
use Rattle.replicated_log.proofs.Store.Encoding.{Reads, reads, decode_count, capacity_most}
use Rattle.replicated_log.proofs.Calls.Queries.{Passed, read_passed, log_room}
use Rattle.sync.specs.Delta.{over_peer, delta, delta_rows, at_least_one, chunks, chunk_ops, list_call, delta_call, chunk_call}
use Rattle.sync.specs.Inside.DeltaSteps.{count_of, count_call, Ready, Puts}
use Rattle.replicated_log.specs.Inside.StoreChanges.{rows_in}

-- ---- answers, taken apart
pub record Went {A B : Type 0} (x : Answer A) (f : A → Answer B) (v : B) : Type 0 where
  pub value : A
  pub is : x ≡ done value
  pub on : f value ≡ done v

pub went : {A B : Type 0} (x : Answer A) (f : A → Answer B) (v : B) → and_then x f ≡ done v → Went x f v
went (Ok a) f v e = record { value = a; is = refl; on = e }
went (Err r) f v e = absurd (cc)

pub passes : {A : Type 0} (b : Bool) (r : Refusal) (x : Answer A) (v : A) → unless b r x ≡ done v → (b ≡ true) × (x ≡ done v)
passes true r x v e = (refl, e)
passes false r x v e = absurd (cc)

refusal : {A B : Type 0} (r q : Refusal) → ◌≡◌ {A = Answer A} (refused r) (refused q) → ◌≡◌ {A = Answer B} (refused r) (refused q)
refusal r q e =
    let p : r ≡ q = cc in
    rw p

-- two calls that go the same way are refused alike
then_stops : {A B C : Type 0} (x : Answer A) (f : A → Answer B) (g : A → Answer C) (q : Refusal) → ((v : A) → f v ≡ refused q → g v ≡ refused q)
    → and_then x f ≡ refused q → and_then x g ≡ refused q
then_stops (Ok a) f g q h e = h a e
then_stops (Err r) f g q h e = refusal r q e

test_stops : {B C : Type 0} (b : Bool) (r : Refusal) (x : Answer B) (y : Answer C) (q : Refusal) → (x ≡ refused q → y ≡ refused q)
    → unless b r x ≡ refused q → unless b r y ≡ refused q
test_stops true r x y q h e = h e
test_stops false r x y q h e = refusal r q e

never_stops : {B C : Type 0} (v : B) (q : Refusal) (y : Answer C) → done v ≡ refused q → y ≡ refused q
never_stops v q y e = absurd (cc)

-- ---- the count of the rows
-- c and b are what the code read and tested
module _ (n : ℕ) (peer : List ℕ) (l : 520 ≤ length peer) (c : VectorClock) (b : Bool) (e : c ≡ clock_at peer 0) (f : b ≡ sound c) where
  pub count_unsound : b ≡ false → refused UnsoundStore ≡ count_of n peer
  unfolding count_of read_clock
  count_unsound t =
      let h : sound (clock_at peer 0) ≡ false = rw (← e) (sym f ∙ t) in
      rw (le-leb 520 (length peer) l, h)

  pub count_sound : b ≡ true → done n ≡ count_of n peer
  unfolding count_of read_clock
  count_sound t =
      let h : sound (clock_at peer 0) ≡ true = rw (← e) (sym f ∙ t) in
      rw (le-leb 520 (length peer) l, h)

on_len : (x : Answer Store) (f : ℕ → Answer ℕ) (n : ℕ) → done n ≡ and_then x (λ s. done (length s.log)) → f n ≡ and_then x (λ s. f (length s.log))
on_len (Ok s) f n e = ap f (let q : n ≡ length s.log = cc in q)
on_len (Err r) f n e = absurd (cc)

off_len : (x : Answer Store) (f : ℕ → Answer ℕ) (r : Refusal) → refused r ≡ and_then {B = ℕ} x (λ s. done (length s.log)) → refused r ≡ and_then x (λ s. f (length s.log))
off_len (Ok s) f r e = absurd (cc)
off_len (Err q) f r e = e

module _ (a : Areas) (peer : List ℕ) where
  pub count_short : length peer < 520 → refused ShortArea ≡ count_call a peer
  unfolding count_call over_peer
  count_short h = rw (lt-leb 520 (length peer) h)

  pub count_refused : (r : Refusal) → 520 ≤ length peer → refused r ≡ log_len_call a → refused r ≡ count_call a peer
  unfolding count_call over_peer count_of log_len_call
  count_refused r h e = rw (le-leb 520 (length peer) h) (off_len (read_store a) (λ n. count_of n peer) r e)

  pub count_on : (n : ℕ) (x : Answer ℕ) → 520 ≤ length peer → done n ≡ log_len_call a → x ≡ count_of n peer → x ≡ count_call a peer
  unfolding count_call over_peer count_of log_len_call
  count_on n x h e q = q ∙ rw (le-leb 520 (length peer) h) (on_len (read_store a) (λ n. count_of n peer) n e)

-- ---- what the tests leave
pub record Counted (a : Areas) (peer : List ℕ) (n : ℕ) : Type 0 where
  pub passed : Passed a
  pub count : n ≡ get64 a.head 0
  pub long : 520 ≤ length peer
  pub clock : sound (clock_at peer 0) ≡ true

pub counted : (a : Areas) (peer : List ℕ) (n : ℕ) → done n ≡ count_call a peer → Counted a peer n
unfolding count_call over_peer read_clock
counted a peer n e =
    let p = passes (leb 520 (length peer)) ShortArea (and_then (read_store a) (λ s. and_then (read_clock peer) (λ es. done (length s.log)))) n (sym e) in
    let w = went (read_store a) (λ s. and_then (read_clock peer) (λ es. done (length s.log))) n p.1 in
    let s : Store = w.value in
    let k = went (read_clock peer) (λ es. done (length s.log)) n w.on in
    let u = passes (leb 520 (length peer)) ShortArea (unless (sound (clock_at peer 0)) UnsoundStore (done (entries (clock_at peer 0)))) k.value k.is in
    let v = passes (sound (clock_at peer 0)) UnsoundStore (done (entries (clock_at peer 0))) k.value u.1 in
    let f : Reads a s = reads a s w.is in
    let g : length s.log ≡ n = (let z : done (length s.log) ≡ done n = k.on in cc) in
    let h : length s.log ≡ get64 a.head 0 = ap (λ (s : Store). length s.log) f.is ∙ decode_count a in
    record {
      passed = read_passed a s w.is;
      count = sym g ∙ h;
      long = leb-true 520 (length peer) p.0;
      clock = v.0;
    }

pub ready : (a : Areas) (peer : List ℕ) (n : ℕ) (c : VectorClock) → Counted a peer n → c ≡ clock_at peer 0 → Ready a.log n c
ready a peer n c k e =
    record {
      slots = (log_room a k.passed.ok n k.count).1;
      few = omega (arith, k.count, k.passed.ok.log_few, capacity_most a.log);
      clock_ok_lem = rw e k.clock;
    }

-- ---- the whole call
pub over_stops : {A : Type 0} (a : Areas) (peer : List ℕ) (f : Store → List (ℕ × ℕ) → Answer A) (q : Refusal) → refused q ≡ count_call a peer
    → over_peer a peer f ≡ refused q
unfolding over_peer count_call
over_stops a peer f q e =
    test_stops (leb 520 (length peer)) ShortArea _ _ q
    (then_stops (read_store a) _ _ q (λ s. then_stops (read_clock peer) _ _ q (λ es. never_stops (length s.log) q (f s es))))
    (sym e)

pub over_goes : {A : Type 0} (a : Areas) (peer : List ℕ) (f : Store → List (ℕ × ℕ) → Answer A) (n : ℕ) → Counted a peer n
    → over_peer a peer f ≡ f (decode_store a) (entries (clock_at peer 0))
unfolding over_peer read_clock
over_goes a peer f n k = rw (le-leb 520 (length peer) k.long, k.passed.read, k.clock)

module _ (a : Areas) (peer output left : List ℕ) (f : Store → List (ℕ × ℕ) → List ℕ) where
  pub list_refused : (q : Refusal) → refused q ≡ count_call a peer → left ≡ output → ends (refused q) left ≡ list_call a peer output f
  unfolding list_call
  list_refused q e o = rw (over_stops a peer _ q e) (λ i. ends (refused q) (o i))

  module _ (n : ℕ) (k : Counted a peer n) where
    pub list_short : length output / 8 < n → left ≡ output → ends (refused ShortArea) left ≡ list_call a peer output f
    unfolding list_call
    list_short h o = rw (over_goes a peer _ n k, decode_count a, ← k.count, lt-leb (8 * n) (length output) (omega arith)) (λ i. ends (refused ShortArea) (o i))

    list_done : (m : ℕ) → 8 * n ≤ length output → Puts output (f (decode_store a) (entries (clock_at peer 0))) m left → ends (done m) left ≡ list_call a peer output f
    unfolding list_call
    list_done m h p = rw (over_goes a peer _ n k, decode_count a, ← k.count, le-leb (8 * n) (length output) h) (λ i. ends (done (p.count i)) (p.output_is i))

module _ (a : Areas) (peer output left : List ℕ) (n m : ℕ) (c : VectorClock) (k : Counted a peer n) (e : c ≡ clock_at peer 0) (h : 8 * n ≤ length output) where
  pub delta_done : Puts output (delta (entries c) 0 (rows_in a.log n)) m left → ends (done m) left ≡ delta_call a peer output
  unfolding delta_call decode_store
  delta_done p = list_done a peer output left _ n k m h (rw (e, k.count) at p)

  pub chunks_done : (per bytes most : ℕ) → most ≡ at_least_one per → Puts output (chunks most bytes 0 0 (delta_rows (entries c) (rows_in a.log n))) m left
      → ends (done m) left ≡ chunk_call a peer per bytes output
  unfolding chunk_call chunk_ops decode_store
  chunks_done per bytes most q p = list_done a peer output left _ n k m h (rw (e, k.count, q) at p)

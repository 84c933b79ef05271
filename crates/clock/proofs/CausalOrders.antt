-- What comparing and merging promise: Fidge's and Mattern's order, and the least upper bound in it.
use Prim.Native.Nat.{ℕ}
use mathlib.Core.Path.{◌≡◌, refl, ◌∙◌, ap}
use mathlib.Core.Bool.{Bool, true, false, ◌&&◌}
use mathlib.Core.List.{List}
use native.Mathlib.Omega.{arith}
use Rattle.error.specs.declared.Refusal.TheVariants.{UnsoundStore}
use Rattle.clock.specs.declared.vector.VectorClock.{VectorClock}
use Rattle.clock.specs.declared.vector.CausalOrder.{CausalOrder}
use Rattle.clock.specs.Entries.{get, merge, dominates}
use Rattle.clock.specs.FidgeMattern.{◌⊑◌, Ordered, Join}
use Rattle.clock.specs.Vector.{entries, clock_of, sound, grown, order_of, compare_call, merge_call, Compares, Merges}
use Rattle.clock.proofs.RisingAuthors.{Rises, rises_of}
use Rattle.clock.proofs.EntryLaws.{get_merge, covers_below, below_covers}
use Rattle.clock.proofs.ClockEntries.{entries_of, sound_rising}
use Rattle.clock.proofs.ClockCalls.{grown_done}
use Rattle.error.specs.Answer.{Answer, done, refused, nothing, ends}

-- covering is the order, for entries whose authors rise
module _ (us vs : List (ℕ × ℕ)) (ru : Rises 0 us) (rv : Rises 0 vs) where
  lacks : (xs ys : List (ℕ × ℕ)) → Rises 0 ys → dominates xs ys ≡ false → get ys ⊑ get xs → ⊥
  lacks xs ys r h p =
      let k : dominates xs ys ≡ true = below_covers xs ys r p in
      let z : ◌≡◌ {A = ℕ} 0 1 = cc in
      omega arith

  pub ordered : (x y : Bool) → dominates us vs ≡ x → dominates vs us ≡ y → Ordered (get us) (get vs) (order_of x y)
  unfolding order_of
  ordered true true p q = (covers_below vs us q, covers_below us vs p)
  ordered true false p q = (covers_below us vs p, lacks vs us ru q)
  ordered false true p q = (covers_below vs us q, lacks us vs rv p)
  ordered false false p q = (lacks vs us ru q, lacks us vs rv p)

  pub joined : Join (get us) (get vs) (get (merge us vs))
  joined = record {
    left = record { each = λ a. omega (arith, get_merge us vs a rv) };
    right = record { each = λ a. omega (arith, get_merge us vs a rv) };
    least = λ x p q. record { each = λ a. omega (arith, get_merge us vs a rv, p.each a, q.each a) };
  }

module _ (c d : VectorClock) where
  pub compare_refused : sound c && sound d ≡ false → Compares c d (refused UnsoundStore)
  unfolding compare_call
  compare_refused h = record {
    answer = rw h;
    order = λ o e. absurd (let z : ◌≡◌ {A = ℕ} 0 1 = cc in omega arith);
  }

  pub merge_refused : sound c && sound d ≡ false → Merges c d (refused UnsoundStore) c
  unfolding merge_call
  merge_refused h = record {
    ended = rw h;
    join = λ e. absurd (let z : ◌≡◌ {A = ℕ} 0 1 = cc in omega arith);
  }

  module _ (sc : sound c ≡ true) (sd : sound d ≡ true) where
    rc : Rises 0 (entries c)
    rc = rises_of 0 (entries c) (sound_rising c sc)

    rd : Rises 0 (entries d)
    rd = rises_of 0 (entries d) (sound_rising d sd)

    pub compare_told : (o : CausalOrder) → o ≡ order_of (dominates (entries c) (entries d)) (dominates (entries d) (entries c)) → Compares c d (done o)
    unfolding compare_call
    compare_told o e = record {
      answer = rw (sc, sd, e);
      order = λ p q.
          let k : p ≡ order_of (dominates (entries c) (entries d)) (dominates (entries d) (entries c)) = cc in
          rw k (ordered (entries c) (entries d) rc rd _ _ refl refl);
    }

    pub merge_told : (r : Answer Unit) (c' : VectorClock) → ends r c' ≡ grown c (merge (entries c) (entries d)) nothing → Merges c d r c'
    unfolding merge_call
    merge_told r c' e = record {
      ended = rw (sc, sd) e;
      join = λ t.
          let k : c' ≡ clock_of (merge (entries c) (entries d)) = (grown_done c (merge (entries c) (entries d)) (ends r c') e t).1 in
          let m : entries c' ≡ merge (entries c) (entries d) = ap entries k ∙ entries_of (merge (entries c) (entries d)) in
          rw m (joined (entries c) (entries d) rc rd);
    }

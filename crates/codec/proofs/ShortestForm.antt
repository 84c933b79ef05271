-- Laws of the shortest sequence of a number.
use Prim.Native.Nat.{ℕ, zero, suc, ◌+◌, ◌*◌, ◌/◌, ◌%◌, ◌^◌, ◌≤◌, ◌<◌}
use mathlib.Core.Path.{◌≡◌, sym, ◌∙◌, ap}
use mathlib.Core.List.{List, [], ◌∷◌}
use mathlib.Core.Logic.{inl, inr}
use native.Mathlib.Omega.{arith}
use native.Mathlib.Nat.{add-mul, mul_assoc, mul_right_comm, mul-le-mul_right}
use lib.ListN.{length}
use lib.Pow.{pow-add, pow_pos}
use borrow.Author.Tests.{lt-ltb, le-ltb}
use Rattle.words.proofs.Words.{lt_or_le}
use Rattle.codec.specs.Leb128.{value_of, group_then, groups_of, shortest}

low : (n v : ℕ) → v < 128 → groups_of n v ≡ v ∷ []
unfolding groups_of group_then
low zero v h =
    let e : v % 128 ≡ v = omega arith in
    rw e
low (suc n) v h = rw (lt-ltb v 128 h)

-- how many groups may follow does not matter, where v may
fuel : (m n v : ℕ) → v ≤ m → v ≤ n → groups_of m v ≡ groups_of n v
unfolding groups_of group_then
fuel zero n v h k = low zero v (omega arith) ∙ sym (low n v (omega arith))
fuel (suc m) zero v h k = low (suc m) v (omega arith) ∙ sym (low zero v (omega arith))
fuel (suc m) (suc n) v h k =
    elim (lt_or_le v 128) [
      | inl l ↦ low (suc m) v l ∙ sym (low (suc n) v l)
      | inr l ↦ rw (le-ltb v 128 l) (ap (λ (t : List ℕ). (v % 128 + 128) ∷ t) (fuel m n (v / 128) (omega arith) (omega arith)))
    ]

-- a number below 128 is its own group
pub short : (v : ℕ) → v < 128 → shortest v ≡ v ∷ []
unfolding shortest
short v h = low v v h

-- another has its low seven bits, with the sign that more follow, and the groups of the rest
pub long : (v : ℕ) → 128 ≤ v → shortest v ≡ (v % 128 + 128) ∷ shortest (v / 128)
unfolding shortest groups_of group_then
long zero h = absurd (omega arith)
long (suc n) h =
    rw (le-ltb (suc n) 128 h)
    (ap (λ (t : List ℕ). (suc n % 128 + 128) ∷ t) (fuel n (suc n / 128) (suc n / 128) (omega arith) (omega arith)))

-- what holds below 128, and of a number where it holds of its rest, holds of all
module _ (P : ℕ → Type 0) (first : (v : ℕ) → v < 128 → P v) (next : (v : ℕ) → 128 ≤ v → P (v / 128) → P v) where
  by_fuel : (n v : ℕ) → v ≤ n → P v
  by_fuel zero v h = first v (omega arith)
  by_fuel (suc n) v h = elim (lt_or_le v 128) [ inl l ↦ first v l | inr l ↦ next v l (by_fuel n (v / 128) (omega arith)) ]

  pub induct : (v : ℕ) → P v
  induct v = by_fuel v v (omega arith)

joined : (v k : ℕ) → v % 128 * 2 ^ k + v / 128 * 2 ^ (k + 7) ≡ v * 2 ^ k
joined v k =
    let e : v / 128 * 128 + v % 128 ≡ v = omega arith in
    let f : v / 128 * 2 ^ (k + 7) ≡ v / 128 * 2 ^ k * 128 = rw (pow-add 2 k 7) (sym (mul_assoc (v / 128) (2 ^ k) 128)) in
    rw f
    (omega (arith, ap (λ (n : ℕ). n * 2 ^ k) e, add-mul (v / 128 * 128) (v % 128) (2 ^ k), mul_right_comm (v / 128) 128 (2 ^ k)))

-- the groups of v, the first at bit k, stand for v at bit k
pub value_at : (v k : ℕ) → value_of k (shortest v) ≡ v * 2 ^ k
unfolding value_of
value_at v =
    induct (λ (v : ℕ). (k : ℕ) → value_of k (shortest v) ≡ v * 2 ^ k)
    (λ v h k.
    let e : v % 128 ≡ v = omega arith in
    rw (short v h, e) (omega arith))
    (λ v h ih k.
    let e : (v % 128 + 128) % 128 ≡ v % 128 = omega arith in
    rw (long v h, e, ih (k + 7)) (joined v k))
    v

-- there is a first byte
pub some : (v : ℕ) → 1 ≤ length (shortest v)
some v = elim (lt_or_le v 128) [ inl h ↦ rw (short v h) (omega arith) | inr h ↦ rw (long v h) (omega arith) ]

pub seven : (n : ℕ) → 2 ^ (7 * suc n) ≡ 2 ^ (7 * n) * 128
seven n =
    let e : 7 * suc n ≡ 7 * n + 7 = omega arith in
    rw e (pow-add 2 (7 * n) 7)

-- the groups of a number of at most 7 (n + 1) bits, n following the first: with n = 9 a number of 64 bits is computed
pub by_groups : (n v : ℕ) → v < 2 ^ (7 * suc n) → shortest v ≡ groups_of n v
unfolding groups_of group_then
by_groups zero v h = short v (omega arith) ∙ sym (low zero v (omega arith))
by_groups (suc n) v h =
    elim (lt_or_le v 128) [
      | inl l ↦ short v l ∙ sym (low (suc n) v l)
      | inr l ↦ long v l ∙ rw (le-ltb v 128 l, by_groups n (v / 128) (omega (arith, seven (suc n))))
    ]

-- a number of at most 7 (n + 1) bits has at most n + 1 bytes
pub size_below : (n v : ℕ) → v < 2 ^ (7 * suc n) → length (shortest v) ≤ suc n
size_below zero v h = rw (short v (omega arith)) (omega arith)
size_below (suc n) v h =
    elim (lt_or_le v 128) [
      | inl l ↦ rw (short v l) (omega arith)
      | inr l ↦ rw (long v l) (omega (arith, size_below n (v / 128) (omega (arith, seven (suc n)))))
    ]

-- a number of more than 7 n bits has more than n bytes
pub size_above : (n v : ℕ) → 2 ^ (7 * n) ≤ v → n < length (shortest v)
size_above zero v h = omega (arith, some v)
size_above (suc n) v h =
    let l : 128 ≤ v = omega (arith, seven n, pow_pos (7 * n)) in
    rw (long v l) (omega (arith, size_above n (v / 128) (omega (arith, seven n))))

-- a sequence of n bytes, the first at bit k, stands for a number of less than k + 7 n bits
pub value_below : (g : List ℕ) (k : ℕ) → value_of k g + 2 ^ k ≤ 2 ^ (k + 7 * length g)
unfolding value_of
value_below [] k =
    let e : k + 7 * 0 ≡ k = omega arith in
    rw e (omega arith)
value_below (b ∷ bs) k =
    let e : k + 7 * suc (length bs) ≡ k + 7 + 7 * length bs = omega arith in
    let h : b % 128 < 128 = omega arith in
    rw e (omega (arith, value_below bs (k + 7), pow-add 2 k 7, mul-le-mul_right (2 ^ k) h))

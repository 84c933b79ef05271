-- Overlong forms: a sequence that ends and is not overlong is the shortest of its value, and the shortest of a value is not overlong.
use Prim.Native.Nat.{ℕ, zero, suc, ◌+◌, ◌-◌, ◌*◌, ◌/◌, ◌%◌, ◌^◌, ◌≤◌, ◌<◌}
use mathlib.Core.Path.{◌≡◌, refl, sym, ◌∙◌, ap}
use mathlib.Core.Bool.{true, false}
use mathlib.Core.List.{List, [], ◌∷◌}
use mathlib.Core.Logic.{inl, inr}
use native.Mathlib.Omega.{arith}
use native.Mathlib.Nat.{add-mul, mul_assoc}
use lib.Dec.{ltb, eqb}
use lib.ListN.{length, get_or}
use lib.Pow.{pow-add}
use borrow.Author.Tests.{lt-ltb, ltb-true, le-ltb, eq-eqb, eqb-true, ne_eqb, eqb-false}
use Rattle.words.specs.Be.{AllBytes}
use Rattle.words.proofs.Words.{lt_or_le}
use Rattle.codec.specs.Leb128.{groups, has_last, value_of, overlong, shortest}
use Rattle.codec.proofs.ReadSteps.{and_true}
use Rattle.codec.proofs.ShortestForm.{short, long, induct, some}

-- the last byte
abbrev final : List ℕ → ℕ
final g = get_or g (length g - 1) 0

final_cons : (b : ℕ) (g : List ℕ) → 0 < length g → final (b ∷ g) ≡ final g
final_cons b g h =
    let e : suc (length g) - 1 ≡ suc (length g - 1) = omega arith in
    ap (λ (n : ℕ). get_or (b ∷ g) n 0) e

-- 1. The test.

-- one byte is never overlong; of more the last decides
pub one_byte : (g : List ℕ) → length g ≤ 1 → overlong g ≡ false
unfolding overlong
one_byte g h = rw (le-ltb 1 (length g) h)

pub more_bytes : (g : List ℕ) → 1 < length g → overlong g ≡ eqb (final g) 0
unfolding overlong
more_bytes g h = rw (lt-ltb 1 (length g) h)

-- two or more bytes of which the last is 0
pub overlong_true : (g : List ℕ) → overlong g ≡ true → (1 < length g) × (final g ≡ 0)
unfolding overlong
overlong_true g o =
    let p : (ltb 1 (length g) ≡ true) × (eqb (final g) 0 ≡ true) = and_true (ltb 1 (length g)) (eqb (final g) 0) o in
    (ltb-true 1 (length g) p.0, eqb-true (final g) 0 p.1)

pub true_overlong : (g : List ℕ) → 1 < length g → final g ≡ 0 → overlong g ≡ true
true_overlong g h z = more_bytes g h ∙ eq-eqb (final g) 0 z

-- a sequence that ends in another byte than 0
other_last : (g : List ℕ) → (final g ≡ 0 → ⊥) → overlong g ≡ false
other_last g h =
    elim (lt_or_le 1 (length g)) [ inl l ↦ more_bytes g l ∙ ne_eqb (final g) 0 h | inr l ↦ one_byte g l ]

-- 2. The shortest sequence of a number is not overlong.

-- a number other than 0 ends in another byte than 0
final_some : (v : ℕ) → 0 < v → 0 < final (shortest v)
final_some v =
    induct (λ (v : ℕ). 0 < v → 0 < final (shortest v))
    (λ v h p. rw (short v h) p)
    (λ v h ih p. rw (long v h) (omega (arith, final_cons (v % 128 + 128) (shortest (v / 128)) (omega (arith, some (v / 128))), ih (omega arith))))
    v

pub shortest_not_overlong : (v : ℕ) → overlong (shortest v) ≡ false
shortest_not_overlong v =
    elim (lt_or_le v 128) [
      | inl h ↦ rw (short v h) (one_byte (v ∷ []) (omega arith))
      | inr h ↦ other_last (shortest v) (λ y. omega (arith, final_some v (omega arith)))
    ]

-- 3. A sequence that is not overlong is the shortest of its value.

-- seven bits higher
value_up : (g : List ℕ) (k : ℕ) → value_of (k + 7) g ≡ value_of k g * 128
unfolding value_of
value_up [] k = omega arith
value_up (b ∷ bs) k =
    rw (value_up bs (k + 7), pow-add 2 k 7)
    (omega (arith, mul_assoc (b % 128) (2 ^ k) 128, add-mul (b % 128 * 2 ^ k) (value_of (k + 7) bs) 128))

value_cons : (b : ℕ) (bs : List ℕ) → value_of 0 (b ∷ bs) ≡ b % 128 + value_of 0 bs * 128
unfolding value_of
value_cons b bs = omega (arith, value_up bs 0)

-- one byte
spelled_one : (b : ℕ) → b < 128 → b ∷ [] ≡ shortest (value_of 0 (b ∷ []))
unfolding value_of
spelled_one b h =
    let v : b % 128 * 2 ^ 0 + 0 ≡ b = omega arith in
    rw v (sym (short b h))

-- a first byte that says that more follow
spelled_more : (b w : ℕ) (g : List ℕ) → 128 ≤ b → b < 256 → g ≡ shortest w → 0 < w → value_of 0 g ≡ w → b ∷ g ≡ shortest (value_of 0 (b ∷ g))
spelled_more b w g h k e p q =
    let v : value_of 0 (b ∷ g) ≡ b % 128 + w * 128 = value_cons b g ∙ ap (λ (n : ℕ). b % 128 + n * 128) q in
    let x : (b % 128 + w * 128) % 128 + 128 ≡ b = omega arith in
    let y : (b % 128 + w * 128) / 128 ≡ w = omega arith in
    rw v (sym (long (b % 128 + w * 128) (omega arith) ∙ rw (x, y, e)))

pub ends_some : (g : List ℕ) → has_last g ≡ true → 0 < length g
unfolding has_last
ends_some [] e = let z : ◌≡◌ {A = ℕ} 0 1 = cc in absurd (omega arith)
ends_some (b ∷ bs) e = omega arith

-- a sequence that does not end in zero stands for a number other than 0
value_some : (g : List ℕ) (w : ℕ) → g ≡ shortest w → 0 < final g → 0 < w
value_some g zero e h =
    let z : final g ≡ 0 = ap final (e ∙ short 0 (omega arith)) in
    absurd (omega arith)
value_some g (suc w) e h = omega arith

-- by the last byte: where the sequence has a second one, it is not 0
spelled : (l : List ℕ) → AllBytes l → has_last (groups l) ≡ true → (1 < length (groups l) → 0 < final (groups l)) → groups l ≡ shortest (value_of 0 (groups l))
unfolding groups has_last
spelled [] bs e f = let z : ◌≡◌ {A = ℕ} 0 1 = cc in absurd (omega arith)
spelled (b ∷ l) bs e f =
    elim (lt_or_le b 128) [
      | inl h ↦ rw (lt-ltb b 128 h) (spelled_one b h)
      | inr h ↦
          let n : has_last (groups l) ≡ true = rw (le-ltb b 128 h) at e in
          let k : 0 < length (groups l) = ends_some (groups l) n in
          let c : final (b ∷ groups l) ≡ final (groups l) = final_cons b (groups l) k in
          let g : 1 < length (b ∷ groups l) → 0 < final (b ∷ groups l) = rw (le-ltb b 128 h) at f in
          let p : 0 < final (groups l) = omega (arith, g (omega arith)) in
          let ih : groups l ≡ shortest (value_of 0 (groups l)) = spelled l (λ i. bs (suc i)) n (λ m. p) in
          rw (le-ltb b 128 h) (spelled_more b (value_of 0 (groups l)) (groups l) h (bs 0) ih (value_some (groups l) (value_of 0 (groups l)) ih p) refl)
    ]

pub not_overlong_shortest : (l : List ℕ) → AllBytes l → has_last (groups l) ≡ true → overlong (groups l) ≡ false → groups l ≡ shortest (value_of 0 (groups l))
not_overlong_shortest l bs e o =
    spelled l bs e (λ h. omega (arith, eqb-false (final (groups l)) 0 (sym (more_bytes (groups l) h) ∙ o)))

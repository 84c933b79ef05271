-- Authors that strictly rise, kept by whatever makes entries grow.
use Prim.Native.Nat.{ℕ, suc, ◌+◌, ◌≤◌}
use mathlib.Core.Path.{◌≡◌, refl}
use mathlib.Core.Bool.{Bool, true, false}
use mathlib.Core.Logic.{inl, inr}
use mathlib.Core.List.{List, [], ◌∷◌}
use native.Mathlib.Omega.{arith}
use lib.Dec.{eqb, ltb, leb}
use borrow.Author.Tests.{eqb-true, eqb-false, ltb-true, ltb-false, leb-true, le-leb}
use Rattle.words.proofs.Words.{test}
use Rattle.words.proofs.Conjunction.{and_left, and_right, and_both}
use Rattle.clock.specs.Entries.{rising, get, put, observe, increment, merge}
use Rattle.words.specs.Choice.{pick}

-- rising, as data
pub data Rises : ℕ → List (ℕ × ℕ) → Type 0 where
  none : {lo : ℕ} → Rises lo []
  more : {lo a n : ℕ} {es : List (ℕ × ℕ)} → lo ≤ a → Rises (suc a) es → Rises lo ((a, n) ∷ es)

pub rises_of : (lo : ℕ) (es : List (ℕ × ℕ)) → rising lo es ≡ true → Rises lo es
unfolding rising
rises_of lo [] h = none
rises_of lo ((a, n) ∷ es) h = more (leb-true lo a (and_left _ _ h)) (rises_of (suc a) es (and_right (leb lo a) _ h))

pub of_rises : {lo : ℕ} {es : List (ℕ × ℕ)} → Rises lo es → rising lo es ≡ true
unfolding rising
of_rises none = refl
of_rises {lo} (more {a = a} h r) = and_both _ _ (le-leb lo a h) (of_rises r)

by : (lo a n b m : ℕ) (c d : List (ℕ × ℕ)) (e l : Bool) → eqb b a ≡ e → ltb a b ≡ l → lo ≤ a → lo ≤ b → Rises (suc b) c → (suc b ≤ a → Rises (suc b) d)
    → Rises lo (pick e ((a, n) ∷ c) (pick l ((a, n) ∷ (b, m) ∷ c) ((b, m) ∷ d)))
by lo a n b m c d true l e f h k r s =
    let z : b ≡ a = eqb-true b a e in
    more h (rw z at r)
by lo a n b m c d false true e f h k r s =
    let x : suc a ≤ b = omega (arith, ltb-true a b f) in
    more h (more x r)
by lo a n b m c d false false e f h k r s =
    let x : b ≡ a → ⊥ = eqb-false b a e in
    let y : b ≤ a = ltb-false a b f in
    let z : suc b ≤ a = omega (arith, x, y) in
    more k (s z)

pub put_rises : (lo a n : ℕ) (es : List (ℕ × ℕ)) → lo ≤ a → Rises lo es → Rises lo (put es a n)
unfolding put
put_rises lo a n [] h none = more h none
put_rises lo a n ((b, m) ∷ es) h (more k r) =
    by lo a n b m es (put es a n) (eqb b a) (ltb a b) refl refl h k r (λ q. put_rises (suc b) a n es q r)

pub observe_rises : (a n : ℕ) (es : List (ℕ × ℕ)) → Rises 0 es → Rises 0 (observe es a n)
unfolding observe
observe_rises a n es r =
    elim (test (ltb (get es a) n)) [ inl h ↦ rw h (put_rises 0 a n es (omega arith) r) | inr h ↦ rw h r ]

pub merge_rises : (es os : List (ℕ × ℕ)) → Rises 0 es → Rises 0 (merge es os)
unfolding merge
merge_rises es [] r = r
merge_rises es ((a, n) ∷ os) r = merge_rises (observe es a n) os (observe_rises a n es r)

-- the same for the test
module _ (es : List (ℕ × ℕ)) (h : rising 0 es ≡ true) where
  pub rising_put : (a n : ℕ) → rising 0 (put es a n) ≡ true
  rising_put a n = of_rises (put_rises 0 a n es (omega arith) (rises_of 0 es h))

  pub rising_observe : (a n : ℕ) → rising 0 (observe es a n) ≡ true
  rising_observe a n = of_rises (observe_rises a n es (rises_of 0 es h))

  pub rising_increment : (a : ℕ) → rising 0 (increment es a) ≡ true
  unfolding increment
  rising_increment a = rising_put a (get es a + 1)

  pub rising_merge : (os : List (ℕ × ℕ)) → rising 0 (merge es os) ≡ true
  rising_merge os = of_rises (merge_rises es os (rises_of 0 es h))

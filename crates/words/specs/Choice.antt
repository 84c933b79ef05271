-- Choices by a test, and what a test tells.
use Rattle.std.specs.Prelude.{ℕ, ◌+◌, ◌-◌, ◌^◌, Bool, true, false, ltb}

-- the first where the test holds, else the second
abbrev pub pick : {A : Type 0} → Bool → A → A → A
pick true a b = a
pick false a b = b

-- a sum that stays at the greatest 64-bit number
unfoldable pub saturating : ℕ → ℕ → ℕ
saturating a b = pick (ltb (a + b) (2 ^ 64)) (a + b) (2 ^ 64 - 1)

-- a test's answer: true with a proof, false with a refutation
pub data Tells (P : Type 0) : Bool → Type 0 where
  is_true : P → Tells P true
  is_false : (P → ⊥) → Tells P false

-- What each way out of increment comes to.
use Prim.Native.Nat.{ℕ, ◌+◌, ◌≤◌, ◌<◌, ◌^◌}
use mathlib.Core.Path.{◌≡◌}
use mathlib.Core.Bool.{true}
use native.Mathlib.Omega.{arith}
use borrow.Author.Tests.{lt-ltb, le-ltb}
use Rattle.error.specs.declared.Refusal.TheVariants.{CounterOverflow}
use Rattle.clock.specs.declared.vector.VectorClock.{VectorClock}
use Rattle.clock.specs.Entries.{get, put, increment}
use Rattle.clock.specs.Vector.{entries, sound, grown, increment_call}
use Rattle.error.specs.Answer.{refused, ends}
use Rattle.error.specs.declared.Ends.{Ends}

module _ (c : VectorClock) (a have : ℕ) (s : sound c ≡ true) (e : have ≡ get (entries c) a) where
  pub increment_spent : 18446744073709551615 ≤ have → ends (refused CounterOverflow) c ≡ increment_call c a
  unfolding increment_call
  increment_spent h = rw (s, ← e, le-ltb (have + 1) (2 ^ 64) (omega arith))

  pub increment_told : have < 18446744073709551615 → (q : Ends ℕ VectorClock) → q ≡ grown c (put (entries c) a (have + 1)) (have + 1) → q ≡ increment_call c a
  unfolding increment_call increment
  increment_told h q p = rw (s, ← e, lt-ltb (have + 1) (2 ^ 64) (omega arith)) p

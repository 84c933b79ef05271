use Prim.Native.Nat.{ℕ, ◌+◌, ◌*◌, ◌^◌, ◌%◌, ◌<◌}
use mathlib.Core.Path.{◌≡◌}
use native.Mathlib.Omega.{arith}
use native.Mathlib.Nat.{mod-eq_of_lt}
use lib.Bits.{bit_or, or_shifted_r}
use Rattle.codec.proofs.with_group.Goals as goal

joined : (v p k : ℕ) → v < 2 ^ k → p * 2 ^ k < 2 ^ 64 → bit_or v (p * 2 ^ k % 18446744073709551616) ≡ v + p * 2 ^ k
joined v p k h l = rw (mod-eq_of_lt l) (omega (arith, or_shifted_r p k v h))

pub returns : goal.returns
returns c = joined _ _ _ c.requires.1 c.requires.2

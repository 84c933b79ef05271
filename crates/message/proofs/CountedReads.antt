-- Counts and lengths that are read: at most the Rust's, then at most ours.
use Prim.Native.Nat.{ℕ, ◌+◌, ◌≤◌}
use mathlib.Core.Path.{◌≡◌, ap}
use mathlib.Core.List.{List}
use native.Mathlib.Omega.{arith}
use lib.Dec.{leb}
use lib.ListN.{length}
use borrow.Author.Tests.{leb-true}
use Rattle.error.specs.declared.Refusal.TheVariants.{OverCapacity}
use Rattle.error.specs.Answer.{got}
use Rattle.codec.specs.Reading.{get_count}
use Rattle.codec.specs.declared.Part.{Part}
use Rattle.codec.proofs.ReadSteps.{after_got, need_got, got_value, got_next}
use Rattle.codec.proofs.RoundTrip.{count_inside}
use Rattle.message.specs.Reading.{count_within, bytes_within}

-- what is known of a count that was read
pub record CountGot (ours : ℕ) (s : List ℕ) (n next : ℕ) : Type 0 where
  pub few : n ≤ ours
  pub left : next + n ≤ length s

pub count_got : (most ours : ℕ) (s : List ℕ) (at n next : ℕ) → count_within most ours s at ≡ got n next → CountGot ours s n next
unfolding count_within
count_got most ours s at n next e =
    let x = after_got (get_count s at most) _ e in
    let y = need_got (leb x.0 ours) OverCapacity _ x.3 in
    let a : x.0 ≡ n = got_value y.1 in
    let b : x.1 ≡ next = got_next y.1 in
    record { few = omega (arith, leb-true x.0 ours y.0); left = omega (arith, count_inside s at most x.0 x.1 x.2) }

-- a part
pub record PartGot (ours : ℕ) (s : List ℕ) (p : Part) : Type 0 where
  pub few : p.len ≤ ours
  pub inside : p.start + p.len ≤ length s

pub part_got : (most ours : ℕ) (s : List ℕ) (at : ℕ) (p : Part) (next : ℕ) → bytes_within most ours s at ≡ got p next → PartGot ours s p
unfolding bytes_within
part_got most ours s at p next e =
    let x = after_got (count_within most ours s at) _ e in
    let k : CountGot ours s x.0 x.1 = count_got most ours s at x.0 x.1 x.2 in
    let a : x.1 ≡ p.start = ap (λ (p : Part). p.start) (got_value x.3) in
    let b : x.0 ≡ p.len = ap (λ (p : Part). p.len) (got_value x.3) in
    record { few = omega (arith, k.few); inside = omega (arith, k.left) }

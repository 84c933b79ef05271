-- One turn of each test of a clock's rules, and the test of all.
use Prim.Native.Nat.{ℕ, suc, ◌+◌, ◌-◌, ◌≤◌, ◌<◌}
use mathlib.Core.Path.{◌≡◌, refl, sym, ◌∙◌}
use mathlib.Core.Bool.{Bool, true, false, ◌&&◌}
use mathlib.Core.List.{List, [], ◌∷◌}
use native.Mathlib.Numerals.{add-one}
use native.Mathlib.Omega.{arith}
use lib.Dec.{leb}
use lib.ListN.{length, take, drop, get_or, length-drop, drop_of_length-le}
use lib.Seq.{drop-cons, length-take-le}
use Rattle.std.proofs.Math.Seq.{take-length}
use borrow.Author.Tests.{eq-eqb, ne_eqb, le-leb, lt-leb}
use Rattle.error.specs.declared.Refusal.{Refusal}
use Rattle.error.specs.declared.Refusal.TheVariants.{UnsoundStore}
use Rattle.error.specs.Answer.{done, refused, nothing, unless}
use Rattle.clock.specs.declared.vector.VectorClock.{VectorClock}
use Rattle.clock.specs.Vector.{zeros, entries, sound}
use Rattle.clock.specs.Inside.Columns.{ascending}
use Rattle.clock.proofs.ClockEntries.{rising_pairs}

-- what is left of the test from i on
abbrev pub Rest : List ℕ → ℕ → Type 0
Rest s i = ascending 0 s ≡ ascending (suc (get_or s (i - 1) 0)) (drop i s)

pub rises_start : (s : List ℕ) → Rest s 1
unfolding ascending
rises_start [] = refl
rises_start (a ∷ s) = rw (le-leb 0 a (omega arith))

module _ (s : List ℕ) (i : ℕ) (h : i < length s) (inv : Rest s i) where
  one : ascending 0 s ≡ leb (suc (get_or s (i - 1) 0)) (get_or s i 0) && ascending (suc (get_or s i 0)) (drop (suc i) s)
  unfolding ascending
  one = inv ∙ rw (drop-cons s i 0 h)

  pub rises_turn : get_or s (i - 1) 0 < get_or s i 0 → Rest s (i + 1)
  rises_turn l =
      let e : i + 1 - 1 ≡ i = omega arith in
      one ∙ rw (le-leb (suc (get_or s (i - 1) 0)) (get_or s i 0) (omega arith), e, add-one)

  pub rises_not : get_or s i 0 ≤ get_or s (i - 1) 0 → false ≡ ascending 0 s
  rises_not l = sym (one ∙ rw (lt-leb (suc (get_or s (i - 1) 0)) (get_or s i 0) (omega arith)))

pub rises_end : (s : List ℕ) (i : ℕ) → length s ≤ i → Rest s i → true ≡ ascending 0 s
unfolding ascending
rises_end s i h inv = sym (inv ∙ rw (drop_of_length-le s {i = i} h))

-- zeros from a place on
abbrev pub Clear : List ℕ → ℕ → Type 0
Clear s i = zeros s ≡ zeros (drop i s)

module _ (s : List ℕ) (i : ℕ) (h : i < length s) (inv : Clear s i) where
  pub clear_turn : get_or s i 0 ≡ 0 → Clear s (i + 1)
  unfolding zeros
  clear_turn e = inv ∙ rw (add-one, drop-cons s i 0 h, eq-eqb (get_or s i 0) 0 e)

  pub clear_not : (get_or s i 0 ≡ 0 → ⊥) → false ≡ zeros s
  unfolding zeros
  clear_not e = sym (inv ∙ rw (drop-cons s i 0 h, ne_eqb (get_or s i 0) 0 e))

pub clear_end : (s : List ℕ) (i : ℕ) → length s ≤ i → Clear s i → true ≡ zeros s
unfolding zeros
clear_end s i h inv = sym (inv ∙ rw (drop_of_length-le s {i = i} h))

-- what stands from n on, as a slice of a column
pub from_on : (s : List ℕ) (n : ℕ) → length s ≡ 32 → take (32 - n) (drop n s) ≡ drop n s
from_on s n h =
    let e : 32 - n ≡ length (drop n s) = omega (arith, length-drop n s) in
    rw e (take-length (drop n s))

-- all the rules
pub sound_many : (c : VectorClock) → 32 < c.count → false ≡ sound c
unfolding sound
sound_many c h = rw (lt-leb c.count 32 h)

module _ (c : VectorClock) (h : c.count ≤ 32) (la : length c.authors ≡ 32) (ln : length c.numbers ≡ 32) where
  whole : sound c ≡ ascending 0 (take c.count c.authors) && zeros (drop c.count c.authors) && zeros (drop c.count c.numbers)
  unfolding sound entries
  whole =
      rw (
        le-leb c.count 32 h,
        rising_pairs 0 (take c.count c.authors) (take c.count c.numbers)
            (length-take-le c.count c.authors (omega arith) ∙ sym (length-take-le c.count c.numbers (omega arith))),
      )

  pub sound_falling : false ≡ ascending 0 (take c.count c.authors) → false ≡ sound c
  sound_falling e = sym (whole ∙ rw (← e))

  pub sound_used : true ≡ ascending 0 (take c.count c.authors) → false ≡ zeros (drop c.count c.authors) → false ≡ sound c
  sound_used e f = sym (whole ∙ rw (← e, ← f))

  pub sound_last : (r : Bool) → true ≡ ascending 0 (take c.count c.authors) → true ≡ zeros (drop c.count c.authors)
      → r ≡ zeros (drop c.count c.numbers) → r ≡ sound c
  sound_last r e f g = g ∙ sym (whole ∙ rw (← e, ← f))

-- a test of the rules that passed, or that did not
module _ (c : VectorClock) where
  pub checked : done nothing ≡ unless (sound c) UnsoundStore (done nothing) → sound c ≡ true
  checked e = told (sound c) e
    where
      told : (b : Bool) → done nothing ≡ unless b UnsoundStore (done nothing) → b ≡ true
      told true e = refl
      told false e = absurd (let z : ◌≡◌ {A = ℕ} 0 1 = cc in omega arith)

  pub unsound : {k : Refusal} → refused k ≡ unless (sound c) UnsoundStore (done nothing) → (k ≡ UnsoundStore) × (sound c ≡ false)
  unsound {k} e = told (sound c) e
    where
      told : (b : Bool) → refused k ≡ unless b UnsoundStore (done nothing) → (k ≡ UnsoundStore) × (b ≡ false)
      told true e = absurd (let z : ◌≡◌ {A = ℕ} 0 1 = cc in omega arith)
      told false e = (cc, refl)

-- The first of the working references that a test holds of.
use Prim.Native.Nat.{ℕ, suc, ◌+◌, ◌-◌, ◌*◌, ◌<◌}
use mathlib.Core.Path.{◌≡◌, refl, sym, ◌∙◌, ap}
use mathlib.Core.Bool.{Bool, true, false}
use mathlib.Core.List.{List, [], ◌∷◌}
use native.Mathlib.Omega.{arith}
use lib.ListN.{length}
use Rattle.words.specs.Be.{get64, column}
use Rattle.working.specs.Inside.Looks.{later, first_where}
use Rattle.std.proofs.Common.{Option, Some, None}
use Rattle.working.proofs.ScratchColumns.{cells_next, length_cells}
use Rattle.words.specs.Choice.{pick}

-- the search, i references on
unfoldable pub onward : ℕ → Option ℕ → Option ℕ
onward i (Some j) = Some (i + j)
onward i None = None

onward_none : (f : Option ℕ) → f ≡ onward 0 f
unfolding onward
onward_none (Some j) = ap Some (omega arith)
onward_none None = refl

onward_later : (i : ℕ) (f : Option ℕ) → onward i (later f) ≡ onward (i + 1) f
unfolding onward later
onward_later i (Some j) = ap Some (omega arith)
onward_later i None = refl

-- the references from the i-th on
unfoldable pub LeftFirst : (ℕ → Bool) → List ℕ → ℕ → ℕ → Type 0
LeftFirst p s n i = first_where p (column s 0 n) ≡ onward i (first_where p (column s (16 * i) (n - i)))

module _ (p : ℕ → Bool) (s : List ℕ) (n : ℕ) where
  pub first_start : LeftFirst p s n 0
  unfolding LeftFirst
  first_start =
      let e : n - 0 ≡ n = omega arith in
      rw e (onward_none _)

  pub first_end : (i : ℕ) → i ≡ n → LeftFirst p s n i → None ≡ first_where p (column s 0 n)
  unfolding LeftFirst first_where column onward
  first_end i h inv =
      let e : n - i ≡ 0 = omega arith in
      sym (inv ∙ rw e)

  module _ (i k : ℕ) (b : Bool) (h : i < n) (e : k ≡ get64 s (16 * i)) (r : b ≡ p k) where
    first_head : first_where p (column s (16 * i) (n - i)) ≡ pick b (Some 0) (later (first_where p (column s (16 * (i + 1)) (n - (i + 1)))))
    unfolding first_where
    first_head = rw (cells_next s i n h, ← e, r)

    pub first_here : b ≡ true → LeftFirst p s n i → Some i ≡ first_where p (column s 0 n)
    unfolding LeftFirst onward
    first_here t inv = sym (inv ∙ rw (first_head, t) (ap Some (omega arith)))

    pub first_turn : b ≡ false → LeftFirst p s n i → LeftFirst p s n (i + 1)
    unfolding LeftFirst
    first_turn t inv = inv ∙ rw (first_head, t) (onward_later i _)

-- a reference that is found is one of them
found_by : (ks : List ℕ) (k j : ℕ) (b : Bool) (f : Option ℕ) → ((i : ℕ) → Some i ≡ f → i < length ks) → Some j ≡ pick b (Some 0) (later f) → j < suc (length ks)
unfolding later
found_by ks k j true f h e =
    let z : j ≡ 0 = cc in
    omega arith
found_by ks k j false (Some i) h e =
    let z : j ≡ suc i = cc in
    omega (arith, h i refl)
found_by ks k j false None h e = absurd (let z : ◌≡◌ {A = ℕ} 0 1 = cc in omega arith)

found_in : (p : ℕ → Bool) (ks : List ℕ) (j : ℕ) → Some j ≡ first_where p ks → j < length ks
unfolding first_where
found_in p [] j e = absurd (let z : ◌≡◌ {A = ℕ} 0 1 = cc in omega arith)
found_in p (k ∷ ks) j e = found_by ks k j (p k) (first_where p ks) (λ i q. found_in p ks i q) e

pub found_below : (p : ℕ → Bool) (s : List ℕ) (n j : ℕ) → Some j ≡ first_where p (column s 0 n) → j < n
found_below p s n j e = omega (arith, found_in p (column s 0 n) j e, length_cells s 0 n)

-- What tests tell, and lists that are tested element by element.
use Prim.Native.Nat.{ℕ, zero, suc}
use mathlib.Core.Path.{◌≡◌, refl, sym}
use mathlib.Core.Bool.{Bool, true, false, not}
use mathlib.Core.List.{List, [], ◌∷◌}
use native.Mathlib.Omega.{arith}
use lib.Dec.{eqb, ltb}
use borrow.Author.Tests.{ltb-true, eqb-true, lt-ltb, eq-eqb, not-true, not-false}
use Rattle.words.specs.Be.{AllBytes}
use Rattle.words.specs.Choice.{Tells}
use Rattle.words.specs.Choice.Tells.{is_true, is_false}
use Rattle.words.proofs.Conjunction.{and_left, and_right, and_both}
use Rattle.row.specs.Rows.{byte_list}
use Rattle.words.specs.Lists.{same}

-- ---- what a test tells
pub tells_map : {P Q : Type 0} {b : Bool} → (P → Q) → (Q → P) → Tells P b → Tells Q b
tells_map f g (is_true p) = is_true (f p)
tells_map f g (is_false n) = is_false (λ q. n (g q))

pub told : {P : Type 0} {b : Bool} → Tells P b → b ≡ true → P
told (is_true p) e = p
told (is_false n) e = absurd (let z : ◌≡◌ {A = ℕ} 0 1 = cc in omega arith)

pub denied : {P : Type 0} {b : Bool} → Tells P b → b ≡ false → P → ⊥
denied (is_false n) e = n
denied (is_true p) e = absurd (let z : ◌≡◌ {A = ℕ} 0 1 = cc in omega arith)

pub told_not : {P : Type 0} {b : Bool} → Tells P b → not b ≡ false → P
told_not {b} t e = told t (not-false b e)

pub denied_not : {P : Type 0} {b : Bool} → Tells P b → not b ≡ true → P → ⊥
denied_not {b} t e = denied t (not-true b e)

-- a test that holds just where P does
pub tells_by : {P : Type 0} (b : Bool) → (b ≡ true → P) → (P → b ≡ true) → Tells P b
tells_by true f g = is_true (f refl)
tells_by false f g = is_false (λ p. let e : false ≡ true = g p in cc)

pub never : (t : Bool) → (t ≡ true → ⊥) → t ≡ false
never true n = absurd (n refl)
never false n = refl

-- the answer of a test of P is any Boolean that holds just where P does
pub told_by_lem : {P : Type 0} {b : Bool} (t : Bool) → (P → t ≡ true) → (t ≡ true → P) → Tells P b → b ≡ t
told_by_lem t f g (is_true p) = sym (f p)
told_by_lem t f g (is_false n) = sym (never t (λ e. n (g e)))

-- ---- lists
pub same_true : (x y : List ℕ) → same x y ≡ true → x ≡ y
unfolding same
same_true [] [] h = refl
same_true [] (b ∷ y) h = absurd (let z : ◌≡◌ {A = ℕ} 0 1 = cc in omega arith)
same_true (a ∷ x) [] h = absurd (let z : ◌≡◌ {A = ℕ} 0 1 = cc in omega arith)
same_true (a ∷ x) (b ∷ y) h =
    let e : a ≡ b = eqb-true a b (and_left _ _ h) in
    let f : x ≡ y = same_true x y (and_right (eqb a b) _ h) in
    cc

pub same_refl : (x : List ℕ) → same x x ≡ true
unfolding same
same_refl [] = refl
same_refl (a ∷ x) = and_both _ _ (eq-eqb a a refl) (same_refl x)

pub list_bytes : (l : List ℕ) → byte_list l ≡ true → AllBytes l
unfolding byte_list
list_bytes [] h zero = omega arith
list_bytes [] h (suc i) = omega arith
list_bytes (b ∷ l) h zero = ltb-true b 256 (and_left _ _ h)
list_bytes (b ∷ l) h (suc i) = list_bytes l (and_right (ltb b 256) _ h) i

pub bytes_list : (l : List ℕ) → AllBytes l → byte_list l ≡ true
unfolding byte_list
bytes_list [] b = refl
bytes_list (x ∷ l) b = and_both _ _ (lt-ltb x 256 (b 0)) (bytes_list l (λ i. b (suc i)))

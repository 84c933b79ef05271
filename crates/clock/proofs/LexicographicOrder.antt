-- Laws of the lexicographic order of lists of numbers, and of the order of stamps.
use Prim.Native.Nat.{ℕ, ◌<◌, ◌≤◌}
use mathlib.Core.Path.{◌≡◌, refl, sym, ◌∙◌}
use mathlib.Core.Bool.{Bool, true, false}
use mathlib.Core.List.{List, [], ◌∷◌}
use mathlib.Core.Logic.{◌⊎◌, inl, inr}
use native.Mathlib.Omega.{arith}
use lib.Dec.{ltb, eqb}
use lib.ListN.{length}
use borrow.Author.Tests.{ltb-true, ltb-false, lt-ltb, le-ltb, eq-eqb, ne_eqb}
use Rattle.words.proofs.Words.{test}
use Rattle.clock.specs.Order.{less, stamp_key, stamp_less, stamp_order}
use Rattle.clock.specs.declared.stamp.Timestamp.{Timestamp}
use Rattle.std.specs.declared.cmp.Ordering.TheVariants.{Less, Equal, Greater}

-- heads that differ decide
pub less_below : (x y : ℕ) (xs ys : List ℕ) → x < y → less (x ∷ xs) (y ∷ ys) ≡ true
unfolding less
less_below x y xs ys h =
    let d : eqb x y ≡ false = ne_eqb x y (λ e. omega arith) in
    rw d (lt-ltb x y h)

pub less_above : (x y : ℕ) (xs ys : List ℕ) → y < x → less (x ∷ xs) (y ∷ ys) ≡ false
unfolding less
less_above x y xs ys h =
    let d : eqb x y ≡ false = ne_eqb x y (λ e. omega arith) in
    rw d (le-ltb x y (omega arith))

-- under equal heads the tails decide
pub less_level : (x y : ℕ) (xs ys : List ℕ) → x ≡ y → less (x ∷ xs) (y ∷ ys) ≡ less xs ys
unfolding less
less_level x y xs ys e = rw (eq-eqb x y e)

-- how two numbers stand to each other
pub data Tri (x y : ℕ) : Type 0 where
  below : x < y → Tri x y
  level : x ≡ y → Tri x y
  above : y < x → Tri x y

pub tri : (x y : ℕ) → Tri x y
tri x y = elim (test (ltb x y)) [
  | inl h ↦ below (ltb-true x y h)
  | inr h ↦ elim (test (ltb y x)) [ inl k ↦ above (ltb-true y x k) | inr k ↦ level (omega (arith, ltb-false)) ]
]

-- no test is both
pub clash : {b : Bool} → b ≡ true → b ≡ false → ⊥
clash {b} t f =
    let z : ◌≡◌ {A = ℕ} 0 1 = cc in
    omega arith

-- less by cases: the heads rise, or they are equal and the tails are less
pub less_cases : (x y : ℕ) (xs ys : List ℕ) → less (x ∷ xs) (y ∷ ys) ≡ true → (x < y) ⊎ ((x ≡ y) × (less xs ys ≡ true))
less_cases x y xs ys t = elim (tri x y) [
  | below h ↦ inl h
  | level h ↦ inr (h, sym (less_level x y xs ys h) ∙ t)
  | above h ↦ absurd (clash t (less_above x y xs ys h))
]

-- nothing is less than itself
pub less_irreflexive : (xs : List ℕ) → less xs xs ≡ false
unfolding less
less_irreflexive [] = refl
less_irreflexive (x ∷ xs) = rw (eq-eqb x x refl) (less_irreflexive xs)

-- what is less than something less is less
pub less_transitive : (xs ys zs : List ℕ) → less xs ys ≡ true → less ys zs ≡ true → less xs zs ≡ true
unfolding less
less_transitive [] ys zs t u = absurd (clash t refl)
less_transitive (x ∷ xs) [] zs t u = absurd (clash t refl)
less_transitive (x ∷ xs) (y ∷ ys) [] t u = absurd (clash u refl)
less_transitive (x ∷ xs) (y ∷ ys) (z ∷ zs) t u = elim (less_cases x y xs ys t) [
  | inl h ↦ elim (less_cases y z ys zs u) [ inl k ↦ less_below x z xs zs (omega arith) | inr k ↦ less_below x z xs zs (omega arith) ]
  | inr h ↦ elim (less_cases y z ys zs u) [
    | inl k ↦ less_below x z xs zs (omega arith)
    | inr k ↦ less_level x z xs zs (omega arith) ∙ less_transitive xs ys zs h.1 k.1
  ]
]

not_so : {b : Bool} → (b ≡ true → ⊥) → b ≡ false
not_so {b = true} f = absurd (f refl)
not_so {b = false} f = refl

-- no two are less than each other
pub less_asymmetric : (xs ys : List ℕ) → less xs ys ≡ true → less ys xs ≡ false
less_asymmetric xs ys t = not_so (λ u. clash (less_transitive xs ys xs t u) (less_irreflexive xs))

-- of two lists of equal length that are not equal, one is less
pub less_total : (xs ys : List ℕ) → length xs ≡ length ys → less xs ys ≡ false → less ys xs ≡ false → xs ≡ ys
less_total [] [] l f g = refl
less_total [] (y ∷ ys) l f g = absurd (omega arith)
less_total (x ∷ xs) [] l f g = absurd (omega arith)
less_total (x ∷ xs) (y ∷ ys) l f g = elim (tri x y) [
  | below h ↦ absurd (clash (less_below x y xs ys h) f)
  | above h ↦ absurd (clash (less_below y x ys xs h) g)
  | level h ↦
      let t : xs ≡ ys = less_total xs ys (omega arith) (sym (less_level x y xs ys h) ∙ f) (sym (less_level y x ys xs (sym h)) ∙ g) in
      rw (h, t)
]

-- keys of three numbers: what makes one less, or not less
module _ (a b c x y z : ℕ) where
  pub less_first : a < x → less (a ∷ b ∷ c ∷ []) (x ∷ y ∷ z ∷ []) ≡ true
  less_first h = less_below a x _ _ h

  pub less_second : a ≡ x → b < y → less (a ∷ b ∷ c ∷ []) (x ∷ y ∷ z ∷ []) ≡ true
  less_second e h = less_level a x _ _ e ∙ less_below b y _ _ h

  pub less_third : a ≡ x → b ≡ y → c < z → less (a ∷ b ∷ c ∷ []) (x ∷ y ∷ z ∷ []) ≡ true
  less_third e f h = less_level a x _ _ e ∙ (less_level b y _ _ f ∙ less_below c z _ _ h)

  pub not_first : x < a → less (a ∷ b ∷ c ∷ []) (x ∷ y ∷ z ∷ []) ≡ false
  not_first h = less_above a x _ _ h

  pub not_second : a ≡ x → y < b → less (a ∷ b ∷ c ∷ []) (x ∷ y ∷ z ∷ []) ≡ false
  not_second e h = less_level a x _ _ e ∙ less_above b y _ _ h

  pub not_third : a ≡ x → b ≡ y → z ≤ c → less (a ∷ b ∷ c ∷ []) (x ∷ y ∷ z ∷ []) ≡ false
  not_third e f h = elim (tri c z) [
    | below k ↦ absurd (omega arith)
    | level k ↦ less_level a x _ _ e ∙ (less_level b y _ _ f ∙ (less_level c z _ _ k ∙ less_irreflexive []))
    | above k ↦ less_level a x _ _ e ∙ (less_level b y _ _ f ∙ less_above c z _ _ k)
  ]

  -- and what its being less says, by cases
  pub less_three : less (a ∷ b ∷ c ∷ []) (x ∷ y ∷ z ∷ []) ≡ true → (a < x) ⊎ ((a ≡ x) × ((b < y) ⊎ ((b ≡ y) × (c < z))))
  less_three t = elim (less_cases a x _ _ t) [
    | inl h ↦ inl h
    | inr h ↦ inr (
      h.0,
      elim (less_cases b y _ _ h.1) [
        | inl k ↦ inl k
        | inr k ↦ inr (k.0, elim (less_cases c z _ _ k.1) [ inl l ↦ l | inr l ↦ absurd (clash l.1 (less_irreflexive [])) ])
      ],
    )
  ]

-- no stamp is less than itself
pub stamp_irreflexive : (s : Timestamp) → stamp_less s s ≡ false
unfolding stamp_less
stamp_irreflexive s = less_irreflexive (stamp_key s)

-- a stamp less than a lesser one is less
pub stamp_transitive : (s t u : Timestamp) → stamp_less s t ≡ true → stamp_less t u ≡ true → stamp_less s u ≡ true
unfolding stamp_less
stamp_transitive s t u = less_transitive (stamp_key s) (stamp_key t) (stamp_key u)

-- no two stamps are less than each other
pub stamp_asymmetric : (s t : Timestamp) → stamp_less s t ≡ true → stamp_less t s ≡ false
unfolding stamp_less
stamp_asymmetric s t = less_asymmetric (stamp_key s) (stamp_key t)

-- stamps of which neither is less are equal
pub stamp_total : (s t : Timestamp) → stamp_less s t ≡ false → stamp_less t s ≡ false → s ≡ t
unfolding stamp_less stamp_key
stamp_total s t f g =
    let e : stamp_key s ≡ stamp_key t = less_total (stamp_key s) (stamp_key t) refl f g in
    let p : s.wall_time ≡ t.wall_time = cc in
    let q : s.logical_counter ≡ t.logical_counter = cc in
    let r : s.actor_id.0 ≡ t.actor_id.0 = cc in
    λ i. record { wall_time = p i; logical_counter = q i; actor_id = record { 0 = r i } }

-- and so are their three numbers
pub stamp_level : (s t : Timestamp) → stamp_less s t ≡ false → stamp_less t s ≡ false
    → (s.wall_time ≡ t.wall_time) × (s.logical_counter ≡ t.logical_counter) × (s.actor_id.0 ≡ t.actor_id.0)
stamp_level s t f g =
    let e : s ≡ t = stamp_total s t f g in
    (cc, cc, cc)

-- the order of two stamps, by which of them is less
pub order_less : (s t : Timestamp) → stamp_less s t ≡ true → stamp_order s t ≡ Less
unfolding stamp_order
order_less s t h = rw h

pub order_greater : (s t : Timestamp) → stamp_less t s ≡ true → stamp_order s t ≡ Greater
unfolding stamp_order
order_greater s t h = rw (stamp_asymmetric t s h, h)

pub order_equal : (s t : Timestamp) → stamp_less s t ≡ false → stamp_less t s ≡ false → stamp_order s t ≡ Equal
unfolding stamp_order
order_equal s t f g = rw (f, g)

-- An element put into its place in a list, and lists in which each row is below every later one.
use Prim.Native.Nat.{ℕ, suc}
use mathlib.Core.Path.{◌≡◌, refl}
use mathlib.Core.Logic.{◌⊎◌, inl, inr}
use mathlib.Core.Bool.{Bool, true, false}
use mathlib.Core.List.Memᴰ
use mathlib.Core.List.Sublistᴰ
use mathlib.Core.List.{List, [], ◌∷◌, Memᴰ, Sublistᴰ}
use mathlib.Core.Nat.{le_antisymm}
use Rattle.words.specs.Choice.{pick}
use Rattle.words.proofs.Words.{test}
use Rattle.row.specs.Rows.{Row}
use Rattle.merging.specs.Offers.{Sorted}
use Rattle.words.specs.Lists.{count_if}

-- r behind the elements at the front that stay
unfoldable pub place : {A : Type 0} → (A → Bool) → A → List A → List A
place stays r [] = r ∷ []
place stays r (x ∷ l) = pick (stays x) (x ∷ place stays r l) (r ∷ x ∷ l)

module _ {A : Type 0} (stays : A → Bool) (r : A) where
  pub place_self : (l : List A) → Memᴰ r (place stays r l)
  unfolding place
  place_self [] = Memᴰ.head refl
  place_self (x ∷ l) = elim (test (stays x)) [ inl h ↦ rw h (Memᴰ.tail (place_self l)) | inr h ↦ rw h (Memᴰ.head refl) ]

  pub place_old : {y : A} (l : List A) → Memᴰ y l → Memᴰ y (place stays r l)
  unfolding place
  place_old [] m = Memᴰ.tail m
  place_old (x ∷ l) m = elim (test (stays x)) [
    | inl h ↦ rw h (elim (Memᴰ.cases_cons m) [ inl e ↦ Memᴰ.head e | inr k ↦ Memᴰ.tail (place_old l k) ])
    | inr h ↦ rw h (Memᴰ.tail m)
  ]

  pub place_cases : {y : A} (l : List A) → Memᴰ y (place stays r l) → (y ≡ r) ⊎ Memᴰ y l
  unfolding place
  place_cases [] m = Memᴰ.cases_cons m
  place_cases (x ∷ l) m = elim (test (stays x)) [
    | inl h ↦ elim (Memᴰ.cases_cons (rw h at m)) [
      | inl e ↦ inr (Memᴰ.head e)
      | inr n ↦ elim (place_cases l n) [ inl e ↦ inl e | inr k ↦ inr (Memᴰ.tail k) ]
    ]
    | inr h ↦ Memᴰ.cases_cons (rw h at m)
  ]

pick_swap : (p q : Bool) (n : ℕ) → pick p (suc (pick q (suc n) n)) (pick q (suc n) n) ≡ pick q (suc (pick p (suc n) n)) (pick p (suc n) n)
pick_swap true true n = refl
pick_swap true false n = refl
pick_swap false true n = refl
pick_swap false false n = refl

-- what is counted does not hang on the place
pub count_place : {A : Type 0} (p stays : A → Bool) (r : A) (l : List A) → count_if p (place stays r l) ≡ count_if p (r ∷ l)
unfolding place count_if
count_place p stays r [] = refl
count_place p stays r (x ∷ l) =
    elim (stays x) as (λ b. count_if p (pick b (x ∷ place stays r l) (r ∷ x ∷ l)) ≡ count_if p (r ∷ x ∷ l)) [
      | true ↦ rw (count_place p stays r l) (pick_swap (p x) (p r) (count_if p l))
      | false ↦ refl
    ]

module _ (less : Row → Row → Bool) (trans : (a b c : Row) → less a b ≡ true → less b c ≡ true → less a c ≡ true) where
  -- in its place, a row leaves the list sorted
  pub place_sorted : (stays : Row → Bool) (r : Row) {l : List Row} → ((x : Row) → Memᴰ x l → stays x ≡ true → less x r ≡ true)
      → ((x : Row) → Memᴰ x l → stays x ≡ false → less r x ≡ true) → Sorted less l → Sorted less (place stays r l)
  unfolding place
  place_sorted stays r low high Sorted.none = Sorted.more (λ y m. absurd (Memᴰ.not-nil m)) Sorted.none
  place_sorted stays r low high (Sorted.more {r = x} {rows = l} h s) = elim (test (stays x)) [
    | inl e ↦ rw e (Sorted.more {r = x} {rows = place stays r l}
        (λ y m. elim (place_cases stays r l m) [ inl p ↦ rw p (low x (Memᴰ.head refl) e) | inr k ↦ h y k ])
        (place_sorted stays r (λ y m. low y (Memᴰ.tail m)) (λ y m. high y (Memᴰ.tail m)) s))
    | inr e ↦ rw e (Sorted.more {r = r} {rows = x ∷ l}
        (λ y m. elim (Memᴰ.cases_cons m) [
          | inl p ↦ rw p (high x (Memᴰ.head refl) e)
          | inr k ↦ trans r x y (high x (Memᴰ.head refl) e) (h y k)
        ])
        (Sorted.more h s))
  ]

  module _ (irrefl : (a : Row) → less a a ≡ true → ⊥) where
    pub sorted_sublist : (l₁ l₂ : List Row) → Sorted less l₁ → Sorted less l₂ → ((y : Row) → Memᴰ y l₁ → Memᴰ y l₂) → Sublistᴰ l₁ l₂
    sorted_sublist [] l₂ s t sub = Sublistᴰ.nil-sublist l₂
    sorted_sublist (x ∷ l₁) [] s t sub = absurd (Memᴰ.not-nil (sub x (Memᴰ.head refl)))
    sorted_sublist (x ∷ l₁) (z ∷ l₂) (Sorted.more h s) (Sorted.more k t) sub =
        elim (Memᴰ.cases_cons (sub x (Memᴰ.head refl))) [
          | inl e ↦ Sublistᴰ.cons-cons e (sorted_sublist l₁ l₂ s t (λ y m. elim (Memᴰ.cases_cons (sub y (Memᴰ.tail m))) [
            | inl p ↦ absurd (irrefl z (rw (e, p) at (h y m)))
            | inr q ↦ q
          ]))
          | inr m ↦ Sublistᴰ.cons (sorted_sublist (x ∷ l₁) l₂ (Sorted.more h s) t (λ y n. elim (Memᴰ.cases_cons (sub y n)) [
            | inl p ↦ absurd (elim (Memᴰ.cases_cons n) [
              | inl q ↦ irrefl x (rw (← p, q) at (k x m))
              | inr q ↦ irrefl z (trans z x z (k x m) (rw p at (h y q)))
            ])
            | inr q ↦ q
          ]))
        ]

    -- sorted lists with the same members are equal
    pub sorted_unique : (l₁ l₂ : List Row) → Sorted less l₁ → Sorted less l₂ → ((y : Row) → Memᴰ y l₁ → Memᴰ y l₂)
        → ((y : Row) → Memᴰ y l₂ → Memᴰ y l₁) → l₁ ≡ l₂
    sorted_unique l₁ l₂ s t u v =
        let p = sorted_sublist l₁ l₂ s t u in
        let q = sorted_sublist l₂ l₁ t s v in
        Sublistᴰ.eq_of_length p (le_antisymm (Sublistᴰ.length-le p) (Sublistᴰ.length-le q))

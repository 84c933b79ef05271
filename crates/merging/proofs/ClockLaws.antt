-- Clocks: an author's next number, entries above 0, and that such clocks are equal where they tell the same of every author.
use Prim.Native.Nat.{ℕ, suc, ◌≤◌, ◌<◌}
use mathlib.Core.Path.{◌≡◌, refl, sym, ◌∙◌, ap}
use mathlib.Core.Logic.{◌⊎◌, inl, inr}
use mathlib.Core.Bool.{Bool, true, false}
use mathlib.Core.List.Memᴰ
use mathlib.Core.List.{List, [], ◌∷◌, Memᴰ}
use native.Mathlib.Omega.{arith}
use lib.Dec.{eqb, ltb}
use borrow.Author.Tests.{eq-eqb, ne_eqb, lt-ltb}
use Rattle.clock.specs.Entries.{get, put, observe}
use Rattle.clock.proofs.LexicographicOrder.{below, level, above, tri}
use Rattle.clock.proofs.RisingAuthors.{Rises}
use Rattle.clock.proofs.EntryLaws.{absent, get_put}
use Rattle.words.specs.Choice.{pick}

-- ---- the next number observed

module _ (c : List (ℕ × ℕ)) (a n : ℕ) (next : n ≡ suc (get c a)) where
  pub observe_put : observe c a n ≡ put c a n
  unfolding observe
  observe_put = rw (lt-ltb (get c a) n (omega arith))

  pub get_next : (x : ℕ) → a ≡ x → get (observe c a n) x ≡ n
  get_next x e = rw (observe_put, get_put c a n x, eq-eqb a x e)

  pub get_others : (x : ℕ) → (a ≡ x → ⊥) → get (observe c a n) x ≡ get c x
  get_others x e = rw (observe_put, get_put c a n x, ne_eqb a x e)

-- ---- entries above 0

abbrev pub Positive : List (ℕ × ℕ) → Type 0
Positive es = (a n : ℕ) → Memᴰ (a, n) es → 0 < n

put_by_cases : (p q : Bool) (e : ℕ × ℕ) (a n : ℕ) (es more : List (ℕ × ℕ)) → ((z : ℕ × ℕ) → Memᴰ z more → (z ≡ (a, n)) ⊎ Memᴰ z es)
    → (z : ℕ × ℕ) → Memᴰ z (pick p ((a, n) ∷ es) (pick q ((a, n) ∷ e ∷ es) (e ∷ more))) → (z ≡ (a, n)) ⊎ Memᴰ z (e ∷ es)
put_by_cases true q e a n es more f z m = elim (Memᴰ.cases_cons m) [ inl p ↦ inl p | inr k ↦ inr (Memᴰ.tail k) ]
put_by_cases false true e a n es more f z m = Memᴰ.cases_cons m
put_by_cases false false e a n es more f z m = elim (Memᴰ.cases_cons m) [
  | inl p ↦ inr (Memᴰ.head p)
  | inr k ↦ elim (f z k) [ inl p ↦ inl p | inr j ↦ inr (Memᴰ.tail j) ]
]

pub put_cases : (es : List (ℕ × ℕ)) (a n : ℕ) (z : ℕ × ℕ) → Memᴰ z (put es a n) → (z ≡ (a, n)) ⊎ Memᴰ z es
unfolding put
put_cases [] a n z m = Memᴰ.cases_cons m
put_cases ((b, k) ∷ es) a n z m = put_by_cases (eqb b a) (ltb a b) (b, k) a n es (put es a n) (λ y j. put_cases es a n y j) z m

pub positive_put : (es : List (ℕ × ℕ)) (a n : ℕ) → 0 < n → Positive es → Positive (put es a n)
positive_put es a n h f b m k = elim (put_cases es a n (b, m) k) [
  | inl p ↦
      let e : m ≡ n = ap (λ (z : ℕ × ℕ). z.1) p in
      omega arith
  | inr j ↦ f b m j
]

-- ---- equal clocks

get_head_lem : (a n x : ℕ) (es : List (ℕ × ℕ)) → a ≡ x → get ((a, n) ∷ es) x ≡ n
unfolding get
get_head_lem a n x es e = rw (eq-eqb a x e)

get_tail : (a n x : ℕ) (es : List (ℕ × ℕ)) → (a ≡ x → ⊥) → get ((a, n) ∷ es) x ≡ get es x
unfolding get
get_tail a n x es e = rw (ne_eqb a x e)

get_none : (x : ℕ) → get [] x ≡ 0
unfolding get
get_none x = refl

pub clock_unique : {lo lo' : ℕ} {es fs : List (ℕ × ℕ)} → Rises lo es → Rises lo' fs → Positive es → Positive fs → ((x : ℕ) → get es x ≡ get fs x) → es ≡ fs
clock_unique Rises.none Rises.none p q f = refl
clock_unique Rises.none (Rises.more {a = b} {n = m} {es = fs} h r) p q f =
    absurd (omega (arith, f b, get_none b, get_head_lem b m b fs refl, q b m (Memᴰ.head refl)))
clock_unique (Rises.more {a = a} {n = n} {es = es} h r) Rises.none p q f =
    absurd (omega (arith, f a, get_none a, get_head_lem a n a es refl, p a n (Memᴰ.head refl)))
clock_unique (Rises.more {a = a} {n = n} {es = es} h r) (Rises.more {a = b} {n = m} {es = fs} k t) p q f = elim (tri a b) [
  | below l ↦ absurd (omega (arith, f a, get_head_lem a n a es refl, get_tail b m a fs (omega arith), absent a (omega arith) t, p a n (Memᴰ.head refl)))
  | above l ↦ absurd (omega (arith, f b, get_head_lem b m b fs refl, get_tail a n b es (omega arith), absent b (omega arith) r, q b m (Memᴰ.head refl)))
  | level e ↦
      let number : n ≡ m = sym (get_head_lem a n a es refl) ∙ f a ∙ get_head_lem b m a fs (sym e) in
      let rest : es ≡ fs = clock_unique r t (λ c j o. p c j (Memᴰ.tail o)) (λ c j o. q c j (Memᴰ.tail o)) (λ x. tails e x) in
      λ i. (e i, number i) ∷ rest i
]
  where
    tails : a ≡ b → (x : ℕ) → get es x ≡ get fs x
    tails e x = elim (tri a x) [
      | below l ↦ sym (get_tail a n x es (omega arith)) ∙ f x ∙ get_tail b m x fs (omega arith)
      | level l ↦ absent x (omega arith) r ∙ sym (absent x (omega arith) t)
      | above l ↦ sym (get_tail a n x es (omega arith)) ∙ f x ∙ get_tail b m x fs (omega arith)
    ]

-- ---- an entry of a clock is what it tells of its author

rises_low : {lo : ℕ} {es : List (ℕ × ℕ)} (a n : ℕ) → Rises lo es → Memᴰ (a, n) es → lo ≤ a
rises_low a n Rises.none m = absurd (Memᴰ.not-nil m)
rises_low a n (Rises.more {a = b} {n = k} h r) m = elim (Memᴰ.cases_cons m) [
  | inl e ↦
      let q : a ≡ b = ap (λ (z : ℕ × ℕ). z.0) e in
      omega arith
  | inr j ↦ omega (arith, rises_low a n r j)
]

pub get_member : {lo : ℕ} {es : List (ℕ × ℕ)} (a n : ℕ) → Rises lo es → Memᴰ (a, n) es → get es a ≡ n
get_member a n Rises.none m = absurd (Memᴰ.not-nil m)
get_member a n (Rises.more {a = b} {n = k} {es = es} h r) m = elim (Memᴰ.cases_cons m) [
  | inl e ↦ get_head_lem b k a es (sym (ap (λ (z : ℕ × ℕ). z.0) e)) ∙ sym (ap (λ (z : ℕ × ℕ). z.1) e)
  | inr j ↦ get_tail b k a es (omega (arith, rises_low a n r j)) ∙ get_member a n r j
]

-- Counts of an author's rows, and causal listings in the order of document 01, the first row first.
use Prim.Native.Nat.{ℕ, suc, ◌+◌, ◌≤◌, ◌<◌}
use mathlib.Core.Path.{◌≡◌, refl, sym, ap}
use mathlib.Core.Logic.{◌⊎◌, inl, inr}
use mathlib.Core.List.Memᴰ
use mathlib.Core.List.{List, [], ◌∷◌, ◌++◌, append_assoc, append-nil, Memᴰ}
use native.Mathlib.Omega.{arith}
use lib.Dec.{eqb}
use borrow.Author.Tests.{eq-eqb, ne_eqb, eqb-true, eqb-false}
use Rattle.words.proofs.Words.{test}
use Rattle.row.specs.Rows.{Row}
use Rattle.clock.proofs.LexicographicOrder.{below, level, above, tri}
use Rattle.merging.specs.Offers.{count, ListedAfter, Within}
use Rattle.words.specs.Lists.{count_if}

-- ---- counts

pub count_none : (a : ℕ) → count a [] ≡ 0
unfolding count count_if
count_none a = refl

pub count_same : (a : ℕ) (r : Row) (l : List Row) → r.author ≡ a → count a (r ∷ l) ≡ suc (count a l)
unfolding count count_if
count_same a r l e = rw (eq-eqb r.author a e)

pub count_other : (a : ℕ) (r : Row) (l : List Row) → (r.author ≡ a → ⊥) → count a (r ∷ l) ≡ count a l
unfolding count count_if
count_other a r l e = rw (ne_eqb r.author a e)

pub count_append : (a : ℕ) (l m : List Row) → count a (l ++ m) ≡ count a l + count a m
count_append a [] m = omega (arith, count_none a)
count_append a (r ∷ l) m = elim (test (eqb r.author a)) [
  | inl h ↦
      let e : r.author ≡ a = eqb-true _ _ h in
      omega (arith, count_same a r (l ++ m) e, count_same a r l e, count_append a l m)
  | inr h ↦
      let e : r.author ≡ a → ⊥ = eqb-false _ _ h in
      omega (arith, count_other a r (l ++ m) e, count_other a r l e, count_append a l m)
]

pub count_last : (a : ℕ) (l : List Row) (r : Row) → r.author ≡ a → count a (l ++ (r ∷ [])) ≡ suc (count a l)
count_last a l r e = omega (arith, count_append a l (r ∷ []), count_same a r [] e, count_none a)

pub count_not_last : (a : ℕ) (l : List Row) (r : Row) → (r.author ≡ a → ⊥) → count a (l ++ (r ∷ [])) ≡ count a l
count_not_last a l r e = omega (arith, count_append a l (r ∷ []), count_other a r [] e, count_none a)

-- ---- the last of a list

pub last_old : {A : Type 0} {y : A} (l : List A) (r : A) → Memᴰ y l → Memᴰ y (l ++ (r ∷ []))
last_old l r m = Memᴰ.append_left (r ∷ []) m

pub last_self : {A : Type 0} (l : List A) (r : A) → Memᴰ r (l ++ (r ∷ []))
last_self l r = Memᴰ.append_right l (Memᴰ.head refl)

pub last_cases : {A : Type 0} {y : A} (l : List A) (r : A) → Memᴰ y (l ++ (r ∷ [])) → (y ≡ r) ⊎ Memᴰ y l
last_cases l r m = elim (Memᴰ.append_cases l m) [
  | inl k ↦ inr k
  | inr k ↦ elim (Memᴰ.cases_cons k) [ inl e ↦ inl e | inr j ↦ absurd (Memᴰ.not-nil j) ]
]

-- ---- listings

-- more offers allow the same listings
pub listed_more : {few many before rows : List Row} → Within few many → ListedAfter few before rows → ListedAfter many before rows
listed_more w ListedAfter.none = ListedAfter.none
listed_more w (ListedAfter.more o new e f k) = ListedAfter.more (w _ o) new e f (listed_more w k)

-- a listed row is offered
pub listed_offered : {offers before rows : List Row} → ListedAfter offers before rows → Within rows offers
listed_offered ListedAfter.none y m = absurd (Memᴰ.not-nil m)
listed_offered (ListedAfter.more o new e f k) y m = elim (Memᴰ.cases_cons m) [ inl p ↦ Memᴰ.cast p o | inr j ↦ listed_offered k y j ]

-- one more row at the end
pub listed_last : {offers before rows : List Row} (r : Row) → ListedAfter offers before rows → Memᴰ r offers → (Memᴰ r (before ++ rows) → ⊥)
    → r.seq ≡ suc (count r.author (before ++ rows)) → ((a n : ℕ) → Memᴰ (a, n) r.deps → n ≤ count a (before ++ rows))
    → ListedAfter offers before (rows ++ (r ∷ []))
listed_last {before = before} r ListedAfter.none o new e f =
    let p : before ++ [] ≡ before = append-nil before in
    ListedAfter.more o (rw p at new) (rw p at e) (rw p at f) ListedAfter.none
listed_last {before = before} r (ListedAfter.more {rows = rows} {r = x} o' new' e' f' k) o new e f =
    let p : before ++ (x ∷ rows) ≡ (before ++ (x ∷ [])) ++ rows = sym (append_assoc before (x ∷ []) rows) in
    ListedAfter.more o' new' e' f' (listed_last r k o (rw p at new) (rw p at e) (rw p at f))

-- a listing up to one of its rows
pub listed_until : {offers before rows : List Row} → ListedAfter offers before rows → (r : Row) → Memᴰ r rows
    → (front : List Row) × ListedAfter offers before (front ++ (r ∷ []))
listed_until ListedAfter.none r m = absurd (Memᴰ.not-nil m)
listed_until (ListedAfter.more {r = x} o new e f k) r m = elim (Memᴰ.cases_cons m) [
  | inl p ↦ ([], rw p (ListedAfter.more o new e f ListedAfter.none))
  | inr j ↦
      let (front, t) = listed_until k r j in
      (x ∷ front, ListedAfter.more o new e f t)
]

-- a listed row's number is at least 1 and at most its author's count
pub listed_bound : {offers before rows : List Row} → ListedAfter offers before rows → (y : Row) → Memᴰ y rows
    → (0 < y.seq) × (y.seq ≤ count y.author (before ++ rows))
listed_bound ListedAfter.none y m = absurd (Memᴰ.not-nil m)
listed_bound {before = before} (ListedAfter.more {rows = rows} {r = r} o new e f k) y m = elim (Memᴰ.cases_cons m) [
  | inl p ↦ rw p (omega (arith, count_append r.author before (r ∷ rows), count_same r.author r rows refl))
  | inr j ↦ rw (append_assoc before (r ∷ []) rows) at (listed_bound k y j)
]

-- and there is a row for each number up to the count
pub listed_at : {offers before rows : List Row} → ListedAfter offers before rows → (a n : ℕ) → count a before < n → n ≤ count a (before ++ rows)
    → (y : Row) × Memᴰ y rows × (y.author ≡ a) × (y.seq ≡ n)
listed_at {before = before} ListedAfter.none a n h g = absurd (omega (arith, ap (count a) (append-nil before)))
listed_at {before = before} (ListedAfter.more {rows = rows} {r = r} o new e f k) a n h g = elim (test (eqb r.author a)) [
  | inl t ↦
      let p : r.author ≡ a = eqb-true _ _ t in
      let q : r.seq ≡ suc (count a before) = rw p at e in
      elim (tri n r.seq) [
        | below l ↦ absurd (omega arith)
        | level l ↦ (r, Memᴰ.head refl, p, sym l)
        | above l ↦ down (listed_at k a n (omega (arith, count_last a before r p)) (rw (← (append_assoc before (r ∷ []) rows)) at g))
      ]
  | inr t ↦ down (listed_at k a n (omega (arith, count_not_last a before r (eqb-false _ _ t))) (rw (← (append_assoc before (r ∷ []) rows)) at g))
]
  where
    down : (y : Row) × Memᴰ y rows × (y.author ≡ a) × (y.seq ≡ n) → (y : Row) × Memᴰ y (r ∷ rows) × (y.author ≡ a) × (y.seq ≡ n)
    down t = (t.0, Memᴰ.tail t.1, t.2, t.3)

-- What the first ready row is, and an induction over draining.
use Prim.Native.Nat.{ℕ, zero, suc, ◌+◌, ◌≤◌, ◌<◌}
use mathlib.Core.Path.{◌≡◌, refl, ap}
use mathlib.Core.Logic.{◌⊎◌, inl, inr}
use mathlib.Core.Bool.{Bool, true, false, ◌&&◌}
use mathlib.Core.List.Memᴰ
use mathlib.Core.List.{List, [], ◌∷◌, ◌++◌, Memᴰ}
use native.Mathlib.Omega.{arith}
use lib.Dec.{leb, eqb}
use lib.ListN.{length}
use borrow.Author.Tests.{leb-true, leb-false, le-leb, eqb-true, eqb-false}
use Rattle.words.specs.Choice.{pick}
use Rattle.clock.specs.Entries.{get, observe, dominates}
use Rattle.row.specs.Rows.{Row, HeldRow}
use Rattle.replicated_log.specs.Store.{Store}
use Rattle.replicated_log.specs.Areas.{rows_of}
use Rattle.replicated_log.specs.Insertion.{insert, insert_all}
use Rattle.merging.specs.Merging.{ready, FirstReady, none_ready, first_is, past, first_ready, Admitted, Drained, to_drain, logging, dropping, take_first, drain, settle}
use Rattle.merging.specs.Offers.{Sorted}
use Rattle.merging.specs.Least.{Taken, here, there}
use Rattle.words.proofs.Words.{test}
use Rattle.clock.proofs.LexicographicOrder.{clash}
use Rattle.words.proofs.Conjunction.{and_left, and_right, and_both}
use Rattle.merging.proofs.CausalListings.{last_cases}
use Rattle.merging.proofs.SortedLists.{place}
use Rattle.merging.proofs.RowLists.{rows_last, insert_last}

-- ---- a list without one of its elements

module _ {A : Type 0} where
  pub taken_self : {r : A} {rest l : List A} → Taken r rest l → Memᴰ r l
  taken_self here = Memᴰ.head refl
  taken_self (there t) = Memᴰ.tail (taken_self t)

  pub taken_rest : {r : A} {rest l : List A} → Taken r rest l → (y : A) → Memᴰ y rest → Memᴰ y l
  taken_rest here y m = Memᴰ.tail m
  taken_rest (there t) y m = elim (Memᴰ.cases_cons m) [ inl e ↦ Memᴰ.head e | inr k ↦ Memᴰ.tail (taken_rest t y k) ]

  pub taken_cases : {r : A} {rest l : List A} → Taken r rest l → (y : A) → Memᴰ y l → (y ≡ r) ⊎ Memᴰ y rest
  taken_cases here y m = Memᴰ.cases_cons m
  taken_cases (there t) y m = elim (Memᴰ.cases_cons m) [
    | inl e ↦ inr (Memᴰ.head e)
    | inr k ↦ elim (taken_cases t y k) [ inl e ↦ inl e | inr q ↦ inr (Memᴰ.tail q) ]
  ]

  pub taken_length : {r : A} {rest l : List A} → Taken r rest l → length l ≡ suc (length rest)
  taken_length here = refl
  taken_length (there t) = ap suc (taken_length t)

-- what was put into its place
pub taken_place : {A : Type 0} (stays : A → Bool) (r : A) (l : List A) → Taken r l (place stays r l)
unfolding place
taken_place stays r [] = here
taken_place stays r (x ∷ l) = elim (test (stays x)) [ inl h ↦ rw h (there (taken_place stays r l)) | inr h ↦ rw h here ]

pub taken_rows : {h : HeldRow} {rest hs : List HeldRow} → Taken h rest hs → Taken h.row (rows_of rest) (rows_of hs)
unfolding rows_of
taken_rows here = here
taken_rows (there t) = there (taken_rows t)

module _ (less : Row → Row → Bool) where
  pub taken_sorted : {r : Row} {rest l : List Row} → Taken r rest l → Sorted less l → Sorted less rest
  taken_sorted here (Sorted.more h s) = s
  taken_sorted (there t) (Sorted.more h s) = Sorted.more (λ y m. h y (taken_rest t y m)) (taken_sorted t s)

  pub taken_apart : ((a : Row) → less a a ≡ true → ⊥) → {r : Row} {rest l : List Row} → Taken r rest l → Sorted less l → Memᴰ r rest → ⊥
  taken_apart irrefl {r} here (Sorted.more h s) m = irrefl r (h r m)
  taken_apart irrefl {r} (there t) (Sorted.more h s) m = elim (Memᴰ.cases_cons m) [
    | inl e ↦ irrefl r (rw (← e) at (h r (taken_self t)))
    | inr k ↦ taken_apart irrefl t s k
  ]

-- ---- readiness

deps_yes : (c ds : List (ℕ × ℕ)) → dominates c ds ≡ true → (a n : ℕ) → Memᴰ (a, n) ds → n ≤ get c a
unfolding dominates
deps_yes c [] e a n m = absurd (Memᴰ.not-nil m)
deps_yes c ((b, k) ∷ ds) e a n m = elim (Memᴰ.cases_cons m) [
  | inl p ↦
      let q : a ≡ b = ap (λ (z : ℕ × ℕ). z.0) p in
      let r : n ≡ k = ap (λ (z : ℕ × ℕ). z.1) p in
      rw (q, r) (leb-true k (get c b) (and_left _ _ e))
  | inr j ↦ deps_yes c ds (and_right (leb k (get c b)) _ e) a n j
]

deps_met : (c ds : List (ℕ × ℕ)) → ((a n : ℕ) → Memᴰ (a, n) ds → n ≤ get c a) → dominates c ds ≡ true
unfolding dominates
deps_met c [] f = refl
deps_met c ((b, k) ∷ ds) f = and_both _ _ (le-leb k (get c b) (f b k (Memᴰ.head refl))) (deps_met c ds (λ a n m. f a n (Memᴰ.tail m)))

-- the test of the sequence beside another, as a fact
reach_yes : (a b : ℕ) (t : Bool) → leb a b && t ≡ true → a ≤ b
reach_yes a b t e = leb-true a b (and_left _ _ e)

reach_no : (t : Bool) → t ≡ true → (a b : ℕ) → leb a b && t ≡ false → b < a
reach_no t h a b e = elim (test (leb a b)) [ inl k ↦ absurd (clash (and_both _ _ k h) e) | inr k ↦ leb-false a b k ]

pub ready_seq : (c : List (ℕ × ℕ)) (r : Row) → ready c r ≡ true → r.seq ≤ suc (get c r.author)
unfolding ready
ready_seq c r e = omega (arith, reach_yes)

pub ready_deps : (c : List (ℕ × ℕ)) (r : Row) → ready c r ≡ true → (a n : ℕ) → Memᴰ (a, n) r.deps → n ≤ get c a
unfolding ready
ready_deps c r e = deps_yes c r.deps (search and_right)

pub is_ready : (c : List (ℕ × ℕ)) (r : Row) → r.seq ≤ suc (get c r.author) → ((a n : ℕ) → Memᴰ (a, n) r.deps → n ≤ get c a) → ready c r ≡ true
unfolding ready
is_ready c r h f = elim (test (ready c r)) [ inl t ↦ t | inr t ↦ absurd (omega (arith, reach_no (dominates c r.deps) (deps_met c r.deps f))) ]

-- ---- the first ready row

-- none of these rows is ready
abbrev pub Idle : List (ℕ × ℕ) → List HeldRow → Type 0
Idle c ws = (y : Row) → Memᴰ y (rows_of ws) → ready c y ≡ false

pub data Picked (c : List (ℕ × ℕ)) (ws : List HeldRow) : FirstReady → Type 0 where
  stuck : Idle c ws → Picked c ws none_ready
  took : {h : HeldRow} {rest : List HeldRow} → ready c h.row ≡ true → Taken h rest ws → Picked c ws (first_is h rest)

picked_past : (c : List (ℕ × ℕ)) (k : HeldRow) (ws : List HeldRow) (p : FirstReady) → ready c k.row ≡ false → Picked c ws p → Picked c (k ∷ ws) (past k p)
unfolding past rows_of
picked_past c k ws none_ready e (stuck f) = stuck (λ y m. elim (Memᴰ.cases_cons m) [ inl q ↦ rw q e | inr j ↦ f y j ])
picked_past c k ws (first_is h rest) e (took r t) = took r (there t)

pub picked : (c : List (ℕ × ℕ)) (ws : List HeldRow) → Picked c ws (first_ready c ws)
unfolding first_ready rows_of
picked c [] = stuck (λ y m. absurd (Memᴰ.not-nil m))
picked c (k ∷ ws) =
    (elim (ready c k.row) as (λ b. ready c k.row ≡ b → Picked c (k ∷ ws) (pick b (first_is k ws) (past k (first_ready c ws)))) [
      | true ↦ λ e. took e here
      | false ↦ λ e. picked_past c k ws (first_ready c ws) e (picked c ws)
    ]) refl

-- ---- draining

-- a fact about clock, waiting rows, logged rows and dropped count, as one about where draining stands
abbrev pub At : (List (ℕ × ℕ) → List HeldRow → List HeldRow → ℕ → Type 0) → Drained → Type 0
At P d = P d.clock d.waiting d.logged d.dropped

-- what holds all along holds at the end, where nothing is ready
abbrev pub EndsIn : (List (ℕ × ℕ) → List HeldRow → List HeldRow → ℕ → Type 0) → Drained → Type 0
EndsIn P d = At P d × Idle d.clock d.waiting

-- where nothing is ready, more steps change nothing
pub drain_stuck : (n : ℕ) (d : Drained) → first_ready d.clock d.waiting ≡ none_ready → drain n d ≡ d
unfolding drain take_first
drain_stuck zero d e = refl
drain_stuck (suc n) d e = rw e (drain_stuck n d e)

-- a step leaves what stands beside the first ready row
pub rest_waits : (d : Drained) (h : HeldRow) (rest : List HeldRow) → (take_first (first_is h rest) d).waiting ≡ rest
unfolding take_first
rest_waits d h rest =
    elim (eqb h.row.seq (suc (get d.clock h.row.author))) as (λ b. (pick b (logging h rest d) (dropping rest d)).waiting ≡ rest) [
      | true ↦ refl
      | false ↦ refl
    ]

module _ (P : List (ℕ × ℕ) → List HeldRow → List HeldRow → ℕ → Type 0)
    (logs : (c : List (ℕ × ℕ)) (w l : List HeldRow) (d : ℕ) (h : HeldRow) (rest : List HeldRow) → ready c h.row ≡ true → Taken h rest w
    → h.row.seq ≡ suc (get c h.row.author) → P c w l d → P (observe c h.row.author h.row.seq) rest (l ++ (h ∷ [])) d)
    (drops : (c : List (ℕ × ℕ)) (w l : List HeldRow) (d : ℕ) (h : HeldRow) (rest : List HeldRow) → ready c h.row ≡ true → Taken h rest w
    → (h.row.seq ≡ suc (get c h.row.author) → ⊥) → P c w l d → P c rest l (d + 1)) where
  -- one step keeps it
  step_keeps : (d : Drained) → At P d → (p : FirstReady) → Picked d.clock d.waiting p → At P (take_first p d)
  unfolding take_first
  step_keeps d h none_ready (stuck f) = h
  step_keeps d h (first_is k rest) (took e t) =
      (elim (eqb k.row.seq (suc (get d.clock k.row.author))) as
      (λ b. eqb k.row.seq (suc (get d.clock k.row.author)) ≡ b → At P (pick b (logging k rest d) (dropping rest d))) [
        | true ↦ λ q. logs d.clock d.waiting d.logged d.dropped k rest e t (eqb-true _ _ q) h
        | false ↦ λ q. drops d.clock d.waiting d.logged d.dropped k rest e t (eqb-false _ _ q) h
      ]) refl

  none_left : (c : List (ℕ × ℕ)) (w : List HeldRow) → length w ≤ 0 → Idle c w
  unfolding rows_of
  none_left c [] h y m = absurd (Memᴰ.not-nil m)
  none_left c (x ∷ w) h y m = absurd (omega arith)

  go_on : (n : ℕ) → ((d : Drained) → length d.waiting ≤ n → At P d → EndsIn P (drain n d)) → (d : Drained) → length d.waiting ≤ suc n → At P d
      → (p : FirstReady) → first_ready d.clock d.waiting ≡ p → Picked d.clock d.waiting p → EndsIn P (drain n (take_first p d))
  unfolding take_first
  go_on n ih d len h none_ready e (stuck f) = rw (drain_stuck n d e) (h, f)
  go_on n ih d len h (first_is k rest) e (took r t) =
      ih (take_first (first_is k rest) d) (rw (rest_waits d k rest) (omega (arith, taken_length t))) (step_keeps d h (first_is k rest) (took r t))

  pub drained : (n : ℕ) (d : Drained) → length d.waiting ≤ n → At P d → EndsIn P (drain n d)
  unfolding drain
  drained zero d len h = (h, none_left d.clock d.waiting len)
  drained (suc n) d len h =
      go_on n (λ d l h. drained n d l h) d len h (first_ready d.clock d.waiting) refl (picked d.clock d.waiting)

  -- the fuel of `settle` is enough
  pub settled : (s : Store) (a : Admitted) → P s.clock a.working [] 0 → EndsIn P (settle s a)
  unfolding settle
  settled s a h = drained _ (to_drain s a) (omega arith) h

-- what holds of each working row holds of each that waits on or is logged
pub settle_every : (Q : HeldRow → Type 0) (s : Store) (a : Admitted) → ((h : HeldRow) → Memᴰ h a.working → Q h)
    → ((h : HeldRow) → Memᴰ h (settle s a).waiting → Q h) × ((h : HeldRow) → Memᴰ h (settle s a).logged → Q h)
settle_every Q s a f =
    (settled (λ c w l d. ((h : HeldRow) → Memᴰ h w → Q h) × ((h : HeldRow) → Memᴰ h l → Q h))
    (λ c w l d k rest e t q p. (λ h m. p.0 h (taken_rest t h m), λ h m. elim (last_cases l k m) [ inl x ↦ rw x (p.0 k (taken_self t)) | inr y ↦ p.1 h y ]))
    (λ c w l d k rest e t q p. (λ h m. p.0 h (taken_rest t h m), p.1))
    s a (f, λ h m. absurd (Memᴰ.not-nil m))).0

-- what inserting an author's next row keeps holds of the store with the logged rows inserted, and its clock is the one that draining ends with
pub settled_store : (Q : Store → Type 0) → ((s : Store) (r : Row) → r.seq ≡ suc (get s.clock r.author) → Q s → Q (insert s r)) → (s : Store) (a : Admitted) → Q s
    → ((insert_all s (rows_of (settle s a).logged)).clock ≡ (settle s a).clock) × Q (insert_all s (rows_of (settle s a).logged))
unfolding insert insert_all rows_of
settled_store Q keeps s a h =
    (settled (λ c w l n. ((insert_all s (rows_of l)).clock ≡ c) × Q (insert_all s (rows_of l)))
    (λ c w l n k rest rd t e p.
    let rows = rows_last l k in
    let last = insert_last s (rows_of l) k.row in (
      rw (rows, last) (ap (λ (x : List (ℕ × ℕ)). observe x k.row.author k.row.seq) p.0),
      rw (rows, last) (keeps (insert_all s (rows_of l)) k.row (rw p.0 e) p.1),
    ))
    (λ c w l n k rest rd t e p. p)
    s a (refl, h)).0

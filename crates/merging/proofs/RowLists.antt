-- Rows of held rows, rows put in their places, rows inserted one after the other.
use Prim.Native.Nat.{ℕ, ◌+◌, ◌≤◌}
use mathlib.Core.Path.{◌≡◌, refl, ap}
use mathlib.Core.Logic.{◌⊎◌, inl, inr}
use mathlib.Core.Bool.{Bool, true, false, not}
use mathlib.Core.List.Memᴰ
use mathlib.Core.List.{List, [], ◌∷◌, ◌++◌, map, Memᴰ}
use native.Mathlib.Omega.{arith}
use lib.ListN.{length}
use borrow.Author.Tests.{leb-false}
use Rattle.words.specs.Choice.{pick}
use Rattle.words.proofs.Words.{test}
use Rattle.clock.specs.Order.{stamp_less}
use Rattle.row.specs.Rows.{Row, HeldRow, work_less}
use Rattle.replicated_log.specs.Store.{Store}
use Rattle.replicated_log.specs.Areas.{rows_of}
use Rattle.replicated_log.proofs.Store.Rules.{length_rows}
use Rattle.merging.specs.Batch.{Limits}
use Rattle.merging.specs.Merging.{unexpired, enter, in_time, payload_bytes, authors, quotas}
use Rattle.merging.specs.Offers.{Sorted, Within}
use Rattle.merging.proofs.SortedLists.{place}
use Rattle.replicated_log.specs.Insertion.{insert_row, insert, insert_all}

-- ---- the rows of held rows

pub rows_mem : {h : HeldRow} (hs : List HeldRow) → Memᴰ h hs → Memᴰ h.row (rows_of hs)
unfolding rows_of
rows_mem [] m = absurd (Memᴰ.not-nil m)
rows_mem (k ∷ hs) m = elim (Memᴰ.cases_cons m) [ inl e ↦ Memᴰ.head (ap (λ (h : HeldRow). h.row) e) | inr j ↦ Memᴰ.tail (rows_mem hs j) ]

pub rows_last : (hs : List HeldRow) (h : HeldRow) → rows_of (hs ++ (h ∷ [])) ≡ rows_of hs ++ (h.row ∷ [])
unfolding rows_of
rows_last [] h = refl
rows_last (k ∷ hs) h = ap (λ (l : List Row). k.row ∷ l) (rows_last hs h)

-- a fact about each held row, as a fact about each of their rows
pub rows_every : (P : Row → Type 0) (hs : List HeldRow) → ((h : HeldRow) → Memᴰ h hs → P h.row) → (r : Row) → Memᴰ r (rows_of hs) → P r
unfolding rows_of
rows_every P [] f r m = absurd (Memᴰ.not-nil m)
rows_every P (k ∷ hs) f r m = elim (Memᴰ.cases_cons m) [
  | inl e ↦ rw e (f k (Memᴰ.head refl))
  | inr j ↦ rows_every P hs (λ h n. f h (Memᴰ.tail n)) r j
]

-- ---- entering and inserting are putting in place

-- the rows that stay before a working row
abbrev pub goes_before : Row → Row → Bool
goes_before r x = not (work_less r x)

pub enter_place : (h : HeldRow) (hs : List HeldRow) → enter h hs ≡ place (λ (k : HeldRow). goes_before h.row k.row) h hs
unfolding enter place
enter_place h [] = refl
enter_place h (k ∷ hs) =
    elim (work_less h.row k.row) as (λ b. pick b (h ∷ k ∷ hs) (k ∷ (enter h hs)) ≡ pick (not b) (k ∷ place (λ (j : HeldRow). goes_before h.row j.row) h hs) (h ∷ k ∷ hs)) [
      | true ↦ refl
      | false ↦ ap (λ (l : List HeldRow). k ∷ l) (enter_place h hs)
    ]

rows_place : (stays : Row → Bool) (h : HeldRow) (hs : List HeldRow) → rows_of (place (λ (k : HeldRow). stays k.row) h hs) ≡ place stays h.row (rows_of hs)
unfolding place rows_of
rows_place stays h [] = refl
rows_place stays h (k ∷ hs) = elim (test (stays k.row)) [
  | inl e ↦ rw e (ap (λ (l : List Row). k.row ∷ l) (rows_place stays h hs))
  | inr e ↦ rw e
]

pub enter_rows : (h : HeldRow) (hs : List HeldRow) → rows_of (enter h hs) ≡ place (goes_before h.row) h.row (rows_of hs)
enter_rows h hs = rw (enter_place h hs) (rows_place (goes_before h.row) h hs)

-- the logged rows that stay before a new one
abbrev pub older : Row → Row → Bool
older r x = stamp_less x.stamp r.stamp

pub insert_place : (r : Row) (l : List Row) → insert_row r l ≡ place (older r) r l
unfolding insert_row place
insert_place r [] = refl
insert_place r (x ∷ l) = elim (test (stamp_less x.stamp r.stamp)) [
  | inl e ↦ rw e (ap (λ (m : List Row). x ∷ m) (insert_place r l))
  | inr e ↦ rw e
]

pub insert_last : (s : Store) (rows : List Row) (r : Row) → insert_all s (rows ++ (r ∷ [])) ≡ insert (insert_all s rows) r
unfolding insert_all
insert_last s [] r = refl
insert_last s (x ∷ rows) r = insert_last (insert s x) rows r

-- ---- expiring

expire_cases : (b : Bool) (k : HeldRow) (hs : List HeldRow) (h : HeldRow) → Memᴰ h (pick b (k ∷ hs) hs) → (h ≡ k) ⊎ Memᴰ h hs
expire_cases true k hs h m = Memᴰ.cases_cons m
expire_cases false k hs h m = inr m

pub unexpired_old : (cutoff : ℕ) (hs : List HeldRow) (h : HeldRow) → Memᴰ h (unexpired cutoff hs) → Memᴰ h hs
unfolding unexpired
unexpired_old cutoff [] h m = m
unexpired_old cutoff (k ∷ hs) h m = elim (expire_cases (in_time cutoff k) k (unexpired cutoff hs) h m) [
  | inl e ↦ Memᴰ.head e
  | inr j ↦ Memᴰ.tail (unexpired_old cutoff hs h j)
]

expire_not : (b : Bool) (k : HeldRow) (hs : List HeldRow) → (b ≡ false → ⊥) → pick b (k ∷ hs) hs ≡ k ∷ hs
expire_not true k hs f = refl
expire_not false k hs f = absurd (f refl)

-- nothing expires that arrived late enough
pub unexpired_all : (cutoff : ℕ) (hs : List HeldRow) → ((h : HeldRow) → Memᴰ h hs → cutoff ≤ h.arrival) → unexpired cutoff hs ≡ hs
unfolding unexpired in_time
unexpired_all cutoff [] f = refl
unexpired_all cutoff (k ∷ hs) f =
    let late : cutoff ≤ k.arrival = f k (Memᴰ.head refl) in
    rw (unexpired_all cutoff hs (λ h m. f h (Memᴰ.tail m))) (expire_not (in_time cutoff k) k hs (λ e. omega (arith, leb-false)))

pub unexpired_rows : (cutoff : ℕ) (hs : List HeldRow) → Within (rows_of (unexpired cutoff hs)) (rows_of hs)
unexpired_rows cutoff hs = rows_every (λ y. Memᴰ y (rows_of hs)) (unexpired cutoff hs) (λ k m. rows_mem hs (unexpired_old cutoff hs k m))

-- what is in order stays so
expire_sorted : (less : Row → Row → Bool) (b : Bool) (k : HeldRow) (hs : List HeldRow) → Sorted less (k.row ∷ rows_of hs) → Sorted less (rows_of (pick b (k ∷ hs) hs))
unfolding rows_of
expire_sorted less true k hs s = s
expire_sorted less false k hs (Sorted.more f s) = s

pub sorted_unexpired : (less : Row → Row → Bool) (cutoff : ℕ) (hs : List HeldRow) → Sorted less (rows_of hs) → Sorted less (rows_of (unexpired cutoff hs))
unfolding unexpired rows_of
sorted_unexpired less cutoff [] s = s
sorted_unexpired less cutoff (h ∷ hs) (Sorted.more f s) =
    expire_sorted less (in_time cutoff h) h (unexpired cutoff hs) (Sorted.more {r = h.row} {rows = rows_of (unexpired cutoff hs)} (λ y m. f y (unexpired_rows cutoff hs y m)) (sorted_unexpired less cutoff hs s))

-- ---- quotas look at the rows alone

held_authors : (hs : List HeldRow) → authors hs ≡ map (λ r. r.author) (rows_of hs)
unfolding authors rows_of
held_authors [] = refl
held_authors (h ∷ hs) = ap (λ (l : List ℕ). h.row.author ∷ l) (held_authors hs)

unfoldable pub row_bytes : List Row → ℕ
row_bytes [] = 0
row_bytes (r ∷ rows) = length r.payload + row_bytes rows

held_bytes : (hs : List HeldRow) → payload_bytes hs ≡ row_bytes (rows_of hs)
unfolding payload_bytes rows_of row_bytes
held_bytes [] = refl
held_bytes (h ∷ hs) = ap (λ (n : ℕ). length h.row.payload + n) (held_bytes hs)

pub same_quotas : (l : Limits) (hs ks : List HeldRow) → rows_of hs ≡ rows_of ks → quotas l hs ≡ quotas l ks
unfolding quotas
same_quotas l hs ks e = rw (← (length_rows hs), ← (length_rows ks), held_bytes hs, held_bytes ks, held_authors hs, held_authors ks, e)

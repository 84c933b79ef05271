-- What the delta's positions and the chunks are, for every log, clock and limit.
use Prim.Native.Nat.{ℕ, zero, suc, ◌+◌, ◌≤◌, ◌<◌}
use mathlib.Core.Path.{◌≡◌, refl, sym, ◌∙◌, ap}
use mathlib.Core.Bool.{true, false}
use mathlib.Core.Logic.{◌⊎◌, inl, inr}
use mathlib.Core.List.{List, [], ◌∷◌, ◌++◌, append_assoc}
use native.Mathlib.Omega.{arith}
use lib.Dec.{eqb, ltb}
use lib.ListN.{length, length-append}
use borrow.Author.Tests.{eqb-true, eqb-false, ltb-true, ltb-false}
use Rattle.std.proofs.lemmas.Bool.{cases_Bool}
use Rattle.row.specs.Rows.{Row}
use Rattle.sync.specs.Delta.{delta, delta_rows, row_size, at_least_one, chunks, chunk_ops}
use Rattle.sync.specs.Inside.DeltaSteps.{starts_next}
use Rattle.sync.proofs.DeltaLoops.{next_some, chunks_next, chunks_same, chunks_none, chunks_last}
use Rattle.replicated_log.specs.Calls.{unseen}
use Rattle.sync.specs.Chunks.{Rising, DeltaRising, sizes, total, Chunked, ChunksAre, ChunksTotal, none, more, no_chunks, next_chunk}

rising_from : {lo hi : ℕ} {ps : List ℕ} (m : ℕ) → m ≤ lo → Rising lo hi ps → Rising m hi ps
rising_from m h none = none
rising_from m h (more {p} a b r) = more {lo = m} {p = p} (omega arith) b r

rising_delta : (peer : List (ℕ × ℕ)) (i hi : ℕ) (rows : List Row) → i + length rows ≤ hi → Rising i hi (delta peer i rows)
unfolding delta
rising_delta peer i hi [] h = none
rising_delta peer i hi (r ∷ rs) h =
    let g : Rising (i + 1) hi (delta peer (i + 1) rs) = rising_delta peer (i + 1) hi rs (omega arith) in
    elim (cases_Bool (unseen peer r)) [ inl e ↦ rw e (more {lo = i} {hi = hi} {p = i} (omega arith) (omega arith) g) | inr e ↦ rw e (rising_from i (omega arith) g) ]

-- the positions strictly rise, and each is a logged row's
pub delta_rising : DeltaRising
delta_rising peer rows = rising_delta peer 0 (length rows) rows (omega arith)

-- there is one for each row of the delta
pub delta_length_lem : (peer : List (ℕ × ℕ)) (i : ℕ) (rows : List Row) → length (delta peer i rows) ≡ length (delta_rows peer rows)
unfolding delta delta_rows
delta_length_lem peer i [] = refl
delta_length_lem peer i (r ∷ rs) = elim (cases_Bool (unseen peer r)) [ inl e ↦ rw e (ap suc (delta_length_lem peer (i + 1) rs)) | inr e ↦ rw e (delta_length_lem peer (i + 1) rs) ]

pub sizes_append : (x y : List Row) → sizes (x ++ y) ≡ sizes x + sizes y
unfolding sizes
sizes_append [] y = omega arith
sizes_append (r ∷ x) y = omega (arith, sizes_append x y)

pub sizes_one : (r : Row) → sizes (r ∷ []) ≡ row_size r
unfolding sizes
sizes_one r = omega arith

nothing : (l : List Row) → length l ≡ 0 → l ≡ []
nothing [] e = refl
nothing (r ∷ l) e = absurd (omega arith)

-- what a row that stays in the current chunk keeps
stays : (most bytes n size : ℕ) → starts_next most bytes n size ≡ false → (n ≡ 0) ⊎ ((n ≡ most → ⊥) × (size ≤ bytes))
unfolding starts_next
stays most bytes n size e = elim (cases_Bool (eqb n 0)) [
  | inl a ↦ inl (eqb-true n 0 a)
  | inr a ↦ elim (cases_Bool (eqb n most)) [
    | inl b ↦ absurd (let z : false ≡ true = sym e ∙ rw (a, b) in let y : ◌≡◌ {A = ℕ} 0 1 = cc in omega arith)
    | inr b ↦ inr (eqb-false n most b, ltb-false bytes size (rw (a, b) at e))
  ]
]

pos : (n : ℕ) → (n ≡ 0 → ⊥) → 0 < n
pos zero z = absurd (z refl)
pos (suc n) z = omega arith

module _ (most bytes : ℕ) (o : 0 < most) where
  -- `now` are the current chunk's rows
  chunked : (n size : ℕ) (rows now : List Row) → length now ≡ n → sizes now ≡ size → n ≤ most → (n ≤ 1) ⊎ (size ≤ bytes)
      → Chunked most bytes (chunks most bytes n size rows) (now ++ rows)
  chunked n size [] now l s h k = elim (cases_Bool (eqb n 0)) [
    | inl e ↦
        let z : n ≡ 0 = eqb-true n 0 e in
        rw (chunks_none most bytes n size z, nothing now (l ∙ z)) no_chunks
    | inr e ↦
        let z : n ≡ 0 → ⊥ = eqb-false n 0 e in
        let p : 0 < n = pos n z in
        rw (chunks_last most bytes n size z) (next_chunk now [] refl l p h (fits n size k s p) no_chunks)
  ]
    where
      fits : (n size : ℕ) → (n ≤ 1) ⊎ (size ≤ bytes) → sizes now ≡ size → 0 < n → (n ≡ 1) ⊎ (sizes now ≤ bytes)
      fits n size (inl a) s p = inl (omega arith)
      fits n size (inr a) s p = inr (omega arith)
  chunked n size (r ∷ rs) now l s h k = elim (cases_Bool (starts_next most bytes n (size + row_size r))) [
    | inl e ↦
        let p : 0 < n = next_some most bytes n (size + row_size r) (sym e) in
        rw (chunks_next most bytes n size r rs (sym e))
        (next_chunk now (r ∷ rs) refl l p h (fits k p) (chunked 1 (row_size r) rs (r ∷ []) refl (sizes_one r) o (inl (omega arith))))
    | inr e ↦
        let q : (now ++ (r ∷ [])) ++ rs ≡ now ++ (r ∷ rs) = append_assoc now (r ∷ []) rs in
        let m : length (now ++ (r ∷ [])) ≡ n + 1 = simp length-append (omega arith) in
        let t : sizes (now ++ (r ∷ [])) ≡ size + row_size r = omega (arith, sizes_append now (r ∷ []), sizes_one r) in
        rw (chunks_same most bytes n size r rs (sym e), ← q)
        (elim (stays most bytes n (size + row_size r) e) [
          | inl z ↦ chunked (n + 1) (size + row_size r) rs (now ++ (r ∷ [])) m t (omega arith) (inl (omega arith))
          | inr z ↦ chunked (n + 1) (size + row_size r) rs (now ++ (r ∷ [])) m t (below z.0) (inr z.1)
        ])
  ]
    where
      fits : (n ≤ 1) ⊎ (size ≤ bytes) → 0 < n → (n ≡ 1) ⊎ (sizes now ≤ bytes)
      fits (inl a) p = inl (omega arith)
      fits (inr a) p = inr (omega arith)

      below : (n ≡ most → ⊥) → n + 1 ≤ most
      below z = elim (cases_Bool (ltb n most)) [ inl a ↦ omega (arith, ltb-true n most a) | inr a ↦ absurd (z (omega (arith, ltb-false n most a))) ]

one_most : (n : ℕ) → 0 < at_least_one n
unfolding at_least_one
one_most n = elim (cases_Bool (eqb n 0)) [ inl e ↦ rw e (omega arith) | inr e ↦ rw e (pos n (eqb-false n 0 e)) ]

-- what chunk_ops gives is such a cut
pub chunks_are : ChunksAre
unfolding chunk_ops sizes
chunks_are rows per_chunk bytes = chunked (at_least_one per_chunk) bytes (one_most per_chunk) 0 0 rows [] refl refl (omega arith) (inl (omega arith))

total_of : {most bytes : ℕ} {ns : List ℕ} {rows : List Row} → Chunked most bytes ns rows → total ns ≡ length rows
unfolding total
total_of no_chunks = refl
total_of (next_chunk chunk rest e l p h k c) = rw e (simp length-append (omega (arith, total_of c)))

-- every row of the delta is in one chunk
pub chunks_total : ChunksTotal
chunks_total peer rows per_chunk bytes = total_of (chunks_are (delta_rows peer rows) per_chunk bytes)

-- The columns of the scratch area, and references that are there.
use Prim.Native.Nat.{ℕ, zero, suc, ◌+◌, ◌-◌, ◌*◌, ◌≤◌, ◌<◌}
use mathlib.Core.Path.{◌≡◌, refl, sym, ◌∙◌, ap}
use mathlib.Core.Logic.{inl, inr}
use mathlib.Core.Bool.{Bool, true, false}
use mathlib.Core.List.{List, [], ◌∷◌, ◌++◌, append_assoc, append-nil}
use native.Mathlib.Omega.{arith}
use native.Mathlib.Nat.{add-zero}
use native.Mathlib.Numerals.{add-one}
use lib.ListN.{length, get_or}
use Rattle.words.specs.Be.{get64, column}
use Rattle.words.specs.Choice.{pick}
use Rattle.words.proofs.Words.{lt_or_le}
use Rattle.working.specs.Inside.References.{ref_ok, refs_ok}
use Rattle.working.specs.Inside.Columns.{Written, without, ins_at, TakenOut, Pushed, PutIn}

pub length_cells : (s : List ℕ) (at n : ℕ) → length (column s at n) ≡ n
unfolding column
length_cells s at zero = refl
length_cells s at (suc n) = ap suc (length_cells s (at + 16) n)

pub cells_keep : (s t : List ℕ) (at n : ℕ) → ((i : ℕ) → i < n → get64 t (at + 16 * i) ≡ get64 s (at + 16 * i)) → column t at n ≡ column s at n
unfolding column
cells_keep s t at zero f = refl
cells_keep s t at (suc n) f =
    let e : get64 t at ≡ get64 s at = rw (add-zero at) at (f 0 (omega arith)) in
    rw (
      e,
      cells_keep s t (at + 16) n (λ i h.
          let q : at + 16 * suc i ≡ at + 16 + 16 * i = omega arith in
          rw q at (f (suc i) (omega arith))),
    )

cells_suc : (s : List ℕ) (at n : ℕ) → column s at (suc n) ≡ column s at n ++ (get64 s (at + 16 * n) ∷ [])
unfolding column
cells_suc s at zero = rw (add-zero at)
cells_suc s at (suc n) =
    let q : at + 16 * suc n ≡ at + 16 + 16 * n = omega arith in
    rw q (ap (λ (l : List ℕ). get64 s at ∷ l) (cells_suc s (at + 16) n))

pub cells_more : (s : List ℕ) (at n : ℕ) → column s at (n + 1) ≡ column s at n ++ (get64 s (at + 16 * n) ∷ [])
cells_more s at n = rw add-one (cells_suc s at n)

-- the first of those from entry i up to entry n
pub cells_next : (s : List ℕ) (i n : ℕ) → i < n → column s (16 * i) (n - i) ≡ get64 s (16 * i) ∷ column s (16 * (i + 1)) (n - (i + 1))
unfolding column
cells_next s i n h =
    let e : n - i ≡ suc (n - (i + 1)) = omega arith in
    let f : 16 * (i + 1) ≡ 16 * i + 16 = omega arith in
    rw (e, f)

pub cells_at : (s : List ℕ) (at n i : ℕ) → i < n → get_or (column s at n) i 0 ≡ get64 s (at + 16 * i)
unfolding column
cells_at s at zero i h = absurd (omega arith)
cells_at s at (suc n) zero h = rw (add-zero at)
cells_at s at (suc n) (suc i) h =
    let q : at + 16 * suc i ≡ at + 16 + 16 * i = omega arith in
    rw q (cells_at s (at + 16) n i (omega arith))

-- taking an entry out: what stands below i, and what is still to move
abbrev pub Moving : List ℕ → List ℕ → ℕ → ℕ → ℕ → Type 0
Moving s₀ s n j i = column s 0 i ++ column s (16 * (i + 1)) (n - (i + 1)) ≡ without j (column s₀ 0 n)

without_cells : (s : List ℕ) (at n j : ℕ) → j < n → column s at j ++ column s (at + 16 * j + 16) (n - (j + 1)) ≡ without j (column s at n)
unfolding column without
without_cells s at zero j h = absurd (omega arith)
without_cells s at (suc n) zero h =
    let e : suc n - (0 + 1) ≡ n = omega arith in
    rw (add-zero at, e)
without_cells s at (suc n) (suc j) h =
    let e : suc n - (suc j + 1) ≡ n - (j + 1) = omega arith in
    let f : at + 16 * suc j + 16 ≡ at + 16 + 16 * j + 16 = omega arith in
    rw (e, f) (ap (λ (l : List ℕ). get64 s at ∷ l) (without_cells s (at + 16) n j (omega arith)))

pub move_start : (s : List ℕ) (n j : ℕ) → j < n → Moving s s n j j
move_start s n j h =
    let e : 16 * (j + 1) ≡ 0 + 16 * j + 16 = omega arith in
    rw e (without_cells s 0 n j h)

pub move_turn : (s₀ s t : List ℕ) (n j i k : ℕ) → i + 1 < n → k ≡ get64 s (16 * i + 16) → Written s t (16 * i) k → Moving s₀ s n j i → Moving s₀ t n j (i + 1)
move_turn s₀ s t n j i k h e w m =
    let a : column t 0 i ≡ column s 0 i = cells_keep s t 0 i (λ x l. w.else (0 + 16 * x) (inl (omega arith))) in
    let b : column t (16 * (i + 1 + 1)) (n - (i + 1 + 1)) ≡ column s (16 * (i + 1 + 1)) (n - (i + 1 + 1)) =
    cells_keep s t (16 * (i + 1 + 1)) _ (λ x l. w.else (16 * (i + 1 + 1) + 16 * x) (inr (omega arith))) in
    let f : get64 t (0 + 16 * i) ≡ get64 s (16 * (i + 1)) = ap (get64 t) (omega arith) ∙ w.here ∙ e ∙ ap (get64 s) (omega arith) in
    rw (cells_more t 0 i, a, b, f, append_assoc (column s 0 i), ← cells_next s (i + 1) n h) m

pub move_end : (s₀ s : List ℕ) (n j i : ℕ) → i + 1 ≡ n → Moving s₀ s n j i → column s 0 (n - 1) ≡ without j (column s₀ 0 n)
unfolding column
move_end s₀ s n j i h m =
    let e : n - (i + 1) ≡ 0 = omega arith in
    let f : n - 1 ≡ i = omega arith in
    rw f (sym (append-nil (column s 0 i)) ∙ rw e at m)

-- the other column
abbrev pub Same8 : List ℕ → List ℕ → Type 0
Same8 s t = (i : ℕ) → get64 t (8 + 16 * i) ≡ get64 s (8 + 16 * i)

pub same_turn : (s₀ s t : List ℕ) (i k : ℕ) → Written s t (16 * i) k → Same8 s₀ s → Same8 s₀ t
same_turn s₀ s t i k w m x = elim (lt_or_le x i) [
  | inl h ↦ w.else (8 + 16 * x) (inl (omega arith)) ∙ m x
  | inr h ↦ w.else (8 + 16 * x) (inr (omega arith)) ∙ m x
]

pub taken_out : (s₀ s : List ℕ) (n j i : ℕ) → i + 1 ≡ n → Moving s₀ s n j i → Same8 s₀ s → TakenOut s₀ s n j
taken_out s₀ s n j i h m l = record { working = move_end s₀ s n j i h m; logged = λ x. cells_keep s₀ s 8 x (λ i h. l i) }

pub pushed : (s t : List ℕ) (m k at : ℕ) → at ≡ 16 * m + 8 → Written s t at k → Pushed s t m k
pushed s t m k at e w = record {
  logged =
      let a : column t 8 m ≡ column s 8 m = cells_keep s t 8 m (λ x l. w.else (8 + 16 * x) (inl (omega arith))) in
      let f : get64 t (8 + 16 * m) ≡ k = ap (get64 t) (omega arith) ∙ w.here in
      rw (cells_more t 8 m, a, f);
  working = λ n. cells_keep s t 0 n (λ x l. elim (lt_or_le m x) [
    | inl h ↦ w.else (0 + 16 * x) (inr (omega arith))
    | inr h ↦ w.else (0 + 16 * x) (inl (omega arith))
  ]);
}

-- a reference put in among the working ones
-- what stands below the gap at j, and what moved up past it, are what stood there
unfoldable pub Gap : List ℕ → List ℕ → ℕ → ℕ → Type 0
Gap s₀ s n j = column s 0 j ++ column s (16 * (j + 1)) (n - j) ≡ column s₀ 0 n

pub gap_start : (s : List ℕ) (n : ℕ) → Gap s s n n
unfolding Gap column
gap_start s n =
    let e : n - n ≡ 0 = omega arith in
    rw e (append-nil (column s 0 n))

split : (s : List ℕ) (at i m : ℕ) → column s at (i + m) ≡ column s at i ++ column s (at + 16 * i) m
unfolding column
split s at zero m =
    let e : 0 + m ≡ m = omega arith in
    rw (add-zero at, e)
split s at (suc i) m =
    let e : suc i + m ≡ suc (i + m) = omega arith in
    let f : at + 16 * suc i ≡ at + 16 + 16 * i = omega arith in
    rw (e, f) (ap (λ (l : List ℕ). get64 s at ∷ l) (split s (at + 16) i m))

pub gap_turn : (s₀ s t : List ℕ) (n j x : ℕ) → 0 < j → j ≤ n → x ≡ get64 s (16 * (j - 1)) → Written s t (16 * (j - 1) + 16) x → Gap s₀ s n j → Gap s₀ t n (j - 1)
unfolding Gap
gap_turn s₀ s t n j x h k e w g =
    let a : column t 0 (j - 1) ≡ column s 0 (j - 1) = cells_keep s t 0 (j - 1) (λ y l. w.else (0 + 16 * y) (inl (omega arith))) in
    let b : column t (16 * (j + 1)) (n - j) ≡ column s (16 * (j + 1)) (n - j) = cells_keep s t (16 * (j + 1)) _ (λ y l. w.else (16 * (j + 1) + 16 * y) (inr (omega arith))) in
    let c : get64 t (16 * j) ≡ get64 s (0 + 16 * (j - 1)) = ap (get64 t) (omega arith) ∙ w.here ∙ e ∙ ap (get64 s) (omega arith) in
    let d : 16 * (j - 1 + 1) ≡ 16 * j = omega arith in
    let f : n - (j - 1) ≡ n + 1 - j = omega arith in
    let m : n + 1 - (j + 1) ≡ n - j = omega arith in
    let o : j ≡ j - 1 + 1 = omega arith in
    let q : column s 0 j ≡ column s 0 (j - 1) ++ (get64 s (0 + 16 * (j - 1)) ∷ []) = ap (column s 0) o ∙ cells_more s 0 (j - 1) in
    rw (d, f, cells_next t j (n + 1) (omega arith), m, a, b, c) (sym (append_assoc (column s 0 (j - 1)) (get64 s (0 + 16 * (j - 1)) ∷ []) _) ∙ rw (← q) g)

ins_append : (x y : List ℕ) (i k : ℕ) → length x ≡ i → ins_at i k (x ++ y) ≡ x ++ (k ∷ y)
unfolding ins_at
ins_append [] y zero k h = refl
ins_append [] y (suc i) k h = absurd (omega arith)
ins_append (a ∷ x) y zero k h = absurd (omega arith)
ins_append (a ∷ x) y (suc i) k h = ap (λ (l : List ℕ). a ∷ l) (ins_append x y i k (omega arith))

pub put_in : (s₀ s t : List ℕ) (n i j k : ℕ) → j ≡ i → i ≤ n → Written s t (16 * i) k → Gap s₀ s n j → PutIn s₀ t n i k
unfolding Gap
put_in s₀ s t n i j k e h w g =
    let a : column t 0 i ≡ column s 0 i = cells_keep s t 0 i (λ y l. w.else (0 + 16 * y) (inl (omega arith))) in
    let b : column t (16 * (i + 1)) (n - i) ≡ column s (16 * (i + 1)) (n - i) = cells_keep s t (16 * (i + 1)) _ (λ y l. w.else (16 * (i + 1) + 16 * y) (inr (omega arith))) in
    let c : n + 1 ≡ i + (n + 1 - i) = omega arith in
    let d : n + 1 - (i + 1) ≡ n - i = omega arith in
    let f : 0 + 16 * i ≡ 16 * i = omega arith in
    ap (column t 0) c ∙ split t 0 i (n + 1 - i)
    ∙ rw (f, cells_next t i (n + 1) (omega arith), d, a, b, w.here, ← (rw e at g))
    (sym (ins_append (column s 0 i) (column s (16 * (i + 1)) (n - i)) i k (length_cells s 0 i)))

-- every reference is one
pub data Refs (held batch : List ℕ) : List ℕ → Type 0 where
  none : Refs held batch []
  more : {k : ℕ} {ks : List ℕ} → ref_ok held batch k ≡ true → Refs held batch ks → Refs held batch (k ∷ ks)

both : (a b : Bool) → pick a b false ≡ true → (a ≡ true) × (b ≡ true)
both true b h = (refl, h)
both false b h = absurd (let z : ◌≡◌ {A = ℕ} 0 1 = cc in omega arith)

pub refs_of : (held batch ks : List ℕ) → refs_ok held batch ks ≡ true → Refs held batch ks
unfolding refs_ok
refs_of held batch [] h = none
refs_of held batch (k ∷ ks) h =
    let p : (ref_ok held batch k ≡ true) × (refs_ok held batch ks ≡ true) = both _ _ h in
    more p.0 (refs_of held batch ks p.1)

module _ {held batch : List ℕ} where
  pub of_refs : {ks : List ℕ} → Refs held batch ks → refs_ok held batch ks ≡ true
  unfolding refs_ok
  of_refs none = refl
  of_refs (more o r) = rw o (of_refs r)

  pub refs_at : {ks : List ℕ} → Refs held batch ks → (i : ℕ) → i < length ks → ref_ok held batch (get_or ks i 0) ≡ true
  refs_at none i h = absurd (omega arith)
  refs_at (more o r) zero h = o
  refs_at (more o r) (suc i) h = refs_at r i (omega arith)

  pub refs_without : {ks : List ℕ} → Refs held batch ks → (j : ℕ) → Refs held batch (without j ks)
  unfolding without
  refs_without none j = none
  refs_without (more o r) zero = r
  refs_without (more o r) (suc j) = more o (refs_without r j)

  pub refs_snoc : {ks : List ℕ} → Refs held batch ks → (k : ℕ) → ref_ok held batch k ≡ true → Refs held batch (ks ++ (k ∷ []))
  refs_snoc none k o = more o none
  refs_snoc (more p r) k o = more p (refs_snoc r k o)

  pub refs_ins : {ks : List ℕ} → Refs held batch ks → (i k : ℕ) → ref_ok held batch k ≡ true → Refs held batch (ins_at i k ks)
  unfolding ins_at
  refs_ins r zero k o = more o r
  refs_ins none (suc i) k o = more o none
  refs_ins (more p r) (suc i) k o = more p (refs_ins r i k o)

pub ref_there : (held batch s : List ℕ) (n i k : ℕ) → Refs held batch (column s 0 n) → i < n → k ≡ get64 s (16 * i) → ref_ok held batch k ≡ true
ref_there held batch s n i k r h e =
    let q : get_or (column s 0 n) i 0 ≡ k = cells_at s 0 n i h ∙ ap (get64 s) (omega arith) ∙ sym e in
    rw q at (refs_at r i (rw (length_cells s 0 n) h))

-- The keys of the working rows: one written, one put in, all of them loaded.
use Prim.Native.Nat.{ℕ, zero, suc, ◌+◌, ◌-◌, ◌*◌, ◌%◌, ◌≤◌, ◌<◌}
use mathlib.Core.Path.{◌≡◌, refl, sym, ◌∙◌, ap}
use mathlib.Core.Logic.{inl, inr}
use mathlib.Core.List.{List, [], ◌∷◌}
use native.Mathlib.Omega.{arith}
use native.Mathlib.Nat.{add-zero}
use native.Mathlib.Numerals.{add-one}
use lib.ListN.{length, get_or, set}
use lib.Seq.{sets-eq}
use Rattle.std.specs.List.{CopiedTo, SameBelow}
use Rattle.words.specs.Be.{get64, column}
use Rattle.words.specs.Areas.{put_at}
use Rattle.words.proofs.Words.{lt_or_le}
use Rattle.working.specs.Inside.Columns.{ins_at, PutIn}
use Rattle.working.specs.Inside.Looks.{ref_row, KeyOf}
use Rattle.working.specs.Inside.Keys.{key_at, KeyWritten, KeyIn, Keyed}
use Rattle.working.specs.declared.looks.Key.{Key}
use Rattle.working.proofs.ScratchWord.{put_low, put_mid, put_high}
use Rattle.working.proofs.ScratchColumns.{length_cells, cells_at}

-- ---- a key written
-- five words that stand elsewhere are the same key there
moved : (s t : List ℕ) (a b : ℕ) → ((m : ℕ) → m < 5 → get_or t (b + m) 0 ≡ get_or s (a + m) 0) → key_at t b ≡ key_at s a
unfolding key_at
moved s t a b f =
    let e : get_or t b 0 ≡ get_or s a 0 = rw (add-zero b, add-zero a) at (f 0 (omega arith)) in
    rw (e, f 1 (omega arith), f 2 (omega arith), f 3 (omega arith), f 4 (omega arith))

kept : (s t : List ℕ) (b : ℕ) → ((m : ℕ) → b ≤ m → m < b + 5 → get_or t m 0 ≡ get_or s m 0) → key_at t b ≡ key_at s b
kept s t b f = moved s t b b (λ m h. f (b + m) (omega arith) (omega arith))

module _ (s : List ℕ) (at : ℕ) (key : Key) (h : at + 5 ≤ length s) where
  abbrev five : List ℕ
  five = key.stamp.wall_time ∷ key.stamp.logical_counter ∷ key.stamp.actor_id.0 ∷ key.actor.0 ∷ key.seq ∷ []

  abbrev pub written : List ℕ
  written =
      set (set (set (set (set s at key.stamp.wall_time) (at + 1) key.stamp.logical_counter) (at + 2) key.stamp.actor_id.0) (at + 3) key.actor.0) (at + 4) key.seq

  stores : written ≡ put_at s at five
  unfolding put_at
  stores =
      let e1 : at + 1 ≡ suc at = omega arith in
      let e2 : at + 2 ≡ suc (suc at) = omega arith in
      let e3 : at + 3 ≡ suc (suc (suc at)) = omega arith in
      let e4 : at + 4 ≡ suc (suc (suc (suc at))) = omega arith in
      rw (e1, e2, e3, e4) (sets-eq five s at h)

  put_five : key.stamp.logical_counter < 4294967296 → KeyWritten s (put_at s at five) at key
  unfolding key_at
  put_five l =
      let e : key.stamp.logical_counter % 4294967296 ≡ key.stamp.logical_counter = omega arith in
      let z : get_or (put_at s at five) at 0 ≡ key.stamp.wall_time = rw (add-zero at) at (put_mid s five at h 0 (omega arith)) in
      record {
        here = rw (z, put_mid s five at h 1 (omega arith), put_mid s five at h 2 (omega arith), put_mid s five at h 3 (omega arith), put_mid s five at h 4 (omega arith), e);
        else = λ b w. elim w [
          | inl o ↦ kept s (put_at s at five) b (λ m x y. put_low s five at h m (omega arith))
          | inr o ↦ kept s (put_at s at five) b (λ m x y. put_high s five at h m (omega arith))
        ];
      }

  pub key_written : key.stamp.logical_counter < 4294967296 → KeyWritten s written at key
  key_written l = rw stores (put_five l)

-- ---- a key put in: the others from i on are moved up, and it is written in the gap
pub key_in : (s₀ s t : List ℕ) (n i : ℕ) (key : Key) → i ≤ n → CopiedTo s₀ s (5 * i) (5 * i + 5) (5 * n - 5 * i) → SameBelow s₀ s (5 * i + 5)
    → KeyWritten s t (5 * i) key → KeyIn s₀ t n i key
key_in s₀ s t n i key l f g w = record {
  below = λ m h. w.else (5 * m) (inl (omega arith)) ∙ kept s₀ s (5 * m) (λ x a b. g x 0 (omega arith));
  here = w.here;
  above = λ m h k.
      w.else (5 * (m + 1)) (inr (omega arith))
      ∙ moved s₀ s (5 * m) (5 * (m + 1)) (λ x a. f (5 * (m + 1) + x) 0 (omega arith) (omega arith) ∙ ap (λ (y : ℕ). get_or s₀ y 0) (omega arith));
}

-- ---- an element of a list with k put in at i
ins_below : (ks : List ℕ) (i k j : ℕ) → j < i → i ≤ length ks → get_or (ins_at i k ks) j 0 ≡ get_or ks j 0
unfolding ins_at
ins_below ks zero k j h l = absurd (omega arith)
ins_below [] (suc i) k j h l = absurd (omega arith)
ins_below (x ∷ ks) (suc i) k zero h l = refl
ins_below (x ∷ ks) (suc i) k (suc j) h l = ins_below ks i k j (omega arith) (omega arith)

ins_here : (ks : List ℕ) (i k : ℕ) → i ≤ length ks → get_or (ins_at i k ks) i 0 ≡ k
unfolding ins_at
ins_here ks zero k l = refl
ins_here [] (suc i) k l = absurd (omega arith)
ins_here (x ∷ ks) (suc i) k l = ins_here ks i k (omega arith)

ins_above : (ks : List ℕ) (i k j : ℕ) → i ≤ j → j < length ks → get_or (ins_at i k ks) (suc j) 0 ≡ get_or ks j 0
unfolding ins_at
ins_above ks zero k j h l = refl
ins_above [] (suc i) k j h l = absurd (omega arith)
ins_above (x ∷ ks) (suc i) k zero h l = absurd (omega arith)
ins_above (x ∷ ks) (suc i) k (suc j) h l = ins_above ks i k j (omega arith) (omega arith)

-- ---- the keys of the rows of references
unfoldable pub KeyedTo : List ℕ → List ℕ → List ℕ → List ℕ → ℕ → Type 0
KeyedTo held batch s ks i = (m : ℕ) → m < i → KeyOf (ref_row held batch (get64 s (16 * m))) (key_at ks (5 * m))

pub keyed_none : (held batch s ks : List ℕ) → KeyedTo held batch s ks 0
unfolding KeyedTo
keyed_none held batch s ks m h = absurd (omega arith)

pub keyed_turn : (held batch s ks us : List ℕ) (i k : ℕ) (key : Key) → k ≡ get64 s (16 * i) → KeyOf (ref_row held batch k) key → KeyWritten ks us (5 * i) key
    → KeyedTo held batch s ks i → KeyedTo held batch s us (i + 1)
unfolding KeyedTo
keyed_turn held batch s ks us i k key e o w g m h = elim (lt_or_le m i) [
  | inl l ↦ rw (w.else (5 * m) (inl (omega arith))) (g m l)
  | inr l ↦
      let q : m ≡ i = omega arith in
      rw (q, w.here, ← e) o
]

pub keyed_end : (held batch s ks : List ℕ) (i n : ℕ) → i ≡ n → 5 * n ≤ length ks → KeyedTo held batch s ks i → Keyed held batch s ks n
unfolding KeyedTo
keyed_end held batch s ks i n e h g = record { room = h; keys = λ m l. g m (omega arith) }

module _ (held batch s t ks us : List ℕ) (n i k : ℕ) (key : Key) (h : i ≤ n) (p : PutIn s t n i k) where
  ref_is : (j : ℕ) → j < n + 1 → get64 t (16 * j) ≡ get_or (ins_at i k (column s 0 n)) j 0
  ref_is j l = ap (get64 t) (omega arith) ∙ sym (cells_at t 0 (n + 1) j l) ∙ ap (λ (x : List ℕ). get_or x j 0) p

  ref_was : (j : ℕ) → j < n → get_or (column s 0 n) j 0 ≡ get64 s (16 * j)
  ref_was j l = cells_at s 0 n j l ∙ ap (get64 s) (omega arith)

  ref_below : (j : ℕ) → j < i → get64 t (16 * j) ≡ get64 s (16 * j)
  ref_below j l = ref_is j (omega arith) ∙ ins_below (column s 0 n) i k j l (rw (length_cells s 0 n) h) ∙ ref_was j (omega arith)

  ref_here : get64 t (16 * i) ≡ k
  ref_here = ref_is i (omega arith) ∙ ins_here (column s 0 n) i k (rw (length_cells s 0 n) h)

  ref_above : (j : ℕ) → i ≤ j → j < n → get64 t (16 * (j + 1)) ≡ get64 s (16 * j)
  ref_above j l m =
      ref_is (j + 1) (omega arith)
      ∙ rw add-one (ins_above (column s 0 n) i k j l (rw (length_cells s 0 n) m))
      ∙ ref_was j m

  pub keyed_in : KeyOf (ref_row held batch k) key → KeyIn ks us n i key → 5 * (n + 1) ≤ length us → Keyed held batch s ks n → Keyed held batch t us (n + 1)
  keyed_in o w r g = record {
    room = r;
    keys = λ j l. elim (lt_or_le j i) [
      | inl b ↦ rw (ref_below j b, w.below j b) (g.keys j (omega arith))
      | inr b ↦ elim (lt_or_le i j) [
        | inl a ↦
            let e : j ≡ j - 1 + 1 = omega arith in
            rw e (rw (ref_above (j - 1) (omega arith) (omega arith), w.above (j - 1) (omega arith) (omega arith)) (g.keys (j - 1) (omega arith)))
        | inr a ↦
            let e : j ≡ i = omega arith in
            rw (e, ref_here, w.here) o
      ]
    ];
  }

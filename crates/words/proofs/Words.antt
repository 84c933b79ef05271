-- Laws of words: what is put is what is got, and back; a padded field.
use Prim.Native.Nat.{ℕ, zero, suc, ◌+◌, ◌-◌, ◌*◌, ◌≤◌, ◌<◌}
use mathlib.Core.Path.{◌≡◌, refl, sym, ◌∙◌, ap}
use mathlib.Core.List.{List, [], ◌∷◌, ◌++◌}
use native.Mathlib.Omega.{arith}
use lib.ListN.{length, take, drop, get_or, replicate, length-append, length-take, length-drop, length-replicate, get_or-replicate, get_or-eq_default}
use lib.Seq.{drop-cons, take-add, drop-drop, length-take-le, get_or-take, get_or-drop, ext_get_or}
use mathlib.Core.Logic.{◌⊎◌, inl, inr}
use mathlib.Core.Bool.{Bool, true, false}
use lib.Dec.{ltb}
use borrow.Author.Tests.{ltb-true, ltb-false}
use Rattle.std.specs.Prelude.{◌↔◌, IsTrue, EachIndex}
use Rattle.std.proofs.lemmas.Bool.{false≢true, cases_Bool}
pub use Rattle.std.proofs.lemmas.Bool.{cases_Bool as test}
use Rattle.std.proofs.lemmas.Nat.{be_bytes_8, from_be_bytes-to_be_bytes_8}
use Rattle.std.specs.Int.{w64, from_be_bytes}
use Rattle.words.specs.Be.{AllBytes, be64, get64, bes, words_at}
use Rattle.words.specs.Areas.{pad, Zero}
use Rattle.words.specs.Choice.{Tells}
use Rattle.words.specs.Choice.Tells.{is_true, is_false}
use Rattle.words.specs.Inside.Moves.{ZeroIn}

eight : (s : List ℕ) (at : ℕ) → at + 8 ≤ length s
    → take 8 (drop at s) ≡ get_or s at 0 ∷ get_or s (at + 1) 0 ∷ get_or s (at + 2) 0 ∷ get_or s (at + 3) 0 ∷ get_or s (at + 4) 0 ∷ get_or s (at + 5) 0 ∷ get_or s (at + 6) 0 ∷ get_or s (at + 7) 0 ∷ []
eight s at h =
    let e1 : at + 1 ≡ suc at = omega arith in
    let e2 : at + 2 ≡ suc (suc at) = omega arith in
    let e3 : at + 3 ≡ suc (suc (suc at)) = omega arith in
    let e4 : at + 4 ≡ suc (suc (suc (suc at))) = omega arith in
    let e5 : at + 5 ≡ suc (suc (suc (suc (suc at)))) = omega arith in
    let e6 : at + 6 ≡ suc (suc (suc (suc (suc (suc at))))) = omega arith in
    let e7 : at + 7 ≡ suc (suc (suc (suc (suc (suc (suc at)))))) = omega arith in
    rw (
      e1,
      e2,
      e3,
      e4,
      e5,
      e6,
      e7,
      drop-cons s at 0 (omega arith),
      drop-cons s (suc at) 0 (omega arith),
      drop-cons s (suc (suc at)) 0 (omega arith),
      drop-cons s (suc (suc (suc at))) 0 (omega arith),
      drop-cons s (suc (suc (suc (suc at)))) 0 (omega arith),
      drop-cons s (suc (suc (suc (suc (suc at))))) 0 (omega arith),
      drop-cons s (suc (suc (suc (suc (suc (suc at)))))) 0 (omega arith),
      drop-cons s (suc (suc (suc (suc (suc (suc (suc at))))))) 0 (omega arith),
    )

read : (s : List ℕ) (at : ℕ) → at + 8 ≤ length s → from_be_bytes w64 (take 8 (drop at s)) ≡ get64 s at
unfolding get64
read s at h = rw (eight s at h) refl

-- the eight bytes at a place are a word
pub word_here : (s : List ℕ) (at : ℕ)
    → from_be_bytes w64 (get_or s at 0 ∷ get_or s (at + 1) 0 ∷ get_or s (at + 2) 0 ∷ get_or s (at + 3) 0 ∷ get_or s (at + 4) 0 ∷ get_or s (at + 5) 0 ∷ get_or s (at + 6) 0 ∷ get_or s (at + 7) 0 ∷ [])
    ≡ get64 s at
unfolding get64
word_here s at = refl

-- eight bytes that are read are a word
pub word_read : (s b : List ℕ) (at : ℕ) → at + 8 ≤ length s → b ≡ take (at + 8 - at) (drop at s) → from_be_bytes w64 b ≡ get64 s at
word_read s b at h e =
    let n : at + 8 - at ≡ 8 = omega arith in
    rw (e, n) (read s at h)

pub lt_or_le : (m n : ℕ) → (m < n) ⊎ (n ≤ m)
lt_or_le m n = elim (cases_Bool (ltb m n)) [ inl h ↦ inl (ltb-true m n h) | inr h ↦ inr (ltb-false m n h) ]

pub bytes_part : (s : List ℕ) (a n : ℕ) → AllBytes s → AllBytes (take n (drop a s))
bytes_part s a n b i =
    elim (lt_or_le i n) [
      | inr h ↦ rw (get_or-eq_default (take n (drop a s)) 0 {n = i} (simp length-take (omega arith))) (omega arith)
      | inl h ↦ rw (get_or-take n (drop a s) i 0 h, get_or-drop a s i 0) (b (a + i))
    ]

-- what a word's bytes are, is what stands there
pub word_back : (s : List ℕ) (at : ℕ) → AllBytes s → at + 8 ≤ length s → be64 (get64 s at) ≡ take 8 (drop at s)
unfolding be64
word_back s at b h =
    be_bytes_8 (take 8 (drop at s)) (get64 s at) (length-take-le 8 (drop at s) (simp length-drop (omega arith))) (bytes_part s at 8 b) (sym (read s at h))

pub words_back : (s : List ℕ) (at n : ℕ) → AllBytes s → at + 8 * n ≤ length s → bes (words_at s at n) ≡ take (8 * n) (drop at s)
unfolding bes words_at
words_back s at zero b h = refl
words_back s at (suc n) b h =
    let e : 8 * suc n ≡ 8 + 8 * n = omega arith in
    rw (e, take-add 8 (8 * n) (drop at s), drop-drop 8 at s, word_back s at b (omega arith), words_back s (at + 8) n b (omega arith))

-- a field of `size` bytes whose bytes past the first n are zero
pub field : (s : List ℕ) (a n size : ℕ) → a + size ≤ length s → n ≤ size
    → Zero (take (a + size - (a + n)) (drop (a + n) s)) → take size (drop a s) ≡ pad size (take n (drop a s))
unfolding pad
field s a n size h k z =
    let l : length (take n (drop a s)) ≡ n = length-take-le n (drop a s) (simp length-drop (omega arith)) in
    let e : size ≡ n + (size - n) = omega arith in
    let f : a + size - (a + n) ≡ size - n = omega arith in
    let g : length (take (a + size - (a + n)) (drop (a + n) s)) ≡ a + size - (a + n) = length-take-le _ _ (simp length-drop (omega arith)) in
    ap (λ (m : ℕ). take m (drop a s)) e ∙ take-add n (size - n) (drop a s) ∙ rw (drop-drop n a s, l, ← f, z, g)

pub word_fits : (s : List ℕ) (at : ℕ) → AllBytes s → get64 s at < 18446744073709551616
unfolding get64
word_fits s at b = omega (arith, b at, b (at + 1), b (at + 2), b (at + 3), b (at + 4), b (at + 5), b (at + 6), b (at + 7))

-- a word that is written is read
pub word_there : (v : ℕ) (q : List ℕ) → v < 18446744073709551616 → get64 (be64 v ++ q) 0 ≡ v
unfolding be64 get64
word_there v q h = from_be_bytes-to_be_bytes_8 v h

pub word_drop : (s : List ℕ) (a b : ℕ) → get64 (drop a s) b ≡ get64 s (a + b)
unfolding get64
word_drop s a b =
    let e1 : a + (b + 1) ≡ a + b + 1 = omega arith in
    let e2 : a + (b + 2) ≡ a + b + 2 = omega arith in
    let e3 : a + (b + 3) ≡ a + b + 3 = omega arith in
    let e4 : a + (b + 4) ≡ a + b + 4 = omega arith in
    let e5 : a + (b + 5) ≡ a + b + 5 = omega arith in
    let e6 : a + (b + 6) ≡ a + b + 6 = omega arith in
    let e7 : a + (b + 7) ≡ a + b + 7 = omega arith in
    simp (get_or-drop, e1, e2, e3, e4, e5, e6, e7)

pub length_pad : (n : ℕ) (l : List ℕ) → length l ≤ n → length (pad n l) ≡ n
unfolding pad
length_pad n l h = simp (length-append, length-replicate) (omega arith)

pub zero_all : (s : List ℕ) (i : ℕ) → length s ≤ i → ((k : ℕ) → k < i → get_or s k 0 ≡ 0) → Zero s
zero_all s i h z =
    ext_get_or 0 s (replicate (length s) 0) (sym (length-replicate (length s) 0))
    (λ k l. z k (omega arith) ∙ sym (get_or-replicate (length s) k 0 0 l))

-- what is zero up to i, and from there up to j, is zero up to j
pub in_join : (s : List ℕ) (from i j : ℕ) → ZeroIn s from i → ZeroIn s i j → ZeroIn s from j
in_join s from i j y z k a b = elim (lt_or_le k i) [ inl l ↦ y k a l | inr l ↦ z k l b ]

pub in_none : (s : List ℕ) (from : ℕ) → ZeroIn s from from
in_none s from k a b = absurd (omega arith)

pub in_one : (s : List ℕ) (i : ℕ) → get_or s i 0 ≡ 0 → ZeroIn s i (i + 1)
in_one s i h k a b =
    let e : k ≡ i = omega arith in
    ap (λ (m : ℕ). get_or s m 0) e ∙ h

-- a test of every byte of a block: none so far, a zero byte more, a byte more that is not zero, and the last
pub block_none : (s : List ℕ) (at : ℕ) → Tells (ZeroIn s at (at + 0)) true
block_none s at = is_true (λ k a b. absurd (omega arith))

pub block_zero : (s : List ℕ) (at i : ℕ) (b c : Bool) → get_or s (at + i) 0 ≡ 0 → c ≡ b → Tells (ZeroIn s at (at + i)) b
    → Tells (ZeroIn s at (at + (i + 1))) c
block_zero s at i true c h e (is_true z) =
    rw (e) (is_true (λ k a l. in_join s at (at + i) (at + i + 1) z (in_one s (at + i) h) k a (omega arith)))
block_zero s at i false c h e (is_false n) = rw (e) (is_false (λ z. n (λ k a l. z k a (omega arith))))

pub block_other : (s : List ℕ) (at i : ℕ) (c : Bool) → (get_or s (at + i) 0 ≡ 0 → ⊥) → c ≡ false → Tells (ZeroIn s at (at + (i + 1))) c
block_other s at i c h e = rw (e) (is_false (λ z. h (z (at + i) (omega arith) (omega arith))))

pub block_all : (s : List ℕ) (at i n : ℕ) (b : Bool) → i ≡ n → Tells (ZeroIn s at (at + i)) b → Tells (ZeroIn s at (at + n)) b
block_all s at i n b e t = rw (← e) t

-- all of an area
pub zero_in : (s : List ℕ) (from to : ℕ) → to ≤ length s → Zero s → ZeroIn s from to
zero_in s from to h z k a l = ap (λ (m : List ℕ). get_or m k 0) z ∙ get_or-replicate (length s) k 0 0 (omega arith)

in_zero : (s : List ℕ) → ZeroIn s 0 (length s) → Zero s
in_zero s z = zero_all s (length s) (omega arith) (λ k l. z k (omega arith) l)

-- a test of each element by itself
pub each_tells : (s : List ℕ) (b : Bool) → IsTrue b ↔ EachIndex s (λ k. get_or s k 0 ≡ 0) → Tells (Zero s) b
each_tells s true h = is_true (zero_all s (length s) (omega arith) (h.0 refl))
each_tells s false h = is_false (λ z. false≢true (h.1 (λ k l. zero_in s k (k + 1) (omega arith) z k (omega arith) (omega arith))))

-- a test of the elements from i up to j: passed, and not
pub in_more : (s : List ℕ) (from i j : ℕ) (b : Bool) → Tells (ZeroIn s i j) b → b ≡ true → ZeroIn s from i → ZeroIn s from j
in_more s from i j true (is_true z) e y = in_join s from i j y z
in_more s from i j false (is_false n) e y = absurd (cc)

pub zero_not_in : (s : List ℕ) (i j : ℕ) (b : Bool) → j ≤ length s → Tells (ZeroIn s i j) b → b ≡ false → Zero s → ⊥
zero_not_in s i j false h (is_false n) e z = n (zero_in s i j h z)
zero_not_in s i j true h (is_true y) e z = cc

-- what is zero up to i: the last n elements tell, if they begin no later
pub last_tells : (s : List ℕ) (i n : ℕ) (b : Bool) → n ≤ length s → length s - n ≤ i → ZeroIn s 0 i
    → Tells (ZeroIn s (length s - n) (length s - n + n)) b → Tells (Zero s) b
last_tells s i n true h l y (is_true z) =
    is_true (in_zero s (in_join s 0 i (length s) y (λ k a m. z k (omega arith) (omega arith))))
last_tells s i n false h l y (is_false r) = is_false (λ z. r (zero_in s (length s - n) (length s - n + n) (omega arith) z))

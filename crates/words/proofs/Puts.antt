-- Laws of put_at: writes one after the other, in loops and into zeros.
use Prim.Native.Nat.{ℕ, ◌+◌, ◌-◌, ◌*◌, ◌≤◌, ◌<◌}
use mathlib.Core.Path.{◌≡◌, refl, sym, ◌∙◌}
use mathlib.Core.List.{List, [], ◌∷◌, ◌++◌, append_assoc, append-nil}
use mathlib.Core.Logic.{inl, inr}
use native.Mathlib.Nat.{add-zero}
use native.Mathlib.Numerals.{add-one}
use native.Mathlib.Omega.{arith}
use lib.ListN.{length, take, drop, get_or, set, replicate, length-append, length-take, length-drop, length-replicate, take-append-drop, replicate-append-replicate}
use lib.Seq.{take-suc, take-length, take_at, drop_at, drop-drop, length-take-le, paste, paste-suc, get_or-set_same, get_or-set_other}
use borrow.Rule.Slice.PartMut.{put_mid}
use Rattle.std.specs.Int.{w64, to_be_bytes}
use Rattle.words.specs.Be.{be64, bes}
use Rattle.words.specs.Areas.{pad, put_at}
use Rattle.words.proofs.Words.{lt_or_le}

pub put_nil : (s : List ℕ) (a : ℕ) → s ≡ put_at s a []
unfolding put_at
put_nil s a = sym (rw (add-zero a, append-nil (take a s)) (take-append-drop a s))

-- a part of an area that another list took the place of
pub put_part : (s x y : List ℕ) (a n : ℕ) → x ≡ y → n ≡ length y → put_mid a n s x ≡ put_at s a y
unfolding put_at
put_part s x y a n e h = rw (e, h, drop-drop (length y) a s) (sym (append_assoc (take a s) y (drop (a + length y) s)))

-- a word's bytes
pub word_bytes : (v : ℕ) → to_be_bytes w64 v ≡ be64 v
unfolding be64
word_bytes v = refl

pub length_put : (s x : List ℕ) (a : ℕ) → a + length x ≤ length s → length (put_at s a x) ≡ length s
unfolding put_at
length_put s x a h = simp (length-append, length-take, length-drop) (omega arith)

pub put_put : (s x y : List ℕ) (a b : ℕ) → a + length x ≡ b → b + length y ≤ length s → put_at (put_at s a x) b y ≡ put_at s a (x ++ y)
unfolding put_at
put_put s x y a b e h =
    let l : length (take a s ++ x) ≡ b = simp (length-append, length-take) (omega arith) in
    let t : take b ((take a s ++ x) ++ drop b s) ≡ take a s ++ x = take_at (take a s ++ x) (drop b s) b l in
    let d : drop b ((take a s ++ x) ++ drop b s) ≡ drop b s = drop_at (take a s ++ x) (drop b s) b l in
    let f : a + length (x ++ y) ≡ b + length y = simp length-append (omega arith) in
    rw (e, f, t, ← drop-drop (length y) b ((take a s ++ x) ++ drop b s), d, drop-drop (length y) b s, append_assoc (take a s) x y)

-- words
pub bes_append : (x y : List ℕ) → bes (x ++ y) ≡ bes x ++ bes y
unfolding bes
bes_append [] y = refl
bes_append (w ∷ x) y = rw (bes_append x y) (sym (append_assoc (be64 w) (bes x) (bes y)))

pub length_bes : (x : List ℕ) → length (bes x) ≡ 8 * length x
unfolding bes be64
length_bes [] = refl
length_bes (w ∷ x) = omega (arith, length_bes x)

bes_one : (w : ℕ) → bes (w ∷ []) ≡ be64 w
unfolding bes be64
bes_one w = refl

pub length_be : (w : ℕ) → length (be64 w) ≡ 8
unfolding be64
length_be w = refl

pub words_turn : (s₀ s t ws : List ℕ) (at i : ℕ) → s ≡ put_at s₀ at (bes (take i ws)) → t ≡ put_at s (at + 8 * i) (be64 (get_or ws i 0)) → i < length ws → at + 8 * length ws ≤ length s₀
    → t ≡ put_at s₀ at (bes (take (i + 1) ws))
words_turn s₀ s t ws at i p q h k =
    let l : at + length (bes (take i ws)) ≡ at + 8 * i = omega (arith, length_bes (take i ws), length-take-le i ws (omega arith)) in
    let e : bes (take (i + 1) ws) ≡ bes (take i ws) ++ be64 (get_or ws i 0) =
    rw (add-one, take-suc ws i 0 h, bes_append (take i ws) (get_or ws i 0 ∷ []), bes_one) in
    q ∙ rw (p, e) (put_put s₀ (bes (take i ws)) (be64 (get_or ws i 0)) at (at + 8 * i) l (omega (arith, length_be (get_or ws i 0))))

-- an array that is filled from the front
pub fill_turn : (f : ℕ → ℕ) (l : List ℕ) (i v : ℕ) → i < length l → v ≡ f i → ((k : ℕ) → k < i → get_or l k 0 ≡ f k) → (k : ℕ) → k < i + 1 → get_or (set l i v) k 0 ≡ f k
fill_turn f l i v h e p k m =
    elim (lt_or_le k i) [
      | inl n ↦ get_or-set_other l i k v 0 (λ q. omega arith) ∙ p k n
      | inr n ↦
          let z : k ≡ i = omega arith in
          rw z (get_or-set_same l i v 0 h ∙ e)
    ]

-- copies
pub copy_turn : (d₀ d s : List ℕ) (at i : ℕ) → d ≡ paste d₀ at s i → at + length s ≤ length d₀ → i < length s → set d (at + i) (get_or s i 0) ≡ paste d₀ at s (i + 1)
copy_turn d₀ d s at i e h k = rw (e, add-one) (paste-suc d₀ at s i 0 (omega arith) k)

pub copy_done : (d₀ d s : List ℕ) (at i : ℕ) → d ≡ paste d₀ at s i → i ≡ length s → d ≡ put_at d₀ at s
unfolding put_at
copy_done d₀ d s at i e h = e ∙ rw (h, take-length s)

-- a field that is put where zeros stand
pub put_pad : (s out vs : List ℕ) (a size rest : ℕ) → s ≡ out ++ replicate (size + rest) 0 → length out ≡ a → length vs ≤ size
    → put_at s a vs ≡ (out ++ pad size vs) ++ replicate rest 0
unfolding put_at pad
put_pad s out vs a size rest e l h =
    let z : size + rest ≡ length vs + (size - length vs + rest) = omega arith in
    let f : replicate {A = ℕ} (size + rest) 0 ≡ replicate {A = ℕ} (length vs) 0 ++ (replicate {A = ℕ} (size - length vs) 0 ++ replicate {A = ℕ} rest 0) =
    rw (replicate-append-replicate {A = ℕ} (size - length vs) rest 0, replicate-append-replicate {A = ℕ} (length vs) (size - length vs + rest) 0, z) in
    let g : s ≡ (out ++ replicate (length vs) 0) ++ (replicate {A = ℕ} (size - length vs) 0 ++ replicate {A = ℕ} rest 0) = e ∙ rw (f, append_assoc out (replicate (length vs) 0)) in
    let t : take a s ≡ out = rw e (take_at out _ a l) in
    let d : drop (a + length vs) s ≡ replicate {A = ℕ} (size - length vs) 0 ++ replicate {A = ℕ} rest 0 =
    rw g (drop_at (out ++ replicate (length vs) 0) _ (a + length vs) (simp (length-append, length-replicate) (omega arith))) in
    rw (t, d) (simp append_assoc)

pub words_none : (s ws : List ℕ) (at : ℕ) → s ≡ put_at s at (bes (take 0 ws))
unfolding bes
words_none s ws at = put_nil s at

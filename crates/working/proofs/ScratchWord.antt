-- One word written: it is there, and every other word is as it was.
use Prim.Native.Nat.{ℕ, ◌+◌, ◌-◌, ◌≤◌, ◌<◌}
use mathlib.Core.Path.{◌≡◌, sym, ◌∙◌, ap}
use mathlib.Core.Logic.{inl, inr}
use mathlib.Core.List.{List, ◌++◌, append_assoc}
use native.Mathlib.Omega.{arith}
use native.Mathlib.Nat.{add-zero}
use lib.ListN.{length, take, drop, get_or, length-append, length-take, get_or-append}
use lib.Seq.{get_or-take, get_or-drop, get_or-append-add, drop_at, length-take-le}
use Rattle.words.specs.Be.{be64, get64}
use Rattle.words.specs.Areas.{put_at}
use Rattle.words.proofs.Words.{word_there, word_drop}
use Rattle.words.proofs.Puts.{length_be}
use Rattle.working.specs.Inside.Columns.{Written}

same_word : (s t : List ℕ) (b : ℕ) → ((k : ℕ) → b ≤ k → k < b + 8 → get_or t k 0 ≡ get_or s k 0) → get64 t b ≡ get64 s b
unfolding get64
same_word s t b f =
    rw (
      f b (omega arith) (omega arith),
      f (b + 1) (omega arith) (omega arith),
      f (b + 2) (omega arith) (omega arith),
      f (b + 3) (omega arith) (omega arith),
      f (b + 4) (omega arith) (omega arith),
      f (b + 5) (omega arith) (omega arith),
      f (b + 6) (omega arith) (omega arith),
      f (b + 7) (omega arith) (omega arith),
    )

-- elements put from a on: those before and behind are as they were
module _ (s vs : List ℕ) (a : ℕ) (h : a + length vs ≤ length s) where
  pub put_low : (k : ℕ) → k < a → get_or (put_at s a vs) k 0 ≡ get_or s k 0
  unfolding put_at
  put_low k l =
      rw (append_assoc (take a s) vs)
      (get_or-append (take a s) _ 0 k (simp length-take (omega arith)) ∙ get_or-take a s k 0 l)

  pub put_mid : (m : ℕ) → m < length vs → get_or (put_at s a vs) (a + m) 0 ≡ get_or vs m 0
  unfolding put_at
  put_mid m l =
      let e : a + m ≡ length (take a s) + m = omega (arith, length-take-le a s (omega arith)) in
      rw (e, append_assoc (take a s) vs) (get_or-append-add (take a s) (vs ++ drop (a + length vs) s) m 0 ∙ get_or-append vs _ 0 m l)

  front : length (take a s ++ vs) ≡ a + length vs
  front = simp (length-append, length-take) (omega arith)

  pub put_high : (k : ℕ) → a + length vs ≤ k → get_or (put_at s a vs) k 0 ≡ get_or s k 0
  unfolding put_at
  put_high k l =
      let e : k ≡ length (take a s ++ vs) + (k - (a + length vs)) = omega (arith, front) in
      let f : a + length vs + (k - (a + length vs)) ≡ k = omega arith in
      ap (λ (n : ℕ). get_or (put_at s a vs) n 0) e ∙ get_or-append-add (take a s ++ vs) (drop (a + length vs) s) (k - (a + length vs)) 0
      ∙ get_or-drop (a + length vs) s (k - (a + length vs)) 0 ∙ ap (λ (n : ℕ). get_or s n 0) f

module _ (s : List ℕ) (a v : ℕ) (h : a + 8 ≤ length s) where
  t : List ℕ
  t = put_at s a (be64 v)

  there : v < 18446744073709551616 → get64 t a ≡ v
  unfolding t put_at
  there m =
      ap (get64 t) (sym (add-zero a)) ∙ sym (word_drop t a 0)
      ∙ rw (append_assoc (take a s) (be64 v), drop_at (take a s) (be64 v ++ drop (a + length (be64 v)) s) a (length-take-le a s (omega arith))) (word_there v _ m)

  pub written : (x : List ℕ) → v < 18446744073709551616 → x ≡ put_at s a (be64 v) → Written s x a v
  unfolding t
  written x m e = rw e record {
    here = there m;
    else = λ b w. elim w [
      | inl l ↦ same_word s _ b (λ k p q. put_low s (be64 v) a (rw (length_be v) h) k (omega arith))
      | inr l ↦ same_word s _ b (λ k p q. put_high s (be64 v) a (rw (length_be v) h) k (rw (length_be v) (omega arith)))
    ];
  }

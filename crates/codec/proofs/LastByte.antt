-- What get_within asks of a number behind its last byte: whether it is too large, and whether that byte pads it.
use Prim.Native.Nat.{ℕ, ◌+◌, ◌-◌, ◌*◌, ◌^◌, ◌≤◌, ◌<◌}
use mathlib.Core.Path.{◌≡◌, refl, sym, ◌∙◌, ap}
use mathlib.Core.Bool.{true, false, ◌&&◌}
use mathlib.Core.List.{List, [], ◌∷◌}
use mathlib.Core.Logic.{inl, inr}
use native.Mathlib.Omega.{arith}
use lib.Dec.{ltb, leb, eqb}
use lib.ListN.{length, take, drop, get_or}
use lib.Seq.{get_or-take, get_or-drop}
use borrow.Author.Tests.{lt-ltb, le-ltb, le-leb, lt-leb}
use Rattle.words.proofs.Words.{lt_or_le}
use Rattle.error.specs.declared.Refusal.{Refusal}
use Rattle.error.specs.declared.Refusal.TheVariants.{VarintOverflow, Overlong}
use Rattle.std.specs.declared.result.Result.TheVariants.{Ok, Err}
use Rattle.error.specs.Answer.{Got, got, bad, after, need}
use Rattle.codec.specs.Leb128.{groups, overlong}
use Rattle.codec.specs.Reading.{get_any, only_shortest, get_varint, get_u32}
use Rattle.codec.specs.Inside.NumberParts.{get_within}
use Rattle.codec.proofs.ReadSteps.{on, off, pass, fail, and_true_right, and_false}
use Rattle.codec.proofs.Overlong.{one_byte, more_bytes}
use Rattle.codec.proofs.RoundTrip.{bytes_at, ReadVarint, any_read}

-- the bytes of a number are the list's first
pub groups_first : (l : List ℕ) → take (length (groups l)) l ≡ groups l
unfolding groups
groups_first [] = refl
groups_first (b ∷ l) =
    elim (lt_or_le b 128) [ inl h ↦ rw (lt-ltb b 128 h) | inr h ↦ rw (le-ltb b 128 h) (ap (λ (t : List ℕ). b ∷ t) (groups_first l)) ]

module _ (s : List ℕ) (at v n : ℕ) (f : get_any s at ≡ got v n) where
  read : ReadVarint s at v n
  read = any_read s at v n f

  -- the last byte, in the list
  last_byte : get_or (bytes_at s at) (length (bytes_at s at) - 1) 0 ≡ get_or s (n - 1) 0
  last_byte =
      let g : List ℕ = bytes_at s at in
      let i : at + (length g - 1) ≡ n - 1 = omega (arith, read.next, read.onward) in
      ap (λ (t : List ℕ). get_or t (length g - 1) 0) (sym (groups_first (drop at s)))
      ∙ get_or-take (length g) (drop at s) (length g - 1) 0 (omega (arith, read.next, read.onward))
      ∙ get_or-drop at s (length g - 1) 0 ∙ ap (λ (j : ℕ). get_or s j 0) i

  -- it pads where it is zero and k bits, seven for each byte, stand before it
  pub padding : (i m k : ℕ) → n ≡ i + 1 → i ≡ at + m → k ≡ 7 * m → eqb (get_or s i 0) 0 && ltb 0 k ≡ overlong (bytes_at s at)
  padding i m k e p q =
      let j : n - 1 ≡ i = omega arith in
      let x : get_or (bytes_at s at) (length (bytes_at s at) - 1) 0 ≡ get_or s i 0 = last_byte ∙ ap (λ (j : ℕ). get_or s j 0) j in
      elim (lt_or_le 0 m) [
        | inl h ↦ rw (lt-ltb 0 k (omega arith)) (and_true_right (eqb (get_or s i 0) 0) ∙ sym (more_bytes (bytes_at s at) (omega (arith, read.next)) ∙ ap (λ (b : ℕ). eqb b 0) x))
        | inr h ↦ rw (le-ltb 0 k (omega arith)) (and_false (eqb (get_or s i 0) 0) ∙ sym (one_byte (bytes_at s at) (omega (arith, read.next))))
      ]

  pub above : (most : ℕ) → most < v → bad VarintOverflow ≡ get_within most s at
  unfolding get_within
  above most h = on _ f (fail _ _ (lt-leb v most h))

  pub padded : (most : ℕ) → v ≤ most → overlong (bytes_at s at) ≡ true → bad Overlong ≡ get_within most s at
  unfolding get_within only_shortest
  padded most h o = on _ f (pass _ _ (le-leb v most h) (rw o))

  pub shortest_read : (most : ℕ) → v ≤ most → overlong (bytes_at s at) ≡ false → got v n ≡ get_within most s at
  unfolding get_within only_shortest
  shortest_read most h o = on _ f (pass _ _ (le-leb v most h) (rw o))

pub within_refused : (s : List ℕ) (at most : ℕ) {k : Refusal} → bad k ≡ get_any s at → bad k ≡ get_within most s at
unfolding get_within
within_refused s at most e = off _ (sym e)

-- of 64 bits and of 32
within_64 : (s : List ℕ) (at : ℕ) (g : Got ℕ) → g ≡ get_any s at
    → after g (λ v next. need (leb v (2 ^ 64 - 1)) VarintOverflow (only_shortest (bytes_at s at) v next)) ≡ after g (λ v next. only_shortest (bytes_at s at) v next)
within_64 s at (Ok (v, n)) e = rw (le-leb v (2 ^ 64 - 1) (omega (arith, (any_read s at v n (sym e)).fits)))
within_64 s at (Err k) e = refl

pub varint_within : (s : List ℕ) (at : ℕ) → get_within (2 ^ 64 - 1) s at ≡ get_varint s at
unfolding get_within get_varint
varint_within s at = within_64 s at (get_any s at) refl

below_32 : (v : ℕ) → leb v (2 ^ 32 - 1) ≡ ltb v (2 ^ 32)
below_32 v =
    elim (lt_or_le v (2 ^ 32)) [
      | inl h ↦ le-leb v (2 ^ 32 - 1) (omega arith) ∙ sym (lt-ltb v (2 ^ 32) h)
      | inr h ↦ lt-leb v (2 ^ 32 - 1) (omega arith) ∙ sym (le-ltb v (2 ^ 32) h)
    ]

within_32 : (s : List ℕ) (at : ℕ) (g : Got ℕ)
    → after g (λ v next. need (leb v (2 ^ 32 - 1)) VarintOverflow (only_shortest (bytes_at s at) v next))
    ≡ after g (λ v next. need (ltb v (2 ^ 32)) VarintOverflow (only_shortest (bytes_at s at) v next))
within_32 s at (Ok (v, n)) = rw (below_32 v)
within_32 s at (Err k) = refl

pub u32_within : (s : List ℕ) (at : ℕ) → get_within (2 ^ 32 - 1) s at ≡ get_u32 s at
unfolding get_within get_u32
u32_within s at = within_32 s at (get_any s at)

-- One turn of get_within, up to its last byte.
use Prim.Native.Nat.{ℕ, suc, ◌+◌, ◌*◌, ◌%◌, ◌^◌, ◌≤◌, ◌<◌}
use mathlib.Core.Logic.{⊎_elim}
use mathlib.Core.Path.{◌≡◌, refl, ◌∙◌, sym}
use mathlib.Core.List.{List, [], ◌∷◌}
use native.Mathlib.Omega.{arith}
use native.Mathlib.Numerals.{add-one}
use native.Mathlib.Nat.{pow-le-pow_right, mul-le-mul_right, eq-or-lt_of_le}
use lib.ListN.{length, drop, get_or, drop_of_length-le}
use lib.Seq.{drop-cons}
use lib.Pow.{pow-add}
use lib.Dec.{ltb}
use borrow.Author.Tests.{lt-ltb, le-ltb, le-leb, lt-leb}
use Rattle.words.specs.Choice.{pick}
use Rattle.codec.specs.Leb128.{groups, has_last, value_of}
use Rattle.codec.specs.Reading.{judged, judge, get_any}
use Rattle.codec.proofs.ReadSteps.{and_false}
use Rattle.error.specs.declared.Refusal.TheVariants.{Truncated, VarintOverflow}
use Rattle.error.specs.Answer.{Got, got, bad}

-- the answer where n bytes are read, with the value v, and the bytes g are next
unfoldable pub onward : List ℕ → ℕ → ℕ → ℕ → ℕ → Got ℕ
onward g i n v k = judged (has_last g) (n + length g) (v + value_of k g) (i + length g)

-- a turn has read n bytes
pub record Going (s : List ℕ) (at v k i : ℕ) : Type 0 where
  pub n : ℕ
  pub shift : k ≡ 7 * n
  pub place : i ≡ at + n
  pub few : n ≤ 10
  pub below : v < 2 ^ k
  pub fits : v < 2 ^ 64
  pub same : get_any s at ≡ onward (groups (drop i s)) i n v k

pub start : (s : List ℕ) (at : ℕ) → Going s at 0 0 at
unfolding get_any judge onward
start s at =
    let e : 0 + length (groups (drop at s)) ≡ length (groups (drop at s)) = omega arith in
    let f : 0 + value_of 0 (groups (drop at s)) ≡ value_of 0 (groups (drop at s)) = omega arith in
    record { n = 0; shift = refl; place = omega arith; few = omega arith; below = omega arith; fits = omega arith; same = cc }

-- the three ways on, by the byte at i
next_more : (s : List ℕ) (i : ℕ) → i < length s → 128 ≤ get_or s i 0 → groups (drop i s) ≡ get_or s i 0 ∷ groups (drop (i + 1) s)
unfolding groups
next_more s i h b = rw (add-one, drop-cons s i 0) (simp (le-ltb (get_or s i 0) 128 b))

next_last : (s : List ℕ) (i : ℕ) → i < length s → get_or s i 0 < 128 → groups (drop i s) ≡ get_or s i 0 ∷ []
unfolding groups
next_last s i h b = rw (drop-cons s i 0) (simp (lt-ltb (get_or s i 0) 128 b))

next_some : (s : List ℕ) (i : ℕ) → i < length s → groups (drop i s) ≡ get_or s i 0 ∷ pick (ltb (get_or s i 0) 128) [] (groups (drop (i + 1) s))
unfolding groups
next_some s i h = rw (add-one, drop-cons s i 0)

on_more : (b : ℕ) (g : List ℕ) (i n v k : ℕ) → 128 ≤ b → onward (b ∷ g) i n v k ≡ onward g (i + 1) (n + 1) (v + b % 128 * 2 ^ k) (k + 7)
unfolding onward has_last value_of
on_more b g i n v k h =
    let e1 : n + suc (length g) ≡ n + 1 + length g = omega arith in
    let e2 : v + (b % 128 * 2 ^ k + value_of (k + 7) g) ≡ v + b % 128 * 2 ^ k + value_of (k + 7) g = omega arith in
    let e3 : i + suc (length g) ≡ i + 1 + length g = omega arith in
    simp (le-ltb b 128 h, e1, e2, e3)

on_last : (b i n v k : ℕ) → b < 128 → n < 10 → v + b % 128 * 2 ^ k < 2 ^ 64 → got (v + b % 128 * 2 ^ k) (i + 1) ≡ onward (b ∷ []) i n v k
unfolding onward has_last value_of judged
on_last b i n v k h few fit =
    let e2 : v + (b % 128 * 2 ^ k + 0) ≡ v + b % 128 * 2 ^ k = omega arith in
    simp (lt-ltb b 128 h, e2, le-leb (n + 1) 10 (omega arith), lt-ltb (v + b % 128 * 2 ^ k) (2 ^ 64) fit)

on_many : (b : ℕ) (g : List ℕ) (i n v k : ℕ) → 10 ≤ n → bad VarintOverflow ≡ onward (b ∷ g) i n v k
unfolding onward judged
on_many b g i n v k h = simp (lt-leb (n + suc (length g)) 10 (omega arith))

on_big : (b : ℕ) (g : List ℕ) (i n v k : ℕ) → 2 ^ 64 ≤ b % 128 * 2 ^ k → bad VarintOverflow ≡ onward (b ∷ g) i n v k
unfolding onward judged value_of
on_big b g i n v k h =
    simp (le-ltb (v + (b % 128 * 2 ^ k + value_of (k + 7) g)) (2 ^ 64) (omega arith), and_false)

on_end : (i n v k : ℕ) → n ≤ 10 → v < 2 ^ 64 → bad Truncated ≡ onward [] i n v k
unfolding onward has_last value_of judged
on_end i n v k few fit = simp (le-leb (n + 0) 10 (omega arith), lt-ltb (v + 0) (2 ^ 64) (omega arith))

room_low : (p k : ℕ) → p < 128 → k ≤ 56 → p * 2 ^ k < 2 ^ 64
room_low p k h l = omega (arith, mul-le-mul_right (2 ^ k) h, pow-le-pow_right {n = 2} (omega arith) l)

room_high : (p k : ℕ) → k ≡ 63 → p ≤ 1 → p * 2 ^ k < 2 ^ 64
room_high p k e l = rw e (omega arith)

under : (p v k w : ℕ) → p < 128 → v < 2 ^ k → w ≡ v + p * 2 ^ k → w < 2 ^ (k + 7)
under p v k w h l e = omega (arith, mul-le-mul_right (2 ^ k) h, pow-add 2 k 7)

module _ {s : List ℕ} {at v k i : ℕ} (g : Going s at v k i) where
  pub ended : length s ≤ i → bad Truncated ≡ get_any s at
  unfolding groups
  ended h = sym (g.same ∙ rw (drop_of_length-le s h) (sym (on_end i g.n v k g.few g.fits)))

  pub many : i < length s → 64 ≤ k → bad VarintOverflow ≡ get_any s at
  many h l = sym (g.same ∙ rw (next_some s i h) (sym (on_many _ _ i g.n v k (omega arith))))

  pub big : i < length s → k ≡ 63 → 1 < get_or s i 0 % 128 → bad VarintOverflow ≡ get_any s at
  big h l m =
      sym (g.same ∙ rw (next_some s i h) (sym (on_big _ _ i g.n v k (rw l (omega arith)))))

  -- a group fits below bit 63, and at bit 63 where it is at most 1
  pub room : (p : ℕ) → p < 128 → k < 64 → (k ≡ 63 → p ≤ 1) → p * 2 ^ k < 2 ^ 64
  room p h l m =
      ⊎_elim (λ a. room_high p k a (m a)) (λ a. room_low p k h (omega arith)) (eq-or-lt_of_le {n = k} {m = 63} (omega arith))

  module _ (p w : ℕ) (h : i < length s) (l : k < 64) (q : p ≡ get_or s i 0 % 128) (e : w ≡ v + p * 2 ^ k) (fit : w < 2 ^ 64) where
    total : w ≡ v + get_or s i 0 % 128 * 2 ^ k
    total = rw (← q) e

    pub last : get_or s i 0 < 128 → got w (i + 1) ≡ get_any s at
    last b = sym (g.same ∙ rw (next_last s i h b) (sym (rw total (on_last _ i g.n v k b (omega arith) (omega (arith, total))))))

    pub again : 128 ≤ get_or s i 0 → Going s at w (k + 7) (i + 1)
    again b =
        record {
          n = g.n + 1;
          shift = omega arith;
          place = omega arith;
          few = omega arith;
          below = under p v k w (omega arith) g.below e;
          fits = fit;
          same = g.same ∙ rw (next_more s i h b) (rw total (on_more _ _ i g.n v k b));
        }

-- What the calls of this crate promise together: what is written is read, nothing shorter would do, and when a varint is refused.
use Prim.Native.Nat.{ℕ, suc, ◌+◌, ◌-◌, ◌*◌, ◌%◌, ◌^◌, ◌≤◌, ◌<◌}
use mathlib.Core.Path.{◌≡◌, refl, sym, ◌∙◌, ap}
use mathlib.Core.Bool.{Bool, true, false, not, ◌&&◌}
use mathlib.Core.List.{List, [], ◌∷◌, ◌++◌, append_assoc, append-nil}
use mathlib.Core.Logic.{◌⊎◌, inl, inr, ◌↔◌}
use native.Mathlib.Omega.{arith}
use lib.Dec.{ltb, leb}
use lib.ListN.{length, drop, get_or, length-append, length-drop}
use lib.Seq.{drop-drop, drop-append_seam, take_at, get_or-drop}
use borrow.Author.Tests.{lt-ltb, le-ltb, le-leb, lt-leb, leb-true, ltb-true}
use Rattle.words.specs.Choice.{pick}
use Rattle.words.proofs.Words.{lt_or_le}
use Rattle.error.specs.declared.Refusal.TheVariants.{Truncated, VarintOverflow, Overlong, TooLarge}
use Rattle.error.specs.Answer.{Got, got, bad, after, need, done, nothing}
use Rattle.codec.specs.Leb128.{groups, has_last, value_of, overlong, group_then, groups_of, shortest}
use Rattle.codec.specs.Reading.{get_u8, judged, judge, get_any, only_shortest, get_varint, get_u32, get_count, part_of, get_bytes, finish}
use Rattle.codec.specs.declared.Part.{Part}
use Rattle.codec.specs.Writing.{sized}
use Rattle.codec.specs.Envelopes.{max_frame, max_signature, envelope, read_envelope}
use Rattle.codec.specs.declared.Envelope.{Envelope}
use Rattle.codec.proofs.ShortestForm.{short, long, induct, value_at, some, size_below, value_below}
use Rattle.codec.proofs.Overlong.{ends_some, overlong_true, true_overlong, shortest_not_overlong}
use Rattle.codec.proofs.ReadSteps.{on, shut, next, after_got, need_got, and_true, got_value, got_next}
use Rattle.codec.specs.RoundTrip.{VarintBack, OneToTen, NoShorter, TruncatedWhen, OverflowWhen, OverlongWhen, U32IsVarint, EnvelopeBack}

-- 1. The shortest sequence.

-- the bytes of v stand for v
pub value_back : (v : ℕ) → value_of 0 (shortest v) ≡ v
value_back v = value_at v 0 ∙ omega arith

-- they have an end
pub shortest_ends : (v : ℕ) → has_last (shortest v) ≡ true
unfolding has_last
shortest_ends v =
    induct (λ (v : ℕ). has_last (shortest v) ≡ true) (λ v h. rw (short v h, lt-ltb v 128 h))
    (λ v h ih. rw (long v h, le-ltb (v % 128 + 128) 128 (omega arith)) ih) v

-- it is their last byte: whatever follows them, they are one sequence
pub groups_shortest : (v : ℕ) (q : List ℕ) → groups (shortest v ++ q) ≡ shortest v
unfolding groups
groups_shortest v q =
    induct (λ (v : ℕ). groups (shortest v ++ q) ≡ shortest v) (λ v h. rw (short v h, lt-ltb v 128 h))
    (λ v h ih. rw (long v h, le-ltb (v % 128 + 128) 128 (omega arith), ih)) v

-- a number of 64 bits has from one to ten bytes
pub one_to_ten : OneToTen
one_to_ten v h = (some v, size_below 9 v (omega arith))

-- 2. What is written is read. Where bytes stand is said by `drop at s ≡ bytes ++ rest`.

-- what stands behind
pub behind : (s : List ℕ) (at : ℕ) (x q : List ℕ) → drop at s ≡ x ++ q → drop (at + length x) s ≡ q
behind s at x q e = rw (← drop-drop (length x) at s, e) (drop-append_seam x q)

-- how many bytes are left there
pub left_behind : (s : List ℕ) (at : ℕ) (x q : List ℕ) → drop at s ≡ x ++ q → length s - (at + length x) ≡ length q
left_behind s at x q e = sym (length-drop (at + length x) s) ∙ ap length (behind s at x q e)

-- a number of 64 bits that stands at `at` in its shortest bytes is read
any_there : (s : List ℕ) (at v : ℕ) (q : List ℕ) → v < 2 ^ 64 → drop at s ≡ shortest v ++ q → get_any s at ≡ got v (at + length (shortest v))
unfolding get_any judge judged
any_there s at v q h e =
    rw (e, groups_shortest v q, shortest_ends v, value_back v, le-leb (length (shortest v)) 10 (one_to_ten v h).1, lt-ltb v (2 ^ 64) h)

pub varint_there : (s : List ℕ) (at v : ℕ) (q : List ℕ) → v < 2 ^ 64 → drop at s ≡ shortest v ++ q → get_varint s at ≡ got v (at + length (shortest v))
unfolding get_varint only_shortest
varint_there s at v q h e = rw (any_there s at v q h e, e, groups_shortest v q, shortest_not_overlong v)

-- the bytes of a number of 64 bits, anywhere in a list, are read as this number, and the position past them is given
pub varint_back : VarintBack
varint_back p v q h = varint_there (p ++ (shortest v ++ q)) (length p) v q h (drop-append_seam p (shortest v ++ q))

-- so is a byte
pub u8_there : (s : List ℕ) (at b : ℕ) (q : List ℕ) → drop at s ≡ b ∷ q → get_u8 s at ≡ got b (at + 1)
unfolding get_u8
u8_there s at b q e =
    let l : length s - at ≡ suc (length q) = sym (length-drop at s) ∙ ap length e in
    let z : at + 0 ≡ at = omega arith in
    let d : get_or s at 0 ≡ b = ap (λ (n : ℕ). get_or s n 0) (sym z) ∙ sym (get_or-drop at s 0 0) ∙ ap (λ (t : List ℕ). get_or t 0 0) e in
    rw (lt-ltb at (length s) (omega arith), d)

-- so is a number of 32 bits
pub u32_there : (s : List ℕ) (at v : ℕ) (q : List ℕ) → v < 2 ^ 32 → drop at s ≡ shortest v ++ q → get_u32 s at ≡ got v (at + length (shortest v))
unfolding get_u32 only_shortest
u32_there s at v q h e = rw (any_there s at v q (omega arith) e, lt-ltb v (2 ^ 32) h, e, groups_shortest v q, shortest_not_overlong v)

-- so is a count of at most max, where as many bytes follow
pub count_there : (s : List ℕ) (at n max : ℕ) (q : List ℕ) → n < 2 ^ 64 → n ≤ max → n ≤ length q → drop at s ≡ shortest n ++ q
    → get_count s at max ≡ got n (at + length (shortest n))
unfolding get_count
count_there s at n max q h m l e =
    rw (varint_there s at n q h e, left_behind s at (shortest n) q e, le-leb n max m, le-leb n (length q) l)

-- where the bytes of b stand that are written at `at`, length first
abbrev pub within : ℕ → List ℕ → Part
within at b = record { start = at + length (shortest (length b)); len = length b }

module _ (s : List ℕ) (at : ℕ) (b q : List ℕ) (e : drop at s ≡ sized b ++ q) where
  told : drop at s ≡ shortest (length b) ++ (b ++ q)
  unfolding sized
  told = e ∙ append_assoc (shortest (length b)) b q

  -- bytes that are written length first are read, up to max
  pub bytes_there : (max : ℕ) → length b < 2 ^ 64 → length b ≤ max → get_bytes s at max ≡ got (within at b) (at + length (sized b))
  unfolding get_bytes sized
  bytes_there max h m =
      let l : at + length (shortest (length b)) + length b ≡ at + length (shortest (length b) ++ b) = simp length-append (omega arith) in
      rw (count_there s at (length b) max (b ++ q) h m (simp length-append (omega arith)) told, l)

  -- and what was read are these bytes
  pub part_there : part_of s (within at b) ≡ b
  unfolding part_of
  part_there = rw (behind s at (shortest (length b)) (b ++ q) told) (take_at b q (length b) refl)

-- 3. No sequence that ends is shorter and stands for the same number.
pub no_shorter : NoShorter
unfolding has_last
no_shorter [] e = let z : ◌≡◌ {A = ℕ} 0 1 = cc in absurd (omega arith)
no_shorter (b ∷ bs) e =
    let z : 0 + 7 * suc (length bs) ≡ 7 * suc (length bs) = omega arith in
    size_below (length bs) (value_of 0 (b ∷ bs)) (omega (arith, rw z at (value_below (b ∷ bs) 0)))

-- 4. What is read, and when it is refused: of c bytes with the value v, that end or not and are overlong or not, the position past them x.
pub data Judged (e o : Bool) (c v x : ℕ) : Got ℕ → Type 0 where
  fine : e ≡ true → o ≡ false → c ≤ 10 → v < 2 ^ 64 → Judged e o c v x (got v x)
  padded : e ≡ true → o ≡ true → c ≤ 10 → v < 2 ^ 64 → Judged e o c v x (bad Overlong)
  cut : e ≡ false → c ≤ 10 → v < 2 ^ 64 → Judged e o c v x (bad Truncated)
  many : 10 < c → Judged e o c v x (bad VarintOverflow)
  large : 2 ^ 64 ≤ v → c ≤ 10 → Judged e o c v x (bad VarintOverflow)

-- the test of the form, behind those of end and size
abbrev formed : Bool → Got ℕ → Got ℕ
formed o g = after g (λ v next. need (not o) Overlong (got v next))

ended : (e o : Bool) (c v x : ℕ) → c ≤ 10 → v < 2 ^ 64 → Judged e o c v x (formed o (need e Truncated (got v x)))
ended true true c v x h k = padded refl refl h k
ended true false c v x h k = fine refl refl h k
ended false o c v x h k = cut refl h k

judging : (e o : Bool) (c v x : ℕ) → Judged e o c v x (formed o (judged e c v x))
unfolding judged
judging e o c v x =
    elim (lt_or_le 10 c) [
      | inl h ↦ rw (lt-leb c 10 h) (many h)
      | inr h ↦
          elim (lt_or_le v (2 ^ 64)) [
            | inl k ↦ rw (le-leb c 10 h, lt-ltb v (2 ^ 64) k) (ended e o c v x h k)
            | inr k ↦ rw (le-leb c 10 h, le-ltb v (2 ^ 64) k) (large k h)
          ]
    ]

module _ (s : List ℕ) (at : ℕ) where
  -- the bytes of the number at `at`
  abbrev pub bytes_at : List ℕ
  bytes_at = groups (drop at s)

  -- the one case that holds
  pub varint_judged : Judged (has_last bytes_at) (overlong bytes_at) (length bytes_at) (value_of 0 bytes_at) (at + length bytes_at) (get_varint s at)
  unfolding get_varint get_any only_shortest judge
  varint_judged = judging (has_last bytes_at) (overlong bytes_at) (length bytes_at) (value_of 0 bytes_at) (at + length bytes_at)

-- what is known of a number v that was read at `at` in any form, n the position past it
pub record ReadVarint (s : List ℕ) (at v n : ℕ) : Type 0 where
  pub value : v ≡ value_of 0 (groups (drop at s))
  pub fits : v < 2 ^ 64
  pub next : n ≡ at + length (groups (drop at s))
  pub ended : has_last (groups (drop at s)) ≡ true
  pub few : length (groups (drop at s)) ≤ 10
  pub onward : at < n
  pub inside : n ≤ length s

picked_short : (t : Bool) (bs : List ℕ) (n : ℕ) → length bs ≤ n → length (pick t [] bs) ≤ n
picked_short true bs n h = omega arith
picked_short false bs n h = h

-- the bytes of a number are some of the list's
pub groups_short : (l : List ℕ) → length (groups l) ≤ length l
unfolding groups
groups_short [] = omega arith
groups_short (b ∷ bs) = omega (arith, picked_short (ltb b 128) (groups bs) (length bs) (groups_short bs))

bad_padded : {e o : Bool} {c v x : ℕ} {y : Got ℕ} → Judged e o c v x y → y ≡ bad Overlong → (e ≡ true) × (o ≡ true) × (c ≤ 10) × (v < 2 ^ 64)
bad_padded (fine h i k l) f = let z : ◌≡◌ {A = ℕ} 0 1 = cc in absurd (omega arith)
bad_padded (padded h i k l) f = (h, i, k, l)
bad_padded (cut h k l) f = let z : ◌≡◌ {A = ℕ} 0 1 = cc in absurd (omega arith)
bad_padded (many h) f = let z : ◌≡◌ {A = ℕ} 0 1 = cc in absurd (omega arith)
bad_padded (large h k) f = let z : ◌≡◌ {A = ℕ} 0 1 = cc in absurd (omega arith)

bad_cut : {e o : Bool} {c v x : ℕ} {y : Got ℕ} → Judged e o c v x y → y ≡ bad Truncated → (e ≡ false) × (c ≤ 10) × (v < 2 ^ 64)
bad_cut (fine h i k l) f = let z : ◌≡◌ {A = ℕ} 0 1 = cc in absurd (omega arith)
bad_cut (padded h i k l) f = let z : ◌≡◌ {A = ℕ} 0 1 = cc in absurd (omega arith)
bad_cut (cut h k l) f = (h, k, l)
bad_cut (many h) f = let z : ◌≡◌ {A = ℕ} 0 1 = cc in absurd (omega arith)
bad_cut (large h k) f = let z : ◌≡◌ {A = ℕ} 0 1 = cc in absurd (omega arith)

bad_over : {e o : Bool} {c v x : ℕ} {y : Got ℕ} → Judged e o c v x y → y ≡ bad VarintOverflow → (10 < c) ⊎ (2 ^ 64 ≤ v)
bad_over (fine h i k l) f = let z : ◌≡◌ {A = ℕ} 0 1 = cc in absurd (omega arith)
bad_over (padded h i k l) f = let z : ◌≡◌ {A = ℕ} 0 1 = cc in absurd (omega arith)
bad_over (cut h k l) f = let z : ◌≡◌ {A = ℕ} 0 1 = cc in absurd (omega arith)
bad_over (many h) f = inl h
bad_over (large h k) f = inr h

is_padded : {e o : Bool} {c v x : ℕ} {y : Got ℕ} → Judged e o c v x y → e ≡ true → o ≡ true → c ≤ 10 → v < 2 ^ 64 → y ≡ bad Overlong
is_padded (fine h i k l) e o p q = let z : ◌≡◌ {A = ℕ} 0 1 = cc in absurd (omega arith)
is_padded (padded h i k l) e o p q = refl
is_padded (cut h k l) e o p q = let z : ◌≡◌ {A = ℕ} 0 1 = cc in absurd (omega arith)
is_padded (many h) e o p q = absurd (omega arith)
is_padded (large h k) e o p q = absurd (omega arith)

is_cut : {e o : Bool} {c v x : ℕ} {y : Got ℕ} → Judged e o c v x y → (e ≡ false) × (c ≤ 10) × (v < 2 ^ 64) → y ≡ bad Truncated
is_cut (fine h i k l) (f, p, q) = let z : ◌≡◌ {A = ℕ} 0 1 = cc in absurd (omega arith)
is_cut (padded h i k l) (f, p, q) = let z : ◌≡◌ {A = ℕ} 0 1 = cc in absurd (omega arith)
is_cut (cut h k l) (f, p, q) = refl
is_cut (many h) (f, p, q) = absurd (omega arith)
is_cut (large h k) (f, p, q) = absurd (omega arith)

is_over : {e o : Bool} {c v x : ℕ} {y : Got ℕ} → Judged e o c v x y → (10 < c) ⊎ (2 ^ 64 ≤ v) → y ≡ bad VarintOverflow
is_over (fine h i k l) (inl p) = absurd (omega arith)
is_over (fine h i k l) (inr p) = absurd (omega arith)
is_over (padded h i k l) (inl p) = absurd (omega arith)
is_over (padded h i k l) (inr p) = absurd (omega arith)
is_over (cut h k l) (inl p) = absurd (omega arith)
is_over (cut h k l) (inr p) = absurd (omega arith)
is_over (many h) p = refl
is_over (large h k) p = refl

clear : (b : Bool) → not b ≡ true → b ≡ false
clear true e = let z : ◌≡◌ {A = ℕ} 0 1 = cc in absurd (omega arith)
clear false e = refl

module _ (s : List ℕ) (at : ℕ) where
  -- a number that was read is the value of the sequence at `at`, fits 64 bits and ends within the list
  pub any_read : (v n : ℕ) → get_any s at ≡ got v n → ReadVarint s at v n
  unfolding get_any judge judged
  any_read v n f =
      let g : List ℕ = bytes_at s at in
      let p : (leb (length g) 10 && ltb (value_of 0 g) (2 ^ 64) ≡ true) × (need (has_last g) Truncated (got (value_of 0 g) (at + length g)) ≡ got v n) =
      need_got _ VarintOverflow _ f in
      let q : (has_last g ≡ true) × (◌≡◌ {A = Got ℕ} (got (value_of 0 g) (at + length g)) (got v n)) = need_got _ Truncated _ p.1 in
      let t : (leb (length g) 10 ≡ true) × (ltb (value_of 0 g) (2 ^ 64) ≡ true) = and_true _ _ p.0 in
      let e : value_of 0 g ≡ v = got_value q.1 in
      let x : at + length g ≡ n = got_next q.1 in
      let l : 0 < length g = ends_some g q.0 in
      record {
        value = sym e;
        fits = omega (arith, ltb-true (value_of 0 g) (2 ^ 64) t.1);
        next = sym x;
        ended = q.0;
        few = leb-true (length g) 10 t.0;
        onward = omega arith;
        inside = omega (arith, groups_short (drop at s), length-drop at s);
      }

  -- what the test of the form leaves
  shortest_read : (v n w m : ℕ) → only_shortest (bytes_at s at) v n ≡ got w m → (overlong (bytes_at s at) ≡ false) × (◌≡◌ {A = Got ℕ} (got v n) (got w m))
  unfolding only_shortest
  shortest_read v n w m f =
      let p : (not (overlong (bytes_at s at)) ≡ true) × (◌≡◌ {A = Got ℕ} (got v n) (got w m)) = need_got (not (overlong (bytes_at s at))) Overlong (got v n) f in
      (clear (overlong (bytes_at s at)) p.0, p.1)

  -- a varint that was read is a number in any form, and not overlong
  varint_any : (v n : ℕ) → get_varint s at ≡ got v n → (get_any s at ≡ got v n) × (overlong (bytes_at s at) ≡ false)
  unfolding get_varint
  varint_any v n f = told (after_got (get_any s at) _ f)
    where
      told : (w : ℕ) × (m : ℕ) × (get_any s at ≡ got w m) × (only_shortest (bytes_at s at) w m ≡ got v n) → (get_any s at ≡ got v n) × (overlong (bytes_at s at) ≡ false)
      told (w, m, e, k) = let p : (overlong (bytes_at s at) ≡ false) × (◌≡◌ {A = Got ℕ} (got w m) (got v n)) = shortest_read w m v n k in (e ∙ p.1, p.0)

  pub varint_read : (v n : ℕ) → get_varint s at ≡ got v n → ReadVarint s at v n
  varint_read v n f = any_read v n (varint_any v n f).0

  pub varint_short : (v n : ℕ) → get_varint s at ≡ got v n → overlong (bytes_at s at) ≡ false
  varint_short v n f = (varint_any v n f).1

  -- 22: the bytes run out, and neither are they more than ten nor is their value above 64 bits
  pub truncated : (get_varint s at ≡ bad Truncated) ↔ ((has_last (bytes_at s at) ≡ false) × (length (bytes_at s at) ≤ 10) × (value_of 0 (bytes_at s at) < 2 ^ 64))
  truncated = (bad_cut (varint_judged s at), is_cut (varint_judged s at))

  -- 23: more than ten bytes, or a value above 64 bits
  pub overflow : (get_varint s at ≡ bad VarintOverflow) ↔ ((10 < length (bytes_at s at)) ⊎ (2 ^ 64 ≤ value_of 0 (bytes_at s at)))
  overflow = (bad_over (varint_judged s at), is_over (varint_judged s at))

pub truncated_when : TruncatedWhen
truncated_when s at = truncated s at

pub overflow_when : OverflowWhen
overflow_when s at = overflow s at

pub u32_is_varint : U32IsVarint
unfolding get_u32 get_varint only_shortest
u32_is_varint s at v n f =
    let x = after_got (get_any s at) _ f in
    let y = need_got (ltb x.0 (2 ^ 32)) VarintOverflow _ x.3 in
    let z = shortest_read s at x.0 x.1 v n y.1 in
    let e : x.0 ≡ v = got_value z.1 in
    (rw x.2 y.1, omega (arith, ltb-true x.0 (2 ^ 32) y.0))

pub overlong_when : OverlongWhen
overlong_when s at = (told, (λ (e, h, k, l, z). is_padded (varint_judged s at) e (true_overlong (bytes_at s at) l z) h k))
  where
    told : get_varint s at ≡ bad Overlong
        → (has_last (bytes_at s at) ≡ true) × (length (bytes_at s at) ≤ 10) × (value_of 0 (bytes_at s at) < 2 ^ 64)
        × (1 < length (bytes_at s at)) × (get_or (bytes_at s at) (length (bytes_at s at) - 1) 0 ≡ 0)
    told f =
        let p : (has_last (bytes_at s at) ≡ true) × (overlong (bytes_at s at) ≡ true) × (length (bytes_at s at) ≤ 10) × (value_of 0 (bytes_at s at) < 2 ^ 64) =
        bad_padded (varint_judged s at) f in
        let q : (1 < length (bytes_at s at)) × (get_or (bytes_at s at) (length (bytes_at s at) - 1) 0 ≡ 0) = overlong_true (bytes_at s at) p.1 in
        (p.0, p.2, p.3, q.0, q.1)

-- a count that was read is at most the bytes left
pub count_inside : (s : List ℕ) (at max n next : ℕ) → get_count s at max ≡ got n next → next + n ≤ length s
unfolding get_count
count_inside s at max n next f = counted (after_got (get_varint s at) _ f)
  where
    counted : (v : ℕ) × (x : ℕ) × (get_varint s at ≡ got v x) × (need (leb v max && leb v (length s - x)) TooLarge (got v x) ≡ got n next) → next + n ≤ length s
    counted (v, x, e, g) =
        let p : (leb v max && leb v (length s - x) ≡ true) × (◌≡◌ {A = Got ℕ} (got v x) (got n next)) = need_got (leb v max && leb v (length s - x)) TooLarge (got v x) g in
        let q : v ≤ length s - x = leb-true v (length s - x) (and_true (leb v max) (leb v (length s - x)) p.0).1 in
        let y : v ≡ n = got_value p.1 in
        let z : x ≡ next = got_next p.1 in
        omega (arith, (varint_read s at v x e).inside)

-- 5. An envelope that is written, within the limits, is read: the sender, the bytes of the body and those of the signature come back.
module _ (sender : ℕ) (body sig : List ℕ) (h : sender < 2 ^ 64) (k : length body ≤ max_frame) (l : length sig ≤ max_signature) where
  bytes : List ℕ
  bytes = envelope sender body sig

  body_from : ℕ
  body_from = length (shortest sender)

  sig_from : ℕ
  sig_from = body_from + length (sized body)

  sender_read : get_varint bytes 0 ≡ got sender body_from
  unfolding bytes body_from envelope
  sender_read =
      let z : 0 + length (shortest sender) ≡ length (shortest sender) = omega arith in
      varint_there (envelope sender body sig) 0 sender (sized body ++ sized sig) h refl ∙ rw z

  body_stands : drop body_from bytes ≡ sized body ++ sized sig
  unfolding bytes body_from envelope
  body_stands = drop-append_seam (shortest sender) (sized body ++ sized sig)

  sig_stands : drop sig_from bytes ≡ sized sig ++ []
  unfolding sig_from
  sig_stands = behind bytes body_from (sized body) (sized sig) body_stands ∙ sym (append-nil (sized sig))

  ended_there : finish bytes (sig_from + length (sized sig)) ≡ done nothing
  unfolding finish
  ended_there =
      let z : length bytes - (sig_from + length (sized sig)) ≡ 0 = left_behind bytes sig_from (sized sig) [] sig_stands in
      rw (le-leb (length bytes) (sig_from + length (sized sig)) (omega arith))

  read : Envelope
  read = record { sender = record { 0 = sender }; body = within body_from body; sig = within sig_from sig }

  all_read : read_envelope bytes ≡ done read
  unfolding read_envelope read sig_from
  all_read =
      sym
      (shut bytes
      (on _ sender_read
      (on _ (bytes_there bytes body_from body (sized sig) body_stands max_frame (omega arith) k)
      (on _ (bytes_there bytes sig_from sig [] sig_stands max_signature (omega arith) l) refl)))
      (next _ ended_there refl))

  pub envelope_back : (e : Envelope) × (read_envelope (envelope sender body sig) ≡ done e) × (e.sender.0 ≡ sender)
      × (part_of (envelope sender body sig) e.body ≡ body) × (part_of (envelope sender body sig) e.sig ≡ sig)
  unfolding bytes read
  envelope_back =
      (read, all_read, refl, part_there bytes body_from body (sized sig) body_stands, part_there bytes sig_from sig [] sig_stands)

pub envelopes_back : EnvelopeBack
envelopes_back sender body sig h k l = envelope_back sender body sig h k l

-- Document 01's cases, by running the definitions: 300 is AC 02, 2^64 − 1 is nine FF then 01; 02: "80 00 (hexadecimal) no longer reads as 0".
pub record Varints : Type 0 where
  pub three_hundred : shortest 300 ≡ 0xAC ∷ 0x02 ∷ []
  pub largest : shortest (2 ^ 64 - 1) ≡ 0xFF ∷ 0xFF ∷ 0xFF ∷ 0xFF ∷ 0xFF ∷ 0xFF ∷ 0xFF ∷ 0xFF ∷ 0xFF ∷ 0x01 ∷ []
  pub overlong_zero : get_varint (0x80 ∷ 0x00 ∷ []) 0 ≡ bad Overlong
  -- one byte, and ten of which the last pads; an eleventh is 23, and so is 2^32 where 32 bits are read, in six bytes too
  pub zero : get_varint (0x00 ∷ []) 0 ≡ got 0 1
  pub ten_bytes : get_varint (0xFF ∷ 0xFF ∷ 0xFF ∷ 0xFF ∷ 0xFF ∷ 0xFF ∷ 0xFF ∷ 0xFF ∷ 0xFF ∷ 0x00 ∷ []) 0 ≡ bad Overlong
  pub eleven_bytes : get_varint (0x80 ∷ 0x80 ∷ 0x80 ∷ 0x80 ∷ 0x80 ∷ 0x80 ∷ 0x80 ∷ 0x80 ∷ 0x80 ∷ 0x80 ∷ 0x00 ∷ []) 0 ≡ bad VarintOverflow
  pub above_32_bits : get_u32 (0x80 ∷ 0x80 ∷ 0x80 ∷ 0x80 ∷ 0x90 ∷ 0x00 ∷ []) 0 ≡ bad VarintOverflow
  pub within_32_bits : get_u32 (0x80 ∷ 0x80 ∷ 0x80 ∷ 0x80 ∷ 0x80 ∷ 0x00 ∷ []) 0 ≡ bad Overlong

pub varints : Varints
unfolding shortest groups_of group_then get_varint get_u32 get_any only_shortest judge judged groups has_last value_of overlong
varints =
    record {
      three_hundred = refl;
      largest = refl;
      overlong_zero = refl;
      zero = refl;
      ten_bytes = refl;
      eleven_bytes = refl;
      above_32_bits = refl;
      within_32_bits = refl;
    }

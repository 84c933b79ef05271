-- Reading in a longer list: bytes in front move the positions, bytes behind change nothing that was read.
use Prim.Native.Nat.{ℕ, ◌+◌, ◌-◌, ◌^◌, ◌≤◌, ◌<◌}
use mathlib.Core.Path.{◌≡◌, refl, ◌∙◌, ap}
use mathlib.Core.Bool.{Bool, true, false, not, ◌&&◌}
use mathlib.Core.List.{List, [], ◌∷◌, ◌++◌}
use native.Mathlib.Omega.{arith}
use lib.Dec.{ltb, leb}
use lib.ListN.{length, drop, length-append}
use lib.Seq.{drop-append-le, drop-append-add}
use borrow.Author.Tests.{lt-ltb, le-leb, leb-true}
use Rattle.words.specs.Choice.{pick}
use Rattle.error.specs.declared.Refusal.TheVariants.{Truncated, VarintOverflow, Overlong, TooLarge}
use Rattle.std.specs.declared.result.Result.TheVariants.{Ok, Err}
use Rattle.error.specs.Answer.{Got, got, bad, need, after}
use Rattle.codec.specs.Leb128.{groups, has_last, value_of, overlong}
use Rattle.codec.specs.Reading.{judged, judge, get_any, only_shortest, get_varint, get_count, get_bytes}
use Rattle.codec.specs.declared.Part.{Part}
use Rattle.codec.proofs.ReadSteps.{after_got, need_got, and_true}
use Rattle.codec.proofs.RoundTrip.{ReadVarint, varint_read, varint_short}

-- an answer whose positions are k further on
abbrev pub moved : {A : Type 0} → ℕ → (A → A) → Got A → Got A
moved k f (Ok (a, n)) = got (f a) (k + n)
moved k f (Err r) = bad r

abbrev pub same : ℕ → ℕ
same v = v

abbrev pub further : ℕ → Part → Part
further k p = record { start = k + p.start; len = p.len }

-- a number that stands there is read
found : (s : List ℕ) (at : ℕ) → has_last (groups (drop at s)) ≡ true → length (groups (drop at s)) ≤ 10 → value_of 0 (groups (drop at s)) < 2 ^ 64
    → overlong (groups (drop at s)) ≡ false
    → get_varint s at ≡ got (value_of 0 (groups (drop at s))) (at + length (groups (drop at s)))
unfolding get_varint get_any only_shortest judge judged
found s at e h k o = rw (e, le-leb (length (groups (drop at s))) 10 h, lt-ltb (value_of 0 (groups (drop at s))) (2 ^ 64) k, o)

-- bytes in front
needs_moved : (k v x : ℕ) (t e o : Bool)
    → after (need t VarintOverflow (need e Truncated (got v (k + x)))) (λ v next. need o Overlong (got v next))
    ≡ moved k same (after (need t VarintOverflow (need e Truncated (got v x))) (λ v next. need o Overlong (got v next)))
needs_moved k v x true true true = refl
needs_moved k v x true true false = refl
needs_moved k v x true false o = refl
needs_moved k v x false e o = refl

module _ (p s : List ℕ) (at : ℕ) where
  pub varint_moved : get_varint (p ++ s) (length p + at) ≡ moved (length p) same (get_varint s at)
  unfolding get_varint get_any only_shortest judge judged
  varint_moved =
      let z : length p + at + length (groups (drop at s)) ≡ length p + (at + length (groups (drop at s))) = omega arith in
      rw (drop-append-add p s at, z)
      (needs_moved (length p) (value_of 0 (groups (drop at s))) (at + length (groups (drop at s)))
      (leb (length (groups (drop at s))) 10 && ltb (value_of 0 (groups (drop at s))) (2 ^ 64)) (has_last (groups (drop at s))) (not (overlong (groups (drop at s)))))

  count_from : (max : ℕ) (g : Got ℕ)
      → after (moved (length p) same g) (λ n next. need (leb n max && leb n (length (p ++ s) - next)) TooLarge (got n next))
      ≡ moved (length p) same (after g (λ n next. need (leb n max && leb n (length s - next)) TooLarge (got n next)))
  count_from max (Ok (n, next)) =
      let z : length (p ++ s) - (length p + next) ≡ length s - next = omega (arith, length-append p s) in
      rw z (chosen (leb n max && leb n (length s - next)))
    where
      chosen : (t : Bool) → need t TooLarge (got n (length p + next)) ≡ moved (length p) same (need t TooLarge (got n next))
      chosen true = refl
      chosen false = refl
  count_from max (Err r) = refl

  pub count_moved : (max : ℕ) → get_count (p ++ s) (length p + at) max ≡ moved (length p) same (get_count s at max)
  unfolding get_count
  count_moved max = rw varint_moved (count_from max (get_varint s at))

  bytes_from : (g : Got ℕ)
      → after (moved (length p) same g) (λ n next. got (record { start = next; len = n }) (next + n))
      ≡ moved (length p) (further (length p)) (after g (λ n next. got (record { start = next; len = n }) (next + n)))
  bytes_from (Ok (n, next)) =
      let z : length p + next + n ≡ length p + (next + n) = omega arith in
      rw z
  bytes_from (Err r) = refl

  pub bytes_moved : (max : ℕ) → get_bytes (p ++ s) (length p + at) max ≡ moved (length p) (further (length p)) (get_bytes s at max)
  unfolding get_bytes
  bytes_moved max = rw (count_moved max) (bytes_from (get_count s at max))

-- bytes behind
picked : (t : Bool) (g h : List ℕ) → (t ≡ false → g ≡ h) → pick t [] g ≡ pick t [] h
picked true g h f = refl
picked false g h f = f refl

groups_more : (l q : List ℕ) → has_last (groups l) ≡ true → groups (l ++ q) ≡ groups l
unfolding groups has_last
groups_more [] q e = let z : ◌≡◌ {A = ℕ} 0 1 = cc in absurd (omega arith)
groups_more (b ∷ bs) q e =
    ap (λ (t : List ℕ). b ∷ t) (picked (ltb b 128) (groups (bs ++ q)) (groups bs) (λ f. groups_more bs q ((rw f at e))))

module _ (s q : List ℕ) (at : ℕ) where
  pub varint_more : (v n : ℕ) → get_varint s at ≡ got v n → get_varint (s ++ q) at ≡ got v n
  varint_more v n e =
      let r : ReadVarint s at v n = varint_read s at v n e in
      let d : groups (drop at (s ++ q)) ≡ groups (drop at s) = rw (drop-append-le at s q (omega arith)) (groups_more (drop at s) q r.ended) in
      found (s ++ q) at (rw d r.ended) (rw d r.few) (rw d (omega arith)) (rw d (varint_short s at v n e)) ∙ rw (d, ← r.value, ← r.next)

  pub count_more : (max n next : ℕ) → get_count s at max ≡ got n next → get_count (s ++ q) at max ≡ got n next
  unfolding get_count
  count_more max n next f = counted (after_got (get_varint s at) _ f)
    where
      counted : (v : ℕ) × (x : ℕ) × (get_varint s at ≡ got v x) × (need (leb v max && leb v (length s - x)) TooLarge (got v x) ≡ got n next)
          → after (get_varint (s ++ q) at) (λ n next. need (leb n max && leb n (length (s ++ q) - next)) TooLarge (got n next)) ≡ got n next
      counted (v, x, e, g) =
          let p : (leb v max && leb v (length s - x) ≡ true) × (◌≡◌ {A = Got ℕ} (got v x) (got n next)) = need_got (leb v max && leb v (length s - x)) TooLarge (got v x) g in
          let t : (leb v max ≡ true) × (leb v (length s - x) ≡ true) = and_true (leb v max) (leb v (length s - x)) p.0 in
          let h : v ≤ length (s ++ q) - x = omega (arith, leb-true v (length s - x) t.1, length-append s q) in
          rw (varint_more v x e, t.0, le-leb v (length (s ++ q) - x) h) p.1

  pub bytes_more : (max n : ℕ) (b : Part) → get_bytes s at max ≡ got b n → get_bytes (s ++ q) at max ≡ got b n
  unfolding get_bytes
  bytes_more max n b f = told (after_got (get_count s at max) _ f)
    where
      told : (v : ℕ) × (x : ℕ) × (get_count s at max ≡ got v x) × (◌≡◌ {A = Got Part} (got (record { start = x; len = v }) (x + v)) (got b n))
          → after (get_count (s ++ q) at max) (λ n next. got (record { start = next; len = n }) (next + n)) ≡ got b n
      told (v, x, e, g) = rw (count_more max v x e) g

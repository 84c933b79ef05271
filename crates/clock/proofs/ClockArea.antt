-- A clock in a lent area: the turns of loading and storing, and that each undoes the other.
use Prim.Native.Nat.{ℕ, zero, suc, ◌+◌, ◌*◌, ◌≤◌, ◌<◌}
use mathlib.Core.Path.{◌≡◌, refl, sym, ◌∙◌, ap}
use mathlib.Core.List.{List, [], ◌∷◌, ◌++◌, append_assoc}
use native.Mathlib.Numerals.{add-one}
use native.Mathlib.Omega.{arith}
use lib.ListN.{length, take, drop, get_or, length-append, length-drop, take-append-drop}
use lib.Seq.{take-suc, take_all, drop_at, drop-drop, take-add, length-take-le, ext_get_or}
use Rattle.words.specs.Be.{AllBytes, be64, get64, bes, words_at, column}
use Rattle.words.specs.Areas.{put_at}
use Rattle.words.proofs.Words.{word_back, words_back, word_there, word_drop}
use Rattle.words.proofs.Puts.{put_nil, put_put, bes_append, length_bes, length_be}
use Rattle.clock.specs.declared.vector.VectorClock.{VectorClock}
use Rattle.clock.specs.Area.{clock_at, zipped, clock_bytes}

-- columns
pub length_column : (s : List ℕ) (at n : ℕ) → length (column s at n) ≡ n
unfolding column
length_column s at zero = refl
length_column s at (suc n) = ap suc (length_column s (at + 16) n)

pub column_at : (s : List ℕ) (at n k : ℕ) → k < n → get_or (column s at n) k 0 ≡ get64 s (at + 16 * k)
unfolding column
column_at s at zero k h = absurd (omega arith)
column_at s at (suc n) zero h =
    let e : at + 16 * 0 ≡ at = omega arith in
    rw e
column_at s at (suc n) (suc k) h =
    let e : at + 16 + 16 * k ≡ at + 16 * suc k = omega arith in
    rw e at (column_at s (at + 16) n k (omega arith))

-- an array that was filled word by word
pub column_is : (s l : List ℕ) (at i : ℕ) → length l ≡ 32 → i ≡ 32 → ((k : ℕ) → k < i → get_or l k 0 ≡ get64 s (at + 16 * k)) → l ≡ column s at 32
column_is s l at i h e f =
    ext_get_or 0 l (column s at 32) (h ∙ sym (length_column s at 32)) (λ k m. f k (omega arith) ∙ sym (column_at s at 32 k (omega arith)))

-- the bytes of i entries
unfoldable pub entry_bytes : VectorClock → ℕ → List ℕ
entry_bytes c i = bes (zipped (take i c.authors) (take i c.numbers))

length_zipped : (ks ns : List ℕ) → length ks ≡ length ns → length (zipped ks ns) ≡ 2 * length ks
unfolding zipped
length_zipped [] ns h = refl
length_zipped (k ∷ ks) [] h = absurd (omega arith)
length_zipped (k ∷ ks) (n ∷ ns) h = omega (arith, length_zipped ks ns (omega arith))

zipped_end : (ks ns : List ℕ) (a n : ℕ) → length ks ≡ length ns → zipped (ks ++ (a ∷ [])) (ns ++ (n ∷ [])) ≡ zipped ks ns ++ (a ∷ n ∷ [])
unfolding zipped
zipped_end [] [] a n h = refl
zipped_end [] (m ∷ ns) a n h = absurd (omega arith)
zipped_end (k ∷ ks) [] a n h = absurd (omega arith)
zipped_end (k ∷ ks) (m ∷ ns) a n h = ap (λ (l : List ℕ). k ∷ m ∷ l) (zipped_end ks ns a n (omega arith))

bes_two : (a n : ℕ) → bes (a ∷ n ∷ []) ≡ be64 a ++ be64 n
unfolding bes be64
bes_two a n = refl

pub store_start : (c : VectorClock) (s : List ℕ) (at : ℕ) → s ≡ put_at s at (entry_bytes c 0)
unfolding entry_bytes zipped bes
store_start c s at = put_nil s at

module _ (c : VectorClock) (la : length c.authors ≡ 32) (ln : length c.numbers ≡ 32) where
  same : (i : ℕ) → i ≤ 32 → length (take i c.authors) ≡ length (take i c.numbers)
  same i h = length-take-le i c.authors (omega arith) ∙ sym (length-take-le i c.numbers (omega arith))

  length_entry_bytes : (i : ℕ) → i ≤ 32 → length (entry_bytes c i) ≡ 16 * i
  unfolding entry_bytes
  length_entry_bytes i h =
      omega (
        arith,
        length_bes (zipped (take i c.authors) (take i c.numbers)),
        length_zipped (take i c.authors) (take i c.numbers) (same i h),
        length-take-le i c.authors (omega arith),
      )

  module _ (i : ℕ) (h : i < 32) where
    first : List ℕ
    first = be64 (get_or c.authors i 0)

    second : List ℕ
    second = be64 (get_or c.numbers i 0)

    entry_bytes_next : entry_bytes c (i + 1) ≡ (entry_bytes c i ++ first) ++ second
    unfolding entry_bytes first second
    entry_bytes_next =
        rw (
          add-one i,
          take-suc c.authors i 0 (omega arith),
          take-suc c.numbers i 0 (omega arith),
          zipped_end (take i c.authors) (take i c.numbers) (get_or c.authors i 0) (get_or c.numbers i 0) (same i (omega arith)),
          bes_append (zipped (take i c.authors) (take i c.numbers)) (get_or c.authors i 0 ∷ get_or c.numbers i 0 ∷ []),
          bes_two (get_or c.authors i 0) (get_or c.numbers i 0),
        ) (simp append_assoc)

    pub store_turn : (s₀ s t u : List ℕ) (at : ℕ) → at + 520 ≤ length s₀ → s ≡ put_at s₀ (at + 8) (entry_bytes c i)
        → t ≡ put_at s (at + 16 * i + 8) (be64 (get_or c.authors i 0)) → u ≡ put_at t (at + 16 * i + 16) (be64 (get_or c.numbers i 0))
        → u ≡ put_at s₀ (at + 8) (entry_bytes c (i + 1))
    unfolding first second
    store_turn s₀ s t u at r p q o =
        let lr : length (entry_bytes c i) ≡ 16 * i = length_entry_bytes i (omega arith) in
        let lf : length first ≡ 8 = length_be (get_or c.authors i 0) in
        let ls : length second ≡ 8 = length_be (get_or c.numbers i 0) in
        let lz : length (entry_bytes c i ++ first) ≡ 16 * i + 8 = length-append (entry_bytes c i) first ∙ omega arith in
        let tt' : t ≡ put_at s₀ (at + 8) (entry_bytes c i ++ first) =
        q ∙ rw p (put_put s₀ (entry_bytes c i) first (at + 8) (at + 16 * i + 8) (omega arith) (omega arith)) in
        o ∙ rw (tt', entry_bytes_next) (put_put s₀ (entry_bytes c i ++ first) second (at + 8) (at + 16 * i + 16) (omega arith) (omega arith))

  pub store_end : (s t u : List ℕ) (at i : ℕ) → at + 520 ≤ length s → i ≡ 32 → t ≡ put_at s at (be64 c.count) → u ≡ put_at t (at + 8) (entry_bytes c i)
      → u ≡ put_at s at (clock_bytes c)
  unfolding entry_bytes clock_bytes
  store_end s t u at i h e p q =
      let lc : length (be64 c.count) ≡ 8 = length_be c.count in
      let lr : length (bes (zipped c.authors c.numbers)) ≡ 512 =
      omega (
        arith,
        length_bes (zipped c.authors c.numbers),
        length_zipped c.authors c.numbers (la ∙ sym ln),
      ) in
      q
      ∙ rw (p, e, take_all 32 c.authors (omega arith), take_all 32 c.numbers (omega arith))
      (put_put s (be64 c.count) (bes (zipped c.authors c.numbers)) at (at + 8) (omega arith) (omega arith))

  pub length_bytes : length (clock_bytes c) ≡ 520
  unfolding clock_bytes
  length_bytes =
      length-append (be64 c.count) _
      ∙ omega (
        arith,
        length_be c.count,
        length_bes (zipped c.authors c.numbers),
        length_zipped c.authors c.numbers (la ∙ sym ln),
      )

-- storing what was loaded leaves the bytes
zipped_columns : (s : List ℕ) (at n : ℕ) → zipped (column s at n) (column s (at + 8) n) ≡ words_at s at (2 * n)
unfolding zipped column words_at
zipped_columns s at zero = refl
zipped_columns s at (suc n) =
    let e : 2 * suc n ≡ suc (suc (2 * n)) = omega arith in
    let f : at + 8 + 16 ≡ at + 16 + 8 = omega arith in
    let g : at + 8 + 8 ≡ at + 16 = omega arith in
    rw (e, f, g, zipped_columns s (at + 16) n)

put_same : (s : List ℕ) (at n : ℕ) → at + n ≤ length s → put_at s at (take n (drop at s)) ≡ s
unfolding put_at
put_same s at n h =
    let l : length (take n (drop at s)) ≡ n = length-take-le n (drop at s) (simp length-drop (omega arith)) in
    rw (l, ← drop-drop n at s, append_assoc (take at s) (take n (drop at s)) (drop n (drop at s)), take-append-drop n (drop at s))
    (take-append-drop at s)

pub bytes_back : (s : List ℕ) (at : ℕ) → AllBytes s → at + 520 ≤ length s → clock_bytes (clock_at s at) ≡ take 520 (drop at s)
unfolding clock_bytes clock_at
bytes_back s at b h =
    let f : at + 16 ≡ at + 8 + 8 = omega arith in
    rw (f, zipped_columns s (at + 8) 32, word_back s at b (omega arith), words_back s (at + 8) 64 b (omega arith), ← drop-drop 8 at s)
    (sym (take-add 8 512 (drop at s)))

pub store_load : (s : List ℕ) (at : ℕ) → AllBytes s → at + 520 ≤ length s → put_at s at (clock_bytes (clock_at s at)) ≡ s
store_load s at b h = rw (bytes_back s at b h) (put_same s at 520 h)

-- loading what was stored gives the clock back
abbrev pub Wide : List ℕ → Type 0
Wide l = (i : ℕ) → get_or l i 0 < 18446744073709551616

column_drop : (s : List ℕ) (a b n : ℕ) → column (drop a s) b n ≡ column s (a + b) n
unfolding column
column_drop s a b zero = refl
column_drop s a b (suc n) =
    let e : a + (b + 16) ≡ a + b + 16 = omega arith in
    rw (word_drop s a b, column_drop s a (b + 16) n, e)

authors_back : (ks ns q : List ℕ) → length ks ≡ length ns → Wide ks → column (bes (zipped ks ns) ++ q) 0 (length ks) ≡ ks
unfolding column zipped bes be64
authors_back [] ns q h w = refl
authors_back (k ∷ ks) [] q h w = absurd (omega arith)
authors_back (k ∷ ks) (n ∷ ns) q h w =
    let l : List ℕ = be64 k ++ (be64 n ++ bes (zipped ks ns)) ++ q in
    let g : get64 l 0 ≡ k = word_there k _ (w 0) in
    let r : column l 16 (length ks) ≡ ks = sym (column_drop l 16 0 (length ks)) ∙ authors_back ks ns q (omega arith) (λ i. w (suc i)) in
    rw (g, r)

numbers_back : (ks ns q : List ℕ) → length ks ≡ length ns → Wide ns → column (bes (zipped ks ns) ++ q) 8 (length ns) ≡ ns
unfolding column zipped bes be64
numbers_back [] [] q h w = refl
numbers_back [] (n ∷ ns) q h w = absurd (omega arith)
numbers_back (k ∷ ks) [] q h w = absurd (omega arith)
numbers_back (k ∷ ks) (n ∷ ns) q h w =
    let l : List ℕ = be64 k ++ (be64 n ++ bes (zipped ks ns)) ++ q in
    let g : get64 l 8 ≡ n = sym (word_drop l 8 0) ∙ word_there n _ (w 0) in
    let r : column l 24 (length ns) ≡ ns = sym (column_drop l 16 8 (length ns)) ∙ numbers_back ks ns q (omega arith) (λ i. w (suc i)) in
    rw (g, r)

put_there : (s x : List ℕ) (at : ℕ) → at ≤ length s → drop at (put_at s at x) ≡ x ++ drop (at + length x) s
unfolding put_at
put_there s x at h =
    rw (append_assoc (take at s) x (drop (at + length x) s)) (drop_at (take at s) (x ++ drop (at + length x) s) at (length-take-le at s h))

module _ (c : VectorClock) (la : length c.authors ≡ 32) (ln : length c.numbers ≡ 32) (q : List ℕ) where
  count_back : c.count < 18446744073709551616 → get64 (clock_bytes c ++ q) 0 ≡ c.count
  unfolding clock_bytes
  count_back h = rw (append_assoc (be64 c.count) (bes (zipped c.authors c.numbers)) q) (word_there c.count _ h)

  after_count : drop 8 (clock_bytes c ++ q) ≡ bes (zipped c.authors c.numbers) ++ q
  unfolding clock_bytes
  after_count =
      rw (append_assoc (be64 c.count) (bes (zipped c.authors c.numbers)) q) (drop_at (be64 c.count) _ 8 (length_be c.count))

  column_authors : Wide c.authors → column (clock_bytes c ++ q) 8 32 ≡ c.authors
  column_authors w =
      sym (column_drop (clock_bytes c ++ q) 8 0 32)
      ∙ rw (after_count, ← la) (authors_back c.authors c.numbers q (la ∙ sym ln) w)

  column_numbers : Wide c.numbers → column (clock_bytes c ++ q) 16 32 ≡ c.numbers
  column_numbers w =
      sym (column_drop (clock_bytes c ++ q) 8 8 32)
      ∙ rw (after_count, ← ln) (numbers_back c.authors c.numbers q (la ∙ sym ln) w)

pub load_store : (s : List ℕ) (at : ℕ) (c : VectorClock) → at + 520 ≤ length s → length c.authors ≡ 32 → length c.numbers ≡ 32
    → Wide c.authors → Wide c.numbers → c.count < 18446744073709551616 → clock_at (put_at s at (clock_bytes c)) at ≡ c
unfolding clock_at
load_store s at c h la ln wa wn wc = λ i. record { authors = fa i; numbers = fn i; count = fc i }
  where
    there : drop at (put_at s at (clock_bytes c)) ≡ clock_bytes c ++ drop (at + length (clock_bytes c)) s
    there = put_there s (clock_bytes c) at (omega arith)

    fa : column (put_at s at (clock_bytes c)) (at + 8) 32 ≡ c.authors
    fa = sym (column_drop (put_at s at (clock_bytes c)) at 8 32) ∙ rw there (column_authors c la ln (drop (at + length (clock_bytes c)) s) wa)

    fn : column (put_at s at (clock_bytes c)) (at + 16) 32 ≡ c.numbers
    fn = sym (column_drop (put_at s at (clock_bytes c)) at 16 32) ∙ rw there (column_numbers c la ln (drop (at + length (clock_bytes c)) s) wn)

    fc : get64 (put_at s at (clock_bytes c)) at ≡ c.count
    fc =
        let e : at ≡ at + 0 = omega arith in
        ap (λ (n : ℕ). get64 (put_at s at (clock_bytes c)) n) e ∙ sym (word_drop (put_at s at (clock_bytes c)) at 0)
        ∙ rw there (count_back c la ln (drop (at + length (clock_bytes c)) s) wc)

-- A clock and its entries: each tells the other where the rules hold.
use Prim.Native.Nat.{ℕ, zero, suc, ◌+◌, ◌-◌, ◌≤◌, ◌<◌}
use mathlib.Core.Path.{◌≡◌, refl, sym, ◌∙◌, ap}
use mathlib.Core.Bool.{true, ◌&&◌}
use mathlib.Core.List.{List, [], ◌∷◌}
use native.Mathlib.Numerals.{add-one}
use native.Mathlib.Omega.{arith}
use lib.Dec.{eqb, leb}
use lib.ListN.{length, take, drop, get_or, replicate, length-drop, take-append-drop}
use lib.Seq.{take_at, drop_at, get_or-take, length-take-le}
use borrow.Author.Tests.{eqb-true, leb-true, le-leb}
use Rattle.words.specs.Areas.{pad, Zero}
use Rattle.words.proofs.Conjunction.{and_left, and_right, and_both}
use Rattle.clock.specs.declared.vector.VectorClock.{VectorClock}
use Rattle.clock.specs.Entries.{rising}
use Rattle.clock.specs.Vector.{pairs, authors_of, numbers_of, zeros, entries, clock_of, sound}
use Rattle.clock.specs.Inside.Columns.{ascending}

-- pairs of two columns
pub authors_pairs : (ks ns : List ℕ) → length ks ≡ length ns → authors_of (pairs ks ns) ≡ ks
unfolding authors_of pairs
authors_pairs [] ns h = refl
authors_pairs (k ∷ ks) [] h = absurd (omega arith)
authors_pairs (k ∷ ks) (n ∷ ns) h = ap (λ (l : List ℕ). k ∷ l) (authors_pairs ks ns (omega arith))

pub numbers_pairs : (ks ns : List ℕ) → length ks ≡ length ns → numbers_of (pairs ks ns) ≡ ns
unfolding numbers_of pairs
numbers_pairs [] [] h = refl
numbers_pairs [] (n ∷ ns) h = absurd (omega arith)
numbers_pairs (k ∷ ks) [] h = absurd (omega arith)
numbers_pairs (k ∷ ks) (n ∷ ns) h = ap (λ (l : List ℕ). n ∷ l) (numbers_pairs ks ns (omega arith))

pub pairs_of : (es : List (ℕ × ℕ)) → pairs (authors_of es) (numbers_of es) ≡ es
unfolding authors_of numbers_of pairs
pairs_of [] = refl
pairs_of ((a, n) ∷ es) = ap (λ (l : List (ℕ × ℕ)). (a, n) ∷ l) (pairs_of es)

pub length_authors : (es : List (ℕ × ℕ)) → length (authors_of es) ≡ length es
unfolding authors_of
length_authors [] = refl
length_authors ((a, n) ∷ es) = ap suc (length_authors es)

pub length_numbers : (es : List (ℕ × ℕ)) → length (numbers_of es) ≡ length es
unfolding numbers_of
length_numbers [] = refl
length_numbers ((a, n) ∷ es) = ap suc (length_numbers es)

pub rising_pairs : (lo : ℕ) (ks ns : List ℕ) → length ks ≡ length ns → rising lo (pairs ks ns) ≡ ascending lo ks
unfolding rising ascending pairs
rising_pairs lo [] ns h = refl
rising_pairs lo (k ∷ ks) [] h = absurd (omega arith)
rising_pairs lo (k ∷ ks) (n ∷ ns) h = rw (rising_pairs (suc k) ks ns (omega arith))

drop_pairs : (ks ns : List ℕ) (i : ℕ) → i < length ks → length ks ≡ length ns
    → drop i (pairs ks ns) ≡ (get_or ks i 0, get_or ns i 0) ∷ drop (suc i) (pairs ks ns)
unfolding pairs
drop_pairs [] ns i h q = absurd (omega arith)
drop_pairs (k ∷ ks) [] i h q = absurd (omega arith)
drop_pairs (k ∷ ks) (n ∷ ns) zero h q = refl
drop_pairs (k ∷ ks) (n ∷ ns) (suc i) h q = drop_pairs ks ns i (omega arith) (omega arith)

-- zeros
pub zeros_all : (s : List ℕ) → zeros s ≡ true → Zero s
unfolding zeros
zeros_all [] h = refl
zeros_all (x ∷ s) h =
    let z : x ≡ 0 = eqb-true x 0 (and_left _ _ h) in
    rw z (ap (λ (l : List ℕ). 0 ∷ l) (zeros_all s (and_right (eqb x 0) _ h)))

pub zeros_replicate : (n : ℕ) → zeros (replicate n 0) ≡ true
unfolding zeros
zeros_replicate zero = refl
zeros_replicate (suc n) = zeros_replicate n

-- the entries of the one clock with these entries
pub entries_of : (es : List (ℕ × ℕ)) → entries (clock_of es) ≡ es
unfolding entries clock_of pad
entries_of es =
    rw (
      take_at (authors_of es) (replicate (32 - length (authors_of es)) 0) (length es) (length_authors es),
      take_at (numbers_of es) (replicate (32 - length (numbers_of es)) 0) (length es) (length_numbers es),
    ) (pairs_of es)

unused : (es : List (ℕ × ℕ)) (l : List ℕ) → length l ≡ length es → zeros (drop (length es) (pad 32 l)) ≡ true
unfolding pad
unused es l h = rw (drop_at l (replicate (32 - length l) 0) (length es) h) (zeros_replicate (32 - length l))

pub sound_of : (es : List (ℕ × ℕ)) → rising 0 es ≡ true → length es ≤ 32 → sound (clock_of es) ≡ true
unfolding sound clock_of
sound_of es r h =
    and_both _ _
    (and_both _ _ (and_both _ _ (le-leb (length es) 32 h) (kept (entries_of es))) (unused es (authors_of es) (length_authors es)))
    (unused es (numbers_of es) (length_numbers es))
  where
    kept : {ds : List (ℕ × ℕ)} → ds ≡ es → rising 0 ds ≡ true
    kept e = rw e r

-- a clock that keeps its rules
module _ (c : VectorClock) (s : sound c ≡ true) where
  pub sound_few : c.count ≤ 32
  unfolding sound
  sound_few = leb-true c.count 32 (and_left _ _ (and_left _ _ (and_left _ _ s)))

  pub sound_rising : rising 0 (entries c) ≡ true
  unfolding sound
  sound_rising = and_right (leb c.count 32) _ (and_left _ _ (and_left _ _ s))

  tails : zeros (drop c.count c.authors) && zeros (drop c.count c.numbers) ≡ true
  unfolding sound
  tails = and_both _ _ (and_right (leb c.count 32 && rising 0 (entries c)) _ (and_left _ _ s)) (and_right (leb c.count 32 && rising 0 (entries c) && zeros (drop c.count c.authors)) _ s)

  module _ (la : length c.authors ≡ 32) (ln : length c.numbers ≡ 32) where
    used : (l : List ℕ) → length l ≡ 32 → length (take c.count l) ≡ c.count
    used l h = length-take-le c.count l (omega (arith, sound_few))

    same : length (take c.count c.authors) ≡ length (take c.count c.numbers)
    same = used c.authors la ∙ sym (used c.numbers ln)

    pub used_authors : take c.count c.authors ≡ authors_of (entries c)
    unfolding entries
    used_authors = sym (authors_pairs _ _ same)

    pub used_numbers : take c.count c.numbers ≡ numbers_of (entries c)
    unfolding entries
    used_numbers = sym (numbers_pairs _ _ same)

    pub count_is : c.count ≡ length (entries c)
    count_is = sym (used c.authors la) ∙ ap length used_authors ∙ length_authors (entries c)

    padded : (l : List ℕ) → length l ≡ 32 → zeros (drop c.count l) ≡ true → pad 32 (take c.count l) ≡ l
    unfolding pad
    padded l h z =
        let e : length (drop c.count l) ≡ 32 - c.count = length-drop c.count l ∙ ap (λ (n : ℕ). n - c.count) h in
        let f : replicate (32 - c.count) 0 ≡ drop c.count l = rw (← e) (sym (zeros_all (drop c.count l) z)) in
        rw (used l h, f) (take-append-drop c.count l)

    pub authors_are : c.authors ≡ pad 32 (authors_of (entries c))
    authors_are = sym (rw used_authors at (padded c.authors la (and_left _ _ tails)))

    pub numbers_are : c.numbers ≡ pad 32 (numbers_of (entries c))
    numbers_are = sym (rw used_numbers at (padded c.numbers ln (and_right (zeros (drop c.count c.authors)) _ tails)))

    pub clock_is : clock_of (entries c) ≡ c
    unfolding clock_of
    clock_is = λ i. record { authors = sym authors_are i; numbers = sym numbers_are i; count = sym count_is i }

    -- one entry on
    pub entry_next : (i : ℕ) → i < c.count → drop i (entries c) ≡ (get_or c.authors i 0, get_or c.numbers i 0) ∷ drop (i + 1) (entries c)
    unfolding entries
    entry_next i h =
        rw (add-one i)
        (rw (get_or-take c.count c.authors i 0 h, get_or-take c.count c.numbers i 0 h) at
        (drop_pairs (take c.count c.authors) (take c.count c.numbers) i (rw (used c.authors la) h) same))

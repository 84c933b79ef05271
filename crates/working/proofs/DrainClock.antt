-- The clock in two columns: where an author stands, what is read and put there.
use Prim.Native.Nat.{ℕ, zero, suc, ◌+◌, ◌-◌, ◌*◌, ◌≤◌, ◌<◌}
use mathlib.Core.Path.{◌≡◌, refl, sym, ◌∙◌, ap}
use mathlib.Core.Bool.{true, false}
use mathlib.Core.Logic.{inl, inr}
use mathlib.Core.List.{List, [], ◌∷◌, ◌++◌, append_assoc}
use native.Mathlib.Numerals.{add-one}
use native.Mathlib.Omega.{arith}
use lib.Dec.{ltb, eqb}
use lib.ListN.{length, take, drop, get_or, set, length-set, length-take}
use lib.Seq.{get_or-take, length-take-le, take_at, ext_get_or, take-set-lt, take-suc-set, set-append_left}
use Rattle.std.proofs.Common.{Ok, Err, nat_cmp}
use Rattle.std.specs.List.{copy_within}
use Rattle.std.specs.List.Sorted.{IsBinarySearchResult}
use Rattle.std.proofs.lemmas.List.Sorted.{searched}
use borrow.Author.Tests.{eq-eqb, ne_eqb, lt-ltb, le-ltb}
use Rattle.words.specs.Be.{get64, column}
use Rattle.clock.specs.Area.{clock_at}
use Rattle.clock.specs.Entries.{get, put}
use Rattle.clock.specs.Inside.Columns.{put_in}
use Rattle.clock.specs.Vector.{pairs, entries, sound}
use Rattle.clock.proofs.ClockEntries.{sound_few, sound_rising}
use Rattle.clock.proofs.EntryLaws.{absent}
use Rattle.clock.proofs.RisingAuthors.{Rises, more, rises_of, rising_put}
use Rattle.words.proofs.Words.{lt_or_le}
use Rattle.clock.proofs.ClockArea.{length_column, column_at}
use Rattle.working.specs.Inside.Columns.{ins_at}
use Rattle.working.specs.Inside.DrainClock.{ticks, Clocked, Ticked}

-- rising authors, by index
pairs_rise : {lo : ℕ} (ks ns : List ℕ) → length ks ≡ length ns → Rises lo (pairs ks ns) → (j : ℕ) → j < length ks → lo ≤ get_or ks j 0
unfolding pairs
pairs_rise [] ns e r j h = absurd (omega arith)
pairs_rise (k ∷ ks) [] e r j h = absurd (omega arith)
pairs_rise (k ∷ ks) (n ∷ ns) e (more l r) zero h = l
pairs_rise (k ∷ ks) (n ∷ ns) e (more l r) (suc j) h = omega (arith, pairs_rise ks ns (omega arith) r j (omega arith))

pairs_ascend : {lo : ℕ} (ks ns : List ℕ) → length ks ≡ length ns → Rises lo (pairs ks ns) → (i j : ℕ) → i < j → j < length ks → get_or ks i 0 < get_or ks j 0
unfolding pairs
pairs_ascend [] ns e r i j h k = absurd (omega arith)
pairs_ascend (a ∷ ks) [] e r i j h k = absurd (omega arith)
pairs_ascend (a ∷ ks) (n ∷ ns) e (more l r) i zero h k = absurd (omega arith)
pairs_ascend (a ∷ ks) (n ∷ ns) e (more l r) zero (suc j) h k = omega (arith, pairs_rise ks ns (omega arith) r j (omega arith))
pairs_ascend (a ∷ ks) (n ∷ ns) e (more l r) (suc i) (suc j) h k = pairs_ascend ks ns (omega arith) r i j (omega arith) (omega arith)

module _ (ks ns : List ℕ) (n : ℕ) (c : Clocked ks ns n) where
  lk : length (take n ks) ≡ n
  lk = length-take-le n ks c.authors

  ln : length (take n ns) ≡ n
  ln = length-take-le n ns c.numbers

  rises : Rises 0 (pairs (take n ks) (take n ns))
  unfolding ticks
  rises = rises_of 0 _ c.rises

  ascend : (i j : ℕ) → i < j → j < length (take n ks) → get_or (take n ks) i 0 < get_or (take n ks) j 0
  ascend = pairs_ascend (take n ks) (take n ns) (lk ∙ sym ln) rises

  rise : (i j : ℕ) → i ≤ j → j < length (take n ks) → get_or (take n ks) i 0 ≤ get_or (take n ks) j 0
  rise i j h k = elim (lt_or_le i j) [
    | inl l ↦ omega (arith, ascend i j l k)
    | inr l ↦
        let e : i ≡ j = omega arith in
        rw e (omega arith)
  ]

-- what the place tells of two columns side by side
module _ (a v : ℕ) where
  pairs_here : (ks ns : List ℕ) (i : ℕ) → length ks ≡ length ns → i < length ks → ((j : ℕ) → j < i → get_or ks j 0 < a) → get_or ks i 0 ≡ a
      → (get (pairs ks ns) a ≡ get_or ns i 0) × (pairs ks (set ns i v) ≡ put (pairs ks ns) a v)
  unfolding pairs get put
  pairs_here [] ns i e h b q = absurd (omega arith)
  pairs_here (k ∷ ks) [] i e h b q = absurd (omega arith)
  pairs_here (k ∷ ks) (n ∷ ns) zero e h b q = (rw (eq-eqb k a q), rw (eq-eqb k a q) (ap (λ (x : ℕ). (x, v) ∷ pairs ks ns) q))
  pairs_here (k ∷ ks) (n ∷ ns) (suc i) e h b q =
      let l : k < a = b 0 (omega arith) in
      let r : (get (pairs ks ns) a ≡ get_or ns i 0) × (pairs ks (set ns i v) ≡ put (pairs ks ns) a v) =
      pairs_here ks ns i (omega arith) (omega arith) (λ j m. b (suc j) (omega arith)) q in
      let f : eqb k a ≡ false = ne_eqb k a (λ z. omega arith) in
      let g : ltb a k ≡ false = le-ltb a k (omega arith) in
      (rw f r.0, rw (f, g) (ap (λ (x : List (ℕ × ℕ)). (k, n) ∷ x) r.1))

  pairs_gap : {lo : ℕ} (ks ns : List ℕ) (i : ℕ) → length ks ≡ length ns → Rises lo (pairs ks ns) → i ≤ length ks → ((j : ℕ) → j < i → get_or ks j 0 < a)
      → ((j : ℕ) → i ≤ j → j < length ks → a < get_or ks j 0)
      → (get (pairs ks ns) a ≡ 0) × (pairs (ins_at i a ks) (ins_at i v ns) ≡ put (pairs ks ns) a v)
  unfolding pairs get put ins_at
  pairs_gap [] [] zero e r h b o = (refl, refl)
  pairs_gap [] [] (suc i) e r h b o = absurd (omega arith)
  pairs_gap [] (n ∷ ns) i e r h b o = absurd (omega arith)
  pairs_gap (k ∷ ks) [] i e r h b o = absurd (omega arith)
  pairs_gap (k ∷ ks) (n ∷ ns) zero e (more l r) h b o =
      let m : a < k = o 0 (omega arith) (omega arith) in
      let f : eqb k a ≡ false = ne_eqb k a (λ z. omega arith) in
      let g : ltb a k ≡ true = lt-ltb a k m in
      (rw f (absent a (omega arith) r), rw (f, g))
  pairs_gap (k ∷ ks) (n ∷ ns) (suc i) e (more l r) h b o =
      let m : k < a = b 0 (omega arith) in
      let q : (get (pairs ks ns) a ≡ 0) × (pairs (ins_at i a ks) (ins_at i v ns) ≡ put (pairs ks ns) a v) =
      pairs_gap ks ns i (omega arith) r (omega arith) (λ j p. b (suc j) (omega arith)) (λ j p x. o (suc j) (omega arith) (omega arith)) in
      let f : eqb k a ≡ false = ne_eqb k a (λ z. omega arith) in
      let g : ltb a k ≡ false = le-ltb a k (omega arith) in
      (rw f q.0, rw (f, g) (ap (λ (x : List (ℕ × ℕ)). (k, n) ∷ x) q.1))

-- the elements from i on moved up by one, and v written in the gap
pub put_is : (s t : List ℕ) (n i v : ℕ) → i ≤ n → n + 1 ≤ length s → t ≡ copy_within s i n (i + 1) → set t i v ≡ put_in s n i v
unfolding put_in
put_is s t n i v h l e =
    let f : i + 1 + (n - i) ≡ n + 1 = omega arith in
    rw (
      e,
      f,
      add-one i,
      append_assoc (take (suc i) s) (take (n - i) (drop i s)) (drop (n + 1) s),
      set-append_left (take (suc i) s) (take (n - i) (drop i s) ++ drop (n + 1) s) i v (simp length-take (omega arith)),
      ← take-set-lt (suc i) s i v (omega arith),
      take-suc-set s i v (omega arith),
      append_assoc (take i s) (v ∷ []) (take (n - i) (drop i s) ++ drop (n + 1) s),
    )

-- the first n + 1 of a row into which v was put
in_take : (s : List ℕ) (n i v : ℕ) → i ≤ n → n ≤ length s → take (n + 1) (put_in s n i v) ≡ ins_at i v (take n s)
unfolding put_in ins_at
in_take s n zero v h l =
    let e : n - 0 ≡ n = omega arith in
    rw (add-one n, e) (ap (λ (x : List ℕ). v ∷ x) (take_at (take n s) _ n (length-take-le n s l)))
in_take [] zero (suc i) v h l = absurd (omega arith)
in_take [] (suc n) (suc i) v h l = absurd (omega arith)
in_take (x ∷ s) zero (suc i) v h l = absurd (omega arith)
in_take (x ∷ s) (suc n) (suc i) v h l =
    let e : suc n - suc i ≡ n - i = omega arith in
    let f : suc n + 1 ≡ suc (n + 1) = omega arith in
    rw (e, f) (ap (λ (y : List ℕ). x ∷ y) (in_take s n i v (omega arith) (omega arith)))

-- what the search for an author tells
module _ (ks ns : List ℕ) (n a : ℕ) (c : Clocked ks ns n) (i : ℕ) where
  module _ (s : IsBinarySearchResult (λ y. nat_cmp y a) (take n ks) (Ok i)) where
    place : (i < length (take n ks)) × (get_or (take n ks) i 0 ≡ a)
    place = searched (take n ks) a (Ok i) s (rise ks ns n c)

    pub below : i < n
    below = omega (arith, place.0, lk ks ns n c)

    here_is : (v : ℕ)
        → (get (pairs (take n ks) (take n ns)) a ≡ get_or (take n ns) i 0) × (pairs (take n ks) (set (take n ns) i v) ≡ put (pairs (take n ks) (take n ns)) a v)
    here_is v =
        pairs_here a v (take n ks) (take n ns) i (lk ks ns n c ∙ sym (ln ks ns n c)) place.0 (λ j h. rw place.1 at (ascend ks ns n c j i h place.0)) place.1

    pub get_here : get_or ns i 0 ≡ get (ticks ks ns n) a
    unfolding ticks
    get_here = sym ((here_is 0).0 ∙ get_or-take n ns i 0 below)

    pub put_here : (v : ℕ) → Ticked ks ns n a v ks (set ns i v) n
    unfolding ticks
    put_here v =
        let e : take n (set ns i v) ≡ set (take n ns) i v = take-set-lt n ns i v below in
        let q : pairs (take n ks) (take n (set ns i v)) ≡ put (pairs (take n ks) (take n ns)) a v = rw e (here_is v).1 in
        record {
          is = q;
          clocked = record { authors = c.authors; numbers = rw (length-set ns i v) c.numbers; rises = rw q (rising_put _ c.rises a v) };
          few = omega arith;
        }

  module _ (s : IsBinarySearchResult (λ y. nat_cmp y a) (take n ks) (Err i)) where
    gap : (i ≤ length (take n ks)) × ((k : ℕ) → k < i → get_or (take n ks) k 0 < a) × ((k : ℕ) → i ≤ k → k < length (take n ks) → a < get_or (take n ks) k 0)
    gap = searched (take n ks) a (Err i) s (rise ks ns n c)

    pub within : i ≤ n
    within = omega (arith, gap.0, lk ks ns n c)

    gap_is : (v : ℕ) → (get (pairs (take n ks) (take n ns)) a ≡ 0) × (pairs (ins_at i a (take n ks)) (ins_at i v (take n ns)) ≡ put (pairs (take n ks) (take n ns)) a v)
    gap_is v = pairs_gap a v (take n ks) (take n ns) i (lk ks ns n c ∙ sym (ln ks ns n c)) (rises ks ns n c) gap.0 gap.1 gap.2

    pub get_gap : 0 ≡ get (ticks ks ns n) a
    unfolding ticks
    get_gap = sym (gap_is 0).0

    pub put_gap : (v : ℕ) (ks' ns' : List ℕ) → n + 1 ≤ length ks → n + 1 ≤ length ns → length ks' ≡ length ks → length ns' ≡ length ns
        → ks' ≡ put_in ks n i a → ns' ≡ put_in ns n i v → Ticked ks ns n a v ks' ns' (n + 1)
    unfolding ticks
    put_gap v ks' ns' hk hn lk' ln' ek en =
        let q : pairs (take (n + 1) ks') (take (n + 1) ns') ≡ put (pairs (take n ks) (take n ns)) a v =
        rw (ek, en, in_take ks n i a within c.authors, in_take ns n i v within c.numbers) (gap_is v).1 in
        record {
          is = q;
          clocked = record { authors = omega arith; numbers = omega arith; rises = rw q (rising_put _ c.rises a v) };
          few = omega arith;
        }

-- the clock of a head area
column_is : (s l : List ℕ) (at n : ℕ) → n ≤ 32 → n ≤ length l → ((k : ℕ) → k < n → get_or l k 0 ≡ get64 s (at + 16 * k)) → take n l ≡ take n (column s at 32)
column_is s l at n h m f =
    let lc : length (column s at 32) ≡ 32 = length_column s at 32 in
    let la : length (take n l) ≡ n = length-take-le n l m in
    let lb : length (take n (column s at 32)) ≡ n = length-take-le n (column s at 32) (omega arith) in
    ext_get_or 0 (take n l) (take n (column s at 32)) (la ∙ sym lb)
    (λ k g.
    let g' : k < n = omega arith in
    get_or-take n l k 0 g' ∙ f k g' ∙ sym (get_or-take n (column s at 32) k 0 g' ∙ column_at s at 32 k (omega arith)))

pub head_few : (s : List ℕ) (at n : ℕ) → sound (clock_at s at) ≡ true → n ≡ get64 s at → n ≤ 32
unfolding clock_at
head_few s at n t e = omega (arith, sound_few (clock_at s at) t)

module _ (s ks ns : List ℕ) (n i : ℕ) (t : sound (clock_at s 48) ≡ true) (e : n ≡ get64 s 48) (ei : i ≡ n) (hk : 32 ≤ length ks) (hn : 32 ≤ length ns)
    (fk : (k : ℕ) → k < i → get_or ks k 0 ≡ get64 s (56 + 16 * k)) (fn : (k : ℕ) → k < i → get_or ns k 0 ≡ get64 s (64 + 16 * k)) where
  few : n ≤ 32
  few = head_few s 48 n t e

  pub start_is : ticks ks ns n ≡ entries (clock_at s 48)
  unfolding ticks entries clock_at
  start_is =
      rw (
        ← e,
        column_is s ks 56 n few (omega (arith, few)) (λ k h. fk k (omega arith)),
        column_is s ns 64 n few (omega (arith, few)) (λ k h. fn k (omega arith)),
      )

  pub start_clocked : Clocked ks ns n
  start_clocked = record { authors = omega (arith, few); numbers = omega (arith, few); rises = rw start_is (sound_rising (clock_at s 48) t) }

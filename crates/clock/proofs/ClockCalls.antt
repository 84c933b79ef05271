-- The calls of a clock that keeps its rules: what the code finds in its columns is what its entries say.
use Prim.Native.Nat.{ℕ, suc, ◌+◌, ◌≤◌, ◌<◌, max}
use mathlib.Core.Path.{◌≡◌, refl, sym, ◌∙◌, ap}
use mathlib.Core.Bool.{true, false, ◌&&◌}
use mathlib.Core.Logic.{inl, inr}
use mathlib.Core.List.{List, []}
use native.Mathlib.Omega.{arith}
use lib.Dec.{leb}
use lib.ListN.{length, take, drop, get_or, set, length-append, length-take, length-drop, drop_of_length-le}
use lib.Seq.{get_or-take, set-get_or}
use borrow.Author.Tests.{le-leb, lt-leb, leb-true, leb-false, le-ltb}
use Rattle.words.specs.Areas.{pad}
use Rattle.words.proofs.Words.{test}
use Rattle.error.specs.declared.Refusal.{Refusal}
use Rattle.error.specs.declared.Refusal.TheVariants.{AuthorsFull}
use Rattle.error.specs.Answer.{Answer, done, refused, nothing, ends}
use Rattle.error.specs.declared.Ends.{Ends}
use Rattle.std.specs.declared.result.Result.TheVariants.{Ok, Err}
use Rattle.clock.specs.declared.vector.VectorClock.{VectorClock}
use Rattle.clock.specs.Entries.{get, put, observe, enter, merge, dominates}
use Rattle.clock.specs.Vector.{authors_of, numbers_of, entries, clock_of, sound, grown}
use Rattle.clock.specs.Inside.Columns.{Place, search, put_in}
use Rattle.clock.proofs.RisingAuthors.{rises_of, rising_observe}
use Rattle.clock.proofs.EntryLaws.{observe_enter, merge_longer}
use Rattle.clock.proofs.ClockEntries.{length_authors, length_numbers, entries_of, sound_of, sound_few, sound_rising, used_authors, used_numbers, count_is, authors_are, numbers_are, clock_is, entry_next}
use Rattle.clock.proofs.AuthorSearch.{Found, at_here, at_gap, found_is, ins, in_pad, set_pad}

-- entries that are at most 32, or more
module _ {A : Type 0} (c : VectorClock) (es : List (ℕ × ℕ)) (a : A) where
  pub grown_yes : length es ≤ 32 → record { answer = done a; left = clock_of es } ≡ grown c es a
  unfolding grown
  grown_yes h = rw (le-leb (length es) 32 h)

  pub grown_no : 32 < length es → ends (refused AuthorsFull) c ≡ grown c es a
  unfolding grown
  grown_no h = rw (lt-leb (length es) 32 h)

-- where the answer is known
pub grown_clock : (c d : VectorClock) (es : List (ℕ × ℕ)) (o : Answer Unit) → length es ≤ 32 → record { answer = o; left = d } ≡ grown c es nothing → d ≡ clock_of es
grown_clock c d es o h e = ap (λ (r : Ends Unit VectorClock). r.left) (e ∙ sym (grown_yes c es nothing h))

length_ins : (i v : ℕ) (l : List ℕ) → i ≤ length l → length (ins i v l) ≡ suc (length l)
unfolding ins
length_ins i v l h = simp (length-append, length-take, length-drop) (omega arith)

module _ (c : VectorClock) (s : sound c ≡ true) (la : length c.authors ≡ 32) (ln : length c.numbers ≡ 32) (a n i : ℕ) where
  abbrev Found_at : Place → Type 0
  Found_at p = p ≡ search (take c.count c.authors) a

  view : (p : Place) → Found_at p → Found a n (entries c) p
  view p e = found_is a n (entries c) (take c.count c.authors) p (rises_of 0 (entries c) (sound_rising c s)) (used_authors c s la ln) e

  here_below' : Found a n (entries c) (Ok i) → i < c.count
  here_below' (at_here h g p q) = omega (arith, count_is c s la ln)

  pub here_below : Found_at (Ok i) → i < c.count
  here_below e = here_below' (view (Ok i) e)

  gap_below' : Found a n (entries c) (Err i) → i ≤ c.count
  gap_below' (at_gap h g p q) = omega (arith, count_is c s la ln)

  pub gap_below : Found_at (Err i) → i ≤ c.count
  gap_below e = gap_below' (view (Err i) e)

  get_here' : i < c.count → Found a n (entries c) (Ok i) → get_or c.numbers i 0 ≡ get (entries c) a
  get_here' k (at_here h g p q) =
      sym (get_or-take c.count c.numbers i 0 k) ∙ rw (used_numbers c s la ln) (sym g)

  pub get_here : Found_at (Ok i) → get_or c.numbers i 0 ≡ get (entries c) a
  get_here e = get_here' (here_below e) (view (Ok i) e)

  get_gap' : Found a n (entries c) (Err i) → 0 ≡ get (entries c) a
  get_gap' (at_gap h g p q) = sym g

  pub get_gap : Found_at (Err i) → 0 ≡ get (entries c) a
  get_gap e = get_gap' (view (Err i) e)

  -- the number is set where the author stands
  put_here' : Found a n (entries c) (Ok i)
      → record { answer = done nothing; left = record { authors = c.authors; numbers = set c.numbers i n; count = c.count } } ≡ grown c (put (entries c) a n) nothing
  unfolding clock_of
  put_here' (at_here h g p q) =
      let few : c.count ≤ 32 = sound_few c s in
      let ct : c.count ≡ length (entries c) = count_is c s la ln in
      let le : length (put (entries c) a n) ≡ length (entries c) =
      sym (length_authors (put (entries c) a n)) ∙ ap length p ∙ length_authors (entries c) in
      let ea : c.authors ≡ pad 32 (authors_of (put (entries c) a n)) = authors_are c s la ln ∙ ap (pad 32) (sym p) in
      let en : set c.numbers i n ≡ pad 32 (numbers_of (put (entries c) a n)) =
      ap (λ (l : List ℕ). set l i n) (numbers_are c s la ln) ∙ set_pad (numbers_of (entries c)) i n (omega (arith, length_numbers (entries c)))
      ∙ ap (pad 32) (sym q) in
      let ec : c.count ≡ length (put (entries c) a n) = ct ∙ sym le in
      (λ j. record { answer = done nothing; left = record { authors = ea j; numbers = en j; count = ec j } })
      ∙ grown_yes c (put (entries c) a n) nothing (omega arith)

  pub put_here : Found_at (Ok i)
      → record { answer = done nothing; left = record { authors = c.authors; numbers = set c.numbers i n; count = c.count } } ≡ grown c (put (entries c) a n) nothing
  put_here e = put_here' (view (Ok i) e)

  -- no place is left
  put_full' : c.count ≡ 32 → Found a n (entries c) (Err i) → ends (refused AuthorsFull) c ≡ grown c (put (entries c) a n) nothing
  put_full' k (at_gap h g p q) =
      grown_no c (put (entries c) a n) nothing
      (omega (
        arith,
        count_is c s la ln,
        length_authors (put (entries c) a n),
        length_authors (entries c),
        ap length p ∙ length_ins i a (authors_of (entries c)) (omega (arith, length_authors (entries c))),
      ))

  pub put_full : c.count ≡ 32 → Found_at (Err i) → ends (refused AuthorsFull) c ≡ grown c (put (entries c) a n) nothing
  put_full k e = put_full' k (view (Err i) e)

  -- the author is put in
  put_gap' : (ks ns : List ℕ) → (c.count ≡ 32 → ⊥) → ks ≡ put_in c.authors c.count i a → ns ≡ put_in c.numbers c.count i n → Found a n (entries c) (Err i)
      → record { answer = done nothing; left = record { authors = ks; numbers = ns; count = c.count + 1 } } ≡ grown c (put (entries c) a n) nothing
  unfolding clock_of
  put_gap' ks ns k ek en (at_gap h g p q) =
      let few : c.count ≤ 32 = sound_few c s in
      let ct : c.count ≡ length (entries c) = count_is c s la ln in
      let lk : length (authors_of (entries c)) ≡ c.count = length_authors (entries c) ∙ sym ct in
      let lm : length (numbers_of (entries c)) ≡ c.count = length_numbers (entries c) ∙ sym ct in
      let le : length (put (entries c) a n) ≡ suc (length (entries c)) =
      sym (length_authors (put (entries c) a n)) ∙ ap length p ∙ length_ins i a (authors_of (entries c)) (omega arith) ∙ ap suc (length_authors (entries c)) in
      let fa : ks ≡ pad 32 (authors_of (put (entries c) a n)) =
      ek ∙ ap (λ (l : List ℕ). put_in l c.count i a) (authors_are c s la ln)
      ∙ in_pad (authors_of (entries c)) c.count i a lk (omega arith) (omega arith) ∙ ap (pad 32) (sym p) in
      let fn : ns ≡ pad 32 (numbers_of (put (entries c) a n)) =
      en ∙ ap (λ (l : List ℕ). put_in l c.count i n) (numbers_are c s la ln)
      ∙ in_pad (numbers_of (entries c)) c.count i n lm (omega arith) (omega arith) ∙ ap (pad 32) (sym q) in
      let fc : c.count + 1 ≡ length (put (entries c) a n) = omega arith in
      (λ j. record { answer = done nothing; left = record { authors = fa j; numbers = fn j; count = fc j } })
      ∙ grown_yes c (put (entries c) a n) nothing (omega arith)

  pub put_gap : (ks ns : List ℕ) → (c.count ≡ 32 → ⊥) → Found_at (Err i) → ks ≡ put_in c.authors c.count i a → ns ≡ put_in c.numbers c.count i n
      → record { answer = done nothing; left = record { authors = ks; numbers = ns; count = c.count + 1 } } ≡ grown c (put (entries c) a n) nothing
  put_gap ks ns k e ek en = put_gap' ks ns k ek en (view (Err i) e)

-- entering: a number that is not below is put
pub enter_put : (c : VectorClock) (a n have : ℕ) (r : Ends Unit VectorClock) → have ≡ get (entries c) a → have ≤ n → r ≡ grown c (put (entries c) a n) nothing
    → r ≡ grown c (enter (entries c) a n) nothing
unfolding enter
enter_put c a n have r e h q = let z : max (get (entries c) a) n ≡ n = omega arith in rw z q

module _ (c : VectorClock) (s : sound c ≡ true) (la : length c.authors ≡ 32) (ln : length c.numbers ≡ 32) where
  -- any other leaves the one that stands there
  pub enter_less : (a n i : ℕ) → Ok i ≡ search (take c.count c.authors) a → n ≤ get_or c.numbers i 0
      → record { answer = done nothing; left = c } ≡ grown c (enter (entries c) a n) nothing
  unfolding enter
  enter_less a n i f h =
      let e : get_or c.numbers i 0 ≡ get (entries c) a = get_here c s la ln a n i f in
      let z : max (get (entries c) a) n ≡ get_or c.numbers i 0 = omega arith in
      rw z
      ((λ j. record { answer = done nothing; left = record { authors = c.authors; numbers = sym (set-get_or c.numbers i 0) j; count = c.count } })
      ∙ put_here c s la ln a (get_or c.numbers i 0) i f)

  -- observing: 0 leaves the clock, any other number is entered
  pub observe_zero : (a n : ℕ) → n ≡ 0 → record { answer = done nothing; left = c } ≡ grown c (observe (entries c) a n) nothing
  unfolding observe
  observe_zero a n e =
      rw (le-ltb (get (entries c) a) n (omega arith))
      ((λ j. record { answer = done nothing; left = sym (clock_is c s la ln) j })
      ∙ grown_yes c (entries c) nothing (omega (arith, count_is c s la ln, sound_few c s)))

  pub observe_other : (a n : ℕ) (r : Ends Unit VectorClock) → (n ≡ 0 → ⊥) → r ≡ grown c (enter (entries c) a n) nothing
      → r ≡ grown c (observe (entries c) a n) nothing
  observe_other a n r h q = rw (observe_enter (entries c) a n (rises_of 0 (entries c) (sound_rising c s)) (omega (arith, h))) q

-- what a known answer tells
module _ (c : VectorClock) (es : List (ℕ × ℕ)) (q : Ends Unit VectorClock) (e : q ≡ grown c es nothing) where
  pub grown_done : q.answer ≡ done nothing → (length es ≤ 32) × (q.left ≡ clock_of es)
  unfolding grown
  grown_done d =
      elim (test (leb (length es) 32)) [
        | inl h ↦ (leb-true (length es) 32 h, grown_clock c q.left es q.answer (leb-true (length es) 32 h) e)
        | inr h ↦
            let n : refused AuthorsFull ≡ done nothing = sym (ap (λ (r : Ends Unit VectorClock). r.answer) (rw h at e)) ∙ d in
            absurd (let z : ◌≡◌ {A = ℕ} 0 1 = cc in omega arith)
      ]

  pub grown_refused : (r : Refusal) → q.answer ≡ refused r → (32 < length es) × (r ≡ AuthorsFull) × (q.left ≡ c)
  unfolding grown
  grown_refused r d =
      elim (test (leb (length es) 32)) [
        | inl h ↦
            let n : done nothing ≡ refused r = sym (ap (λ (x : Ends Unit VectorClock). x.answer) (rw h at e)) ∙ d in
            absurd (let z : ◌≡◌ {A = ℕ} 0 1 = cc in omega arith)
        | inr h ↦
            let n : refused AuthorsFull ≡ refused r = sym (ap (λ (x : Ends Unit VectorClock). x.answer) (rw h at e)) ∙ d in
            (leb-false (length es) 32 h, cc, ap (λ (x : Ends Unit VectorClock). x.left) (rw h at e))
      ]

  -- the same answer with a number
  pub grown_number : (n : ℕ) → q.answer ≡ done nothing → record { answer = done n; left = q.left } ≡ grown c es n
  grown_number n d =
      (λ j. record { answer = done n; left = (grown_done d).1 j }) ∙ grown_yes c es n (grown_done d).0

  pub grown_stop : (n : ℕ) (r : Refusal) → q.answer ≡ refused r → record { answer = refused r; left = q.left } ≡ grown c es n
  grown_stop n r d =
      (λ j. record { answer = refused ((grown_refused r d).1 j); left = (grown_refused r d).2 j })
      ∙ grown_no c es n (grown_refused r d).0

-- covering, entry by entry: i entries are covered
abbrev pub Covering : VectorClock → VectorClock → ℕ → Type 0
Covering c d i = dominates (entries c) (entries d) ≡ dominates (entries c) (drop i (entries d))

module _ (c d : VectorClock) (sd : sound d ≡ true) (la : length d.authors ≡ 32) (ln : length d.numbers ≡ 32) where
  module _ (i have want : ℕ) (h : i < d.count) (g : have ≡ get (entries c) (get_or d.authors i 0)) (w : want ≡ get_or d.numbers i 0) (inv : Covering c d i) where
    one : dominates (entries c) (entries d) ≡ leb want have && dominates (entries c) (drop (i + 1) (entries d))
    unfolding dominates
    one = inv ∙ rw (entry_next d sd la ln i h, ← g, ← w)

    pub cover_turn : want ≤ have → Covering c d (i + 1)
    cover_turn l = one ∙ rw (le-leb want have l)

    pub cover_not : have < want → false ≡ dominates (entries c) (entries d)
    cover_not l = sym (one ∙ rw (lt-leb want have l))

  all_passed : (i : ℕ) → d.count ≤ i → drop i (entries d) ≡ []
  all_passed i h = drop_of_length-le (entries d) {i = i} (omega (arith, count_is d sd la ln))

  pub cover_end : (i : ℕ) → d.count ≤ i → Covering c d i → true ≡ dominates (entries c) (entries d)
  unfolding dominates
  cover_end i h inv = sym (inv ∙ rw (all_passed i h))

-- merging, entry by entry: where e is the clock so far, and i entries of d are observed
pub record Merging (c d e : VectorClock) (i : ℕ) : Type 0 where
  pub keeps : sound e ≡ true
  pub few : length (entries e) ≤ 32
  pub whole : clock_of (entries e) ≡ e
  pub left : merge (entries c) (entries d) ≡ merge (entries e) (drop i (entries d))

pub merge_start : (c d : VectorClock) → sound c ≡ true → length c.authors ≡ 32 → length c.numbers ≡ 32 → Merging c d c 0
merge_start c d s la ln = record {
  keeps = s;
  few = omega (arith, count_is c s la ln, sound_few c s);
  whole = clock_is c s la ln;
  left = refl;
}

module _ (c d e : VectorClock) (sd : sound d ≡ true) (la : length d.authors ≡ 32) (ln : length d.numbers ≡ 32) (i : ℕ) (inv : Merging c d e i) where
  pub merge_end : d.count ≤ i → record { answer = done nothing; left = e } ≡ grown c (merge (entries c) (entries d)) nothing
  unfolding merge
  merge_end h =
      let m : merge (entries c) (entries d) ≡ entries e = inv.left ∙ rw (all_passed c d sd la ln i h) in
      rw m ((λ j. record { answer = done nothing; left = sym inv.whole j }) ∙ grown_yes c (entries e) nothing inv.few)

  module _ (a n : ℕ) (q : Ends Unit VectorClock) (h : i < d.count) (ea : a ≡ get_or d.authors i 0) (en : n ≡ get_or d.numbers i 0)
      (step : q ≡ grown e (observe (entries e) a n) nothing) where
    on : merge (entries c) (entries d) ≡ merge (observe (entries e) a n) (drop (i + 1) (entries d))
    unfolding merge
    on = inv.left ∙ rw (entry_next d sd la ln i h, ← ea, ← en)

    pub merge_turn : q.answer ≡ done nothing → Merging c d q.left (i + 1)
    merge_turn t =
        let es : List (ℕ × ℕ) = observe (entries e) a n in
        let f : length (observe (entries e) a n) ≤ 32 = (grown_done e (observe (entries e) a n) q step t).0 in
        let k : q.left ≡ clock_of (observe (entries e) a n) = (grown_done e (observe (entries e) a n) q step t).1 in
        let o : entries q.left ≡ observe (entries e) a n = ap entries k ∙ entries_of (observe (entries e) a n) in
        record {
          keeps = rw k (sound_of (observe (entries e) a n) (rising_observe (entries e) (sound_rising e inv.keeps) a n) f);
          few = rw o f;
          whole = ap clock_of o ∙ sym k;
          left = on ∙ ap (λ (l : List (ℕ × ℕ)). merge l (drop (i + 1) (entries d))) (sym o);
        }

    pub merge_stop : (r : Refusal) → q.answer ≡ refused r → ends (refused r) c ≡ grown c (merge (entries c) (entries d)) nothing
    merge_stop r t =
        let full = grown_refused e (observe (entries e) a n) q step r t in
        rw full.1
        (grown_no c (merge (entries c) (entries d)) nothing
        (rw on (omega (arith, full.0, merge_longer (observe (entries e) a n) (drop (i + 1) (entries d))))))

-- entries that fit are taken, and the answer is yes
pub grown_fits : (c d : VectorClock) (es : List (ℕ × ℕ)) {r : Answer Unit} → length es ≤ 32 → ends r d ≡ grown c es nothing → (r ≡ done nothing) × (d ≡ clock_of es)
grown_fits c d es {r} h e =
    let same : ends r d ≡ record { answer = done nothing; left = clock_of es } = e ∙ sym (grown_yes c es nothing h) in
    (ap (λ (x : Ends Unit VectorClock). x.answer) same, ap (λ (x : Ends Unit VectorClock). x.left) same)

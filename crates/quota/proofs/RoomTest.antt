-- Whether the logged rows find room: in the log, the clock and the watermarks.
use Prim.Native.Nat.{ℕ, zero, suc, ◌+◌, ◌*◌, ◌≤◌, ◌<◌}
use mathlib.Core.Path.{◌≡◌, refl, sym, ◌∙◌, ap}
use mathlib.Core.Bool.{Bool, true, false}
use mathlib.Core.List.{List, [], ◌∷◌}
use native.Mathlib.Numerals.{add-one}
use native.Mathlib.Omega.{arith}
use lib.Dec.{leb, eqb}
use lib.ListN.{length, take, drop, get_or, set}
use lib.Seq.{length-take-le, get_or-take, drop-cons, drop-set-lt}
use borrow.Author.Tests.{leb-true, le-leb, lt-leb}
use Rattle.words.specs.Be.{get64, column}
use Rattle.words.proofs.Conjunction.{and_right, and_both}
use Rattle.error.specs.declared.Refusal.{Refusal}
use Rattle.error.specs.declared.Refusal.TheVariants.{LogFull, AuthorsFull}
use Rattle.error.specs.Answer.{done, refused, nothing}
use Rattle.error.specs.declared.Ends.{Ends}
use Rattle.clock.specs.declared.vector.VectorClock.{VectorClock}
use Rattle.clock.specs.Entries.{rising, observe}
use Rattle.clock.specs.Vector.{pairs, authors_of, zeros, entries, clock_of, sound, grown}
use Rattle.clock.proofs.ClockEntries.{entries_of, sound_of, sound_rising}
use Rattle.clock.proofs.RisingAuthors.{rises_of, rising_observe}
use Rattle.clock.proofs.EntryLaws.{observe_longer}
use Rattle.clock.proofs.ClockCalls.{grown_done, grown_refused}
use Rattle.row.specs.Rows.{Row}
use Rattle.replicated_log.specs.Store.{Mark, Store, marks_rise}
use Rattle.replicated_log.specs.Areas.{capacity, marks_at, rows_of}
use Rattle.replicated_log.specs.Inside.Units.{unit_of}
use Rattle.replicated_log.specs.Inside.StoreTests.{marks_in}
use Rattle.replicated_log.specs.Inside.StoreChanges.{Stored, Sound, numbered, run}
use Rattle.replicated_log.proofs.Store.Rules.{kept, length_rows}
use Rattle.replicated_log.proofs.Logging.LoggedRow.{stored_count, stored_marks}
use Rattle.replicated_log.proofs.Calls.Changes.{fits_full, fits_authors, fits_done, sound_marks}
use Rattle.replicated_log.proofs.Calls.Restoration.{authors, run_authors, all_length}
use Rattle.working.specs.Inside.References.{work_rows}
use Rattle.working.specs.Inside.Looks.{ref_row}
use Rattle.working.proofs.ScratchColumns.{length_cells}
use Rattle.quota.specs.Inside.Authors.{marked, Marked}
use Rattle.quota.specs.Inside.Room.{rows_logged, Rooms}
use Rattle.quota.proofs.AuthorCounts.{left, left_all, left_next, left_none, length_work}
use Rattle.replicated_log.specs.Insertion.{insert_all}

-- ---- the watermarks as a clock
pairs_marked : (s ks ns : List ℕ) (at n : ℕ) → length ks ≡ n → length ns ≡ n → ((k : ℕ) → k < n → get_or ks k 0 ≡ get64 s (at + 32 * k))
    → ((k : ℕ) → k < n → get_or ns k 0 ≡ 1) → pairs ks ns ≡ marked (marks_at s at n)
unfolding pairs marked marks_at
pairs_marked s [] ns at zero a b f g = refl
pairs_marked s [] ns at (suc n) a b f g = absurd (omega arith)
pairs_marked s (k ∷ ks) ns at zero a b f g = absurd (omega arith)
pairs_marked s (k ∷ ks) [] at (suc n) a b f g = absurd (omega arith)
pairs_marked s (k ∷ ks) (m ∷ ns) at (suc n) a b f g =
    let e : k ≡ get64 s at = f 0 (omega arith) ∙ ap (get64 s) (omega arith) in
    let o : m ≡ 1 = g 0 (omega arith) in
    let r : pairs ks ns ≡ marked (marks_at s (at + 32) n) =
    pairs_marked s ks ns (at + 32) n (omega arith) (omega arith)
    (λ j h. f (suc j) (omega arith) ∙ ap (get64 s) (omega arith)) (λ j h. g (suc j) (omega arith)) in
    rw (e, o, r)

rising_marked : (lo : ℕ) (ms : List Mark) → rising lo (marked ms) ≡ marks_rise lo ms
unfolding rising marked marks_rise
rising_marked lo [] = refl
rising_marked lo (m ∷ ms) = rw (rising_marked (suc m.author) ms)

-- the places behind one that is set stay zero
pub zeros_turn : (l : List ℕ) (i v : ℕ) → i < length l → zeros (drop i l) ≡ true → zeros (drop (i + 1) (set l i v)) ≡ true
unfolding zeros
zeros_turn l i v h z =
    let e : zeros (drop (suc i) l) ≡ true = and_right (eqb (get_or l i 0) 0) _ (rw (drop-cons l i 0 h) at z) in
    rw (add-one i, drop-set-lt (suc i) l i v (omega arith)) e

module _ (head ks ns : List ℕ) (n i : ℕ) (m : Marked head) (e : n ≡ get64 head 1088) (h : i ≤ n) (k : n ≤ i) (lk : length ks ≡ 32) (ln : length ns ≡ 32)
    (f : (j : ℕ) → j < i → get_or ks j 0 ≡ get64 head (1096 + 32 * j)) (g : (j : ℕ) → j < i → get_or ns j 0 ≡ 1) where
  few : n ≤ 32
  few = omega (arith, m.table.few)

  abbrev clock : VectorClock
  clock = record { authors = ks; numbers = ns; count = n }

  pub marked_entries : entries clock ≡ marked (marks_in head)
  unfolding entries
  marked_entries =
      rw (← e)
      (pairs_marked head (take n ks) (take n ns) 1096 n (length-take-le n ks (omega (arith, few))) (length-take-le n ns (omega (arith, few)))
      (λ j l. get_or-take n ks j 0 l ∙ f j (omega arith)) (λ j l. get_or-take n ns j 0 l ∙ g j (omega arith)))

  pub marked_sound : zeros (drop i ks) ≡ true → zeros (drop i ns) ≡ true → sound clock ≡ true
  unfolding sound
  marked_sound p q =
      let d : n ≡ i = omega arith in
      let r : rising 0 (entries clock) ≡ true = rw (marked_entries, rising_marked 0 (marks_in head)) m.rise in
      let x : zeros (drop n ks) ≡ true = rw d p in
      let y : zeros (drop n ns) ≡ true = rw d q in
      and_both _ _ (and_both _ _ (and_both _ _ (le-leb n 32 few) r) x) y

-- ---- a clock that observes the authors of logged rows
run_longer : (es : List (ℕ × ℕ)) (l : List Row) → length es ≤ length (run true es l)
unfolding run
run_longer es [] = omega arith
run_longer es (r ∷ l) =
    omega (arith, observe_longer es r.author (numbered true r), run_longer (observe es r.author (numbered true r)) l)

module _ (held batch s : List ℕ) (m : ℕ) where
  unfoldable pub rows_left : ℕ → List Row
  rows_left i = rows_of (work_rows held batch 0 (left s 8 m i))

  left_start : rows_left 0 ≡ rows_logged held batch s m
  unfolding rows_left rows_logged
  left_start = rw (left_all s 8 m)

  left_row : (i : ℕ) → i < m → rows_left i ≡ ref_row held batch (get64 s (8 + 16 * i)) ∷ rows_left (i + 1)
  unfolding rows_left rows_of work_rows ref_row
  left_row i h = rw (left_next s 8 m i h)

  left_end : (i : ℕ) → m ≤ i → rows_left i ≡ []
  unfolding rows_left rows_of work_rows
  left_end i h = rw (left_none s 8 m i h)

  pub length_logged : length (rows_logged held batch s m) ≡ m
  unfolding rows_logged
  length_logged = length_rows (work_rows held batch 0 (column s 8 m)) ∙ length_work held batch 0 (column s 8 m) ∙ length_cells s 8 m

  pub record Running (c d : VectorClock) (i : ℕ) : Type 0 where
    pub keeps : sound d ≡ true
    pub few : length (entries d) ≤ 32
    pub whole : run true (entries c) (rows_logged held batch s m) ≡ run true (entries d) (rows_left i)

  module _ (c : VectorClock) where
    pub run_start : sound c ≡ true → length (entries c) ≤ 32 → Running c c 0
    run_start h k = record { keeps = h; few = k; whole = ap (run true (entries c)) (sym left_start) }

    module _ (d : VectorClock) (i k a : ℕ) (q : Ends Unit VectorClock) (h : i < m) (g : Running c d i) (ek : k ≡ get64 s (16 * i + 8)) (ea : a ≡ (ref_row held batch k).author)
        (eq : q ≡ grown d (observe (entries d) a 1) nothing) where
      on : run true (entries c) (rows_logged held batch s m) ≡ run true (observe (entries d) a 1) (rows_left (i + 1))
      unfolding run numbered
      on =
          let e : get64 s (8 + 16 * i) ≡ k = ap (get64 s) (omega arith) ∙ sym ek in
          g.whole ∙ rw (left_row i h, e, ea)

      pub run_turn : q.answer ≡ done nothing → Running c q.left (i + 1)
      run_turn t =
          let f : length (observe (entries d) a 1) ≤ 32 = (grown_done d _ q eq t).0 in
          let l : q.left ≡ clock_of (observe (entries d) a 1) = (grown_done d _ q eq t).1 in
          let o : entries q.left ≡ observe (entries d) a 1 = ap entries l ∙ entries_of (observe (entries d) a 1) in
          record {
            keeps = rw l (sound_of (observe (entries d) a 1) (rising_observe (entries d) (sound_rising d g.keeps) a 1) f);
            few = rw o f;
            whole = on ∙ rw o;
          }

      pub run_not : (r : Refusal) → q.answer ≡ refused r → false ≡ leb (length (run true (entries c) (rows_logged held batch s m))) 32
      run_not r t =
          sym
          (lt-leb (length (run true (entries c) (rows_logged held batch s m))) 32
          (omega (arith, (grown_refused d _ q eq r t).0, run_longer (observe (entries d) a 1) (rows_left (i + 1)), ap length on)))

    pub run_end : (d : VectorClock) (i : ℕ) → m ≤ i → Running c d i → true ≡ leb (length (run true (entries c) (rows_logged held batch s m))) 32
    unfolding run
    run_end d i h g =
        let e : run true (entries c) (rows_logged held batch s m) ≡ entries d = g.whole ∙ rw (left_end i h) in
        sym (le-leb (length (run true (entries c) (rows_logged held batch s m))) 32 (omega (arith, ap length e, g.few)))

-- ---- a store and its logged rows
module _ (log head : List ℕ) (d : Sound log head) where
  pub sound_count : get64 head 0 ≤ 1024
  sound_count = omega (arith, stored_count log head _ _ _ _ d.stored, d.stored.few, d.stored.most)

  pub sound_marked : Marked head
  sound_marked = record {
    table = sound_marks log head d;
    rise = rw (stored_marks log head _ _ _ _ d.stored) (kept d.store d.stored.kept).marks_rise_lem;
  }

authors_marked : (ms : List Mark) → authors ms ≡ authors_of (marked ms)
unfolding authors authors_of marked
authors_marked [] = refl
authors_marked (x ∷ ms) = ap (λ (l : List ℕ). x.author ∷ l) (authors_marked ms)

module _ (log head held batch scratch : List ℕ) (m n count cap : ℕ) (ec : count ≡ get64 head 0) (ek : cap ≡ capacity log) where
  abbrev rows : List Row
  rows = rows_logged held batch scratch m

  module _ (s : Store) (z w : List ℕ) (d : Stored log head (capacity log) s z w) where
    log_length : length (insert_all s rows).log ≡ count + m
    log_length = all_length s rows ∙ omega (arith, length_logged held batch scratch m, stored_count log head _ s z w d)

    marks_length : length (insert_all s rows).marks ≡ length (run true (marked (marks_in head)) rows)
    marks_length =
        let e : marks_in head ≡ s.marks = stored_marks log head _ s z w d in
        let r : rising 0 (marked s.marks) ≡ true = rising_marked 0 s.marks ∙ (kept s d.kept).marks_rise_lem in
        rw e (run_authors s (marked s.marks) rows (rises_of 0 _ r) (authors_marked s.marks))

  pub room_full : cap < count + m → Rooms log head rows n (refused LogFull)
  room_full h = record {
    is = λ s z w d e. sym (ap unit_of (fits_full (capacity log) (insert_all s rows) (omega (arith, log_length s z w d))));
  }

  module _ (h : count + m ≤ cap) where
    pub room_clock : 32 < n → Rooms log head rows n (refused AuthorsFull)
    room_clock k = record {
      is = λ s z w d e.
          sym (ap unit_of (fits_authors (capacity log) (insert_all s rows) (omega (arith, log_length s z w d)) (rw (lt-leb (length (insert_all s rows).clock) 32 (omega arith)))));
    }

    module _ (k : n ≤ 32) (b : Bool) (eb : b ≡ leb (length (run true (marked (marks_in head)) rows)) 32) where
      marks_told : (s : Store) (z w : List ℕ) → Stored log head (capacity log) s z w → leb (length (insert_all s rows).marks) 32 ≡ b
      marks_told s z w d = rw (marks_length s z w d) (sym eb)

      pub room_marks : b ≡ false → Rooms log head rows n (refused AuthorsFull)
      room_marks t = record {
        is = λ s z w d e.
            sym
            (ap unit_of
            (fits_authors (capacity log) (insert_all s rows) (omega (arith, log_length s z w d))
            (rw (le-leb (length (insert_all s rows).clock) 32 (omega arith), marks_told s z w d, t))));
      }

      pub room_done : b ≡ true → Rooms log head rows n (done nothing)
      room_done t = record {
        is = λ s z w d e.
            sym
            (ap unit_of
            (fits_done (capacity log) (insert_all s rows) (omega (arith, log_length s z w d)) (omega arith)
            (leb-true (length (insert_all s rows).marks) 32 (marks_told s z w d ∙ t))));
      }

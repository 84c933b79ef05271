-- The loop of drain: what is left to do comes to what the whole comes to.
use Prim.Native.Nat.{ℕ, suc, ◌+◌, ◌-◌, ◌*◌, ◌≤◌, ◌<◌}
use mathlib.Core.Path.{◌≡◌, refl, sym, ◌∙◌, ap}
use mathlib.Core.Bool.{Bool, true, false}
use mathlib.Core.List.{List, [], ◌∷◌, ◌++◌}
use native.Mathlib.Omega.{arith}
use lib.Dec.{eqb, ltb}
use lib.ListN.{length, get_or}
use borrow.Author.Tests.{eqb-true, lt-ltb}
use Rattle.words.specs.Be.{get64, column}
use Rattle.clock.specs.Entries.{get, put, observe}
use Rattle.row.specs.Rows.{Row, HeldRow}
use Rattle.row.proofs.DepsPairs.{length_pairs}
use Rattle.merging.specs.Merging.{ready, none_ready, first_is, past, first_ready, Drained, take_first, drain}
use Rattle.merging.proofs.DrainInduction.{drain_stuck}
use Rattle.working.specs.Inside.References.{ref_ok, work_row, work_rows}
use Rattle.working.specs.Inside.Scratch.{Working, Drains}
use Rattle.working.specs.Inside.Columns.{without, TakenOut, Pushed}
use Rattle.working.specs.Inside.DrainClock.{ticks, Clocked, Ticked}
use Rattle.working.specs.Inside.Looks.{ref_row, ready_ref, KeyOf, later, first_where}
use Rattle.working.specs.declared.looks.Key.{Key}
use Rattle.std.proofs.Common.{Option, Some, None}
use Rattle.working.specs.declared.Draining.{Draining}
use Rattle.working.proofs.ScratchColumns.{cells_at, Refs, none, refs_of, of_refs, refs_without, refs_snoc, ref_there}
use Rattle.working.proofs.ReferenceRows.{row_time}
use Rattle.working.proofs.FirstReference.{found_below}
use Rattle.words.specs.Choice.{pick}

-- what the place of the first ready row means
pub data Seen (c : List (ℕ × ℕ)) (held batch : List ℕ) (time : ℕ) (ks : List ℕ) : Option ℕ → Type 0 where
  seen_at : {i : ℕ}
      → first_ready c (work_rows held batch time ks) ≡ first_is (work_row held batch time (get_or ks i 0)) (work_rows held batch time (without i ks))
      → Seen c held batch time ks (Some i)
  seen_none : first_ready c (work_rows held batch time ks) ≡ none_ready → Seen c held batch time ks None

module _ (c : List (ℕ × ℕ)) (held batch : List ℕ) (time : ℕ) where
  ready_time : (k : ℕ) → ready c (work_row held batch time k).row ≡ ready_ref c held batch k
  unfolding ready_ref
  ready_time k = ap (ready c) (sym (row_time held batch k time))

  seen_by : (k : ℕ) (ks : List ℕ) (f : Option ℕ) (b : Bool) → ready_ref c held batch k ≡ b → Seen c held batch time ks f → Seen c held batch time (k ∷ ks) (pick b (Some 0) (later f))
  unfolding later work_rows first_ready past without
  seen_by k ks f true e s = seen_at {i = 0} (rw (ready_time k, e))
  seen_by k ks (Some i) false e (seen_at q) = seen_at {i = suc i} (rw (ready_time k, e, q))
  seen_by k ks None false e (seen_none q) = seen_none (rw (ready_time k, e, q))

  seen : (ks : List ℕ) → Seen c held batch time ks (first_where (ready_ref c held batch) ks)
  unfolding first_where work_rows first_ready
  seen [] = seen_none refl
  seen (k ∷ ks) = seen_by k ks (first_where (ready_ref c held batch) ks) (ready_ref c held batch k) refl (seen ks)

  seen_is : (ks : List ℕ) (f : Option ℕ) → f ≡ first_where (ready_ref c held batch) ks → Seen c held batch time ks f
  seen_is ks f e = rw e (seen ks)

at_pick : {c : List (ℕ × ℕ)} {held batch : List ℕ} {time i : ℕ} {ks : List ℕ} → Seen c held batch time ks (Some i)
    → first_ready c (work_rows held batch time ks) ≡ first_is (work_row held batch time (get_or ks i 0)) (work_rows held batch time (without i ks))
at_pick (seen_at q) = q

none_pick : {c : List (ℕ × ℕ)} {held batch : List ℕ} {time : ℕ} {ks : List ℕ} → Seen c held batch time ks None
    → first_ready c (work_rows held batch time ks) ≡ none_ready
none_pick (seen_none q) = q

-- where draining stands: the clock, the rows that wait, the logged ones and the count of dropped ones
abbrev pub standing : List (ℕ × ℕ) → List HeldRow → List HeldRow → ℕ → Drained
standing c w l d = record { clock = c; waiting = w; logged = l; dropped = d }

-- one turn of draining
module _ (c : List (ℕ × ℕ)) (w l : List HeldRow) (d : ℕ) where
  drain_log : (n : ℕ) (h : HeldRow) (w' : List HeldRow) → first_ready c w ≡ first_is h w' → eqb h.row.seq (suc (get c h.row.author)) ≡ true
      → drain (suc n) (standing c w l d) ≡ drain n (standing (put c h.row.author h.row.seq) w' (l ++ (h ∷ [])) d)
  unfolding drain take_first observe
  drain_log n h w' e f =
      let g : ltb (get c h.row.author) h.row.seq ≡ true = lt-ltb (get c h.row.author) h.row.seq (omega (arith, eqb-true h.row.seq (suc (get c h.row.author)) f)) in
      rw (e, f, g)

  drain_drop : (n : ℕ) (h : HeldRow) (w' : List HeldRow) → first_ready c w ≡ first_is h w' → eqb h.row.seq (suc (get c h.row.author)) ≡ false
      → drain (suc n) (standing c w l d) ≡ drain n (standing c w' l (d + 1))
  unfolding drain take_first
  drain_drop n h w' e f = rw (e, f)

pub rows_snoc : (held batch : List ℕ) (time : ℕ) (ks : List ℕ) (k : ℕ)
    → work_rows held batch time (ks ++ (k ∷ [])) ≡ work_rows held batch time ks ++ (work_row held batch time k ∷ [])
unfolding work_rows
rows_snoc held batch time [] k = refl
rows_snoc held batch time (x ∷ ks) k = ap (λ (l : List HeldRow). work_row held batch time x ∷ l) (rows_snoc held batch time ks k)

-- what holds whenever the next row is looked for: the clock's columns ks, ns, of which m are used; left rows wait, some are logged, some dropped
pub record Going (held batch s₀ ks₀ ns₀ : List ℕ) (n m₀ : ℕ) (s ks ns : List ℕ) (m left logged dropped : ℕ) : Type 0 where
  pub same : length s ≡ length s₀
  pub same_authors : length ks ≡ length ks₀
  pub same_numbers : length ns ≡ length ns₀
  pub room : 16 * n ≤ length s₀
  pub room_authors : m₀ + n ≤ length ks₀
  pub room_numbers : m₀ + n ≤ length ns₀
  pub fits : n ≤ 128
  pub total : left + logged + dropped ≡ n
  pub few : m + left ≤ m₀ + n
  pub clocked : Clocked ks ns m
  pub working : Refs held batch (column s 0 left)
  pub done : Refs held batch (column s 8 logged)
  pub whole : (time : ℕ)
      → drain left (standing (ticks ks ns m) (work_rows held batch time (column s 0 left)) (work_rows held batch time (column s 8 logged)) dropped)
      ≡ drain n (standing (ticks ks₀ ns₀ m₀) (work_rows held batch time (column s₀ 0 n)) [] 0)

pub going_start : (held batch s ks ns : List ℕ) (n m : ℕ) → Working held batch s n → n ≤ 128 → Clocked ks ns m → m + n ≤ length ks → m + n ≤ length ns
    → Going held batch s ks ns n m s ks ns m n 0 0
unfolding column work_rows
going_start held batch s ks ns n m w f c a b = record {
  same = refl;
  same_authors = refl;
  same_numbers = refl;
  room = w.room;
  room_authors = a;
  room_numbers = b;
  fits = f;
  total = omega arith;
  few = omega arith;
  clocked = c;
  working = refs_of held batch (column s 0 n) w.refs;
  done = none;
  whole = λ time. refl;
}

length_ticks : (ks ns : List ℕ) (m : ℕ) → Clocked ks ns m → m ≡ length (ticks ks ns m)
unfolding ticks
length_ticks ks ns m c = sym (length_pairs m ks ns c.authors c.numbers)

module _ {held batch s₀ ks₀ ns₀ : List ℕ} {n m₀ : ℕ} {s ks ns : List ℕ} {m left logged dropped : ℕ}
    (g : Going held batch s₀ ks₀ ns₀ n m₀ s ks ns m left logged dropped) where
  pub going_working : Working held batch s left
  going_working = record { room = omega arith; refs = of_refs g.working }

  -- a row that is found leaves room for what is done with it
  module _ (j : ℕ) (e : Some j ≡ first_where (ready_ref (ticks ks ns m) held batch) (column s 0 left)) where
    pub turn : (j < left) × (left + logged + dropped ≤ 128)
    turn = (found_below (ready_ref (ticks ks ns m) held batch) s left j e, omega (arith, g.total, g.fits))

    pub word_room : 16 * j + 8 ≤ length s
    word_room = omega (arith, turn.0)

    pub found_ref : (k : ℕ) → k ≡ get64 s (16 * j) → ref_ok held batch k ≡ true
    found_ref k q = ref_there held batch s left j k g.working turn.0 q

    pub take_needs : (j < left) × (16 * left ≤ length s)
    take_needs = (turn.0, omega (arith, turn.0))

    pub push_room : 16 * logged + 16 ≤ length s
    push_room = omega (arith, turn.0)

    pub put_needs : Clocked ks ns m × (m + 1 ≤ length ks) × (m + 1 ≤ length ns)
    put_needs = (g.clocked, omega (arith, turn.0), omega (arith, turn.0))

  pub going_end : None ≡ first_where (ready_ref (ticks ks ns m) held batch) (column s 0 left) → (time : ℕ)
      → Drains (ticks ks₀ ns₀ m₀) held batch time s₀ s n (record { waiting = left; logged = logged; dropped = dropped; authors = m })
  going_end e time = record {
    drained = record { clock = ticks ks ns m; waiting = work_rows held batch time (column s 0 left); logged = work_rows held batch time (column s 8 logged); dropped = dropped };
    is = sym (drain_stuck left (standing (ticks ks ns m) (work_rows held batch time (column s 0 left)) (work_rows held batch time (column s 8 logged)) dropped) (none_pick (seen_is _ held batch time (column s 0 left) None e))) ∙ g.whole time;
    waiting = refl;
    logged = refl;
    dropped = refl;
    authors = length_ticks ks ns m g.clocked;
    waiting_refs = of_refs g.working;
    logged_refs = of_refs g.done;
    total = g.total;
  }

  module _ (j k : ℕ) (key : Key) (t : List ℕ) (b : Bool)
      (e : Some j ≡ first_where (ready_ref (ticks ks ns m) held batch) (column s 0 left))
      (ek : k ≡ get64 s (16 * j)) (l : KeyOf (ref_row held batch k) key) (out : TakenOut s t left j)
      (eb : b ≡ eqb key.seq (suc (get (ticks ks ns m) key.actor.0))) where
    below : j < left
    below = found_below (ready_ref (ticks ks ns m) held batch) s left j e

    one : suc (left - 1) ≡ left
    one = omega (arith, below)

    at_j : get_or (column s 0 left) j 0 ≡ k
    at_j = cells_at s 0 left j below ∙ ap (get64 s) (omega arith) ∙ sym ek

    module _ (time : ℕ) where
      row : HeldRow
      row = work_row held batch time k

      seq_is : row.row.seq ≡ key.seq
      unfolding row
      seq_is = ap (λ (r : Row). r.seq) (sym (row_time held batch k time)) ∙ sym l.seq

      author_is : row.row.author ≡ key.actor.0
      unfolding row
      author_is = ap (λ (r : Row). r.author) (sym (row_time held batch k time)) ∙ sym l.author

      picked : first_ready (ticks ks ns m) (work_rows held batch time (column s 0 left)) ≡ first_is row (work_rows held batch time (without j (column s 0 left)))
      unfolding row
      picked = rw at_j at (at_pick (seen_is _ held batch time (column s 0 left) (Some j) e))

      tested : (x : Bool) → b ≡ x → eqb row.row.seq (suc (get (ticks ks ns m) row.row.author)) ≡ x
      tested x q = rw (seq_is, author_is) (sym eb ∙ q)

      before : (x : ℕ) → x ≡ left → drain x (standing (ticks ks ns m) (work_rows held batch time (column s 0 left)) (work_rows held batch time (column s 8 logged)) dropped)
          ≡ drain n (standing (ticks ks₀ ns₀ m₀) (work_rows held batch time (column s₀ 0 n)) [] 0)
      before x q = rw q (g.whole time)

    pub going_drop : b ≡ false → length t ≡ length s → Going held batch s₀ ks₀ ns₀ n m₀ t ks ns m (left - 1) logged (dropped + 1)
    going_drop q len = record {
      same = len ∙ g.same;
      same_authors = g.same_authors;
      same_numbers = g.same_numbers;
      room = g.room;
      room_authors = g.room_authors;
      room_numbers = g.room_numbers;
      fits = g.fits;
      total = omega (arith, below);
      few = omega (arith, g.few);
      clocked = g.clocked;
      working = rw out.working (refs_without g.working j);
      done = rw (out.logged logged) g.done;
      whole = λ time. rw (out.working, out.logged logged) (sym (drain_drop _ _ _ _ (left - 1) _ _ (picked time) (tested time false q)) ∙ before time _ one);
    }

    pub going_log : (u ks' ns' : List ℕ) (m' : ℕ) → b ≡ true → length u ≡ length s → length ks' ≡ length ks → length ns' ≡ length ns → Pushed t u logged k
        → Ticked ks ns m key.actor.0 key.seq ks' ns' m' → Going held batch s₀ ks₀ ns₀ n m₀ u ks' ns' m' (left - 1) (logged + 1) dropped
    unfolding row
    going_log u ks' ns' m' q len lk ln p o = record {
      same = len ∙ g.same;
      same_authors = lk ∙ g.same_authors;
      same_numbers = ln ∙ g.same_numbers;
      room = g.room;
      room_authors = g.room_authors;
      room_numbers = g.room_numbers;
      fits = g.fits;
      total = omega (arith, below);
      few = omega (arith, below, g.few, o.few);
      clocked = o.clocked;
      working = rw (p.working (left - 1), out.working) (refs_without g.working j);
      done = rw (p.logged, out.logged logged) (refs_snoc g.done k (ref_there held batch s left j k g.working below ek));
      whole = λ time.
          rw (p.working (left - 1), out.working, p.logged, out.logged logged, rows_snoc held batch time (column s 8 logged) k, o.is, ← seq_is time, ← author_is time)
          (sym (drain_log _ _ _ _ (left - 1) _ _ (picked time) (tested time true q)) ∙ before time _ one);
    }

-- the clock that draining starts from, told otherwise
pub drains_from : {c es : List (ℕ × ℕ)} {held batch s t : List ℕ} {time n : ℕ} {r : Draining} → c ≡ es → Drains c held batch time s t n r → Drains es held batch time s t n r
drains_from e d = rw e at d

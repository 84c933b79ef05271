-- The loop over the rows of a batch, and that over the held rows.
use Prim.Native.Nat.{ℕ, zero, suc, ◌+◌, ◌-◌, ◌*◌, ◌≤◌, ◌<◌}
use mathlib.Core.Path.{◌≡◌, refl, sym, ◌∙◌, ap}
use mathlib.Core.Bool.{Bool, true, false}
use mathlib.Core.Logic.{inl}
use Rattle.std.proofs.Common.{Result}
use mathlib.Core.List.{List, [], ◌∷◌, ◌++◌, append_assoc, append-nil}
use native.Mathlib.Omega.{arith}
use lib.Dec.{leb}
use lib.ListN.{length, get_or}
use borrow.Author.Tests.{le-leb, lt-leb}
use Rattle.words.specs.Be.{get64, column}
use Rattle.error.specs.declared.Refusal.{Refusal}
use Rattle.std.specs.declared.result.Result.TheVariants.{Ok, Err}
use Rattle.error.specs.Answer.{and_then, Got, got, after}
use Rattle.row.specs.Slots.{slot_at, slot_ok, slots_at, decode_held}
use Rattle.row.specs.Reading.{BatchRow, read_row}
use Rattle.row.proofs.Operations.{word_part}
use Rattle.merging.specs.Batch.{read_rows}
use Rattle.merging.specs.Merging.{admit, admit_all, unexpired, in_time}
use Rattle.merging.proofs.RowStarts.{start_next}
use Rattle.working.specs.Inside.References.{is_read, refs_ok, work_rows}
use Rattle.working.specs.Inside.Scratch.{Working, Unexpired, Begun, AdmitsAll}
use Rattle.working.specs.Inside.Columns.{Written}
use Rattle.working.specs.Inside.Keys.{Keyed}
use Rattle.working.specs.Inside.Entry.{admitted, Admits}
use Rattle.working.specs.Inside.Entry.Admits.{is_duplicate, is_conflict, is_entered}
use Rattle.working.specs.declared.Admitting.{Admitting}
use Rattle.working.specs.declared.entering.Admit.TheVariants.{Duplicate, Entered}
use Rattle.working.proofs.ScratchColumns.{cells_more, cells_keep, Refs, none, of_refs, refs_snoc}
use Rattle.working.proofs.ReferenceRows.{after_read, work_held, held_ok_lem}
use Rattle.working.proofs.DrainLoop.{rows_snoc}
use Rattle.words.specs.Choice.{pick}
use Rattle.merging.specs.Inside.RowStarts.{StartsAt, start_of, past_row}

-- ---- rows one behind the other
abbrev pub rows_in : Got (List BatchRow) → List BatchRow
rows_in (Ok (bs, n)) = bs
rows_in (Err r) = []

and_rest : (b : BatchRow) (g : Got (List BatchRow)) → is_read (after g (λ bs n. got (b ∷ bs) n)) ≡ true
    → (is_read g ≡ true) × (rows_in (after g (λ bs n. got (b ∷ bs) n)) ≡ b ∷ rows_in g)
and_rest b (Ok (bs, n)) t = (refl, refl)
and_rest b (Err r) t = absurd (let z : ◌≡◌ {A = ℕ} 0 1 = cc in omega arith)

module _ (s : List ℕ) (m at : ℕ) (t : is_read (read_rows s at (suc m)) ≡ true) where
  first_read : (b : BatchRow) × (n : ℕ) × (read_row s at ≡ got b n)
  unfolding read_rows
  first_read = after_read (read_row s at) _ t

  pub row_is_read : is_read (read_row s at) ≡ true
  row_is_read = rw first_read.2

  pub rest_read : (b : BatchRow) (next : ℕ) → read_row s at ≡ got b next
      → (is_read (read_rows s next m) ≡ true) × (rows_in (read_rows s at (suc m)) ≡ b ∷ rows_in (read_rows s next m))
  unfolding read_rows
  rest_read b next e =
      let q : read_rows s at (suc m) ≡ after (read_rows s next m) (λ bs n. got (b ∷ bs) n) = rw e in
      rw q (and_rest b (read_rows s next m) (rw q at t))

length_in : (s : List ℕ) (n at : ℕ) → is_read (read_rows s at n) ≡ true → length (rows_in (read_rows s at n)) ≡ n
unfolding read_rows
length_in s zero at t = refl
length_in s (suc n) at t =
    let f = first_read s n at t in
    let r : (is_read (read_rows s f.1 n) ≡ true) × (rows_in (read_rows s at (suc n)) ≡ f.0 ∷ rows_in (read_rows s f.1 n)) = rest_read s n at t f.0 f.1 f.2 in
    ap length r.1 ∙ ap suc (length_in s n f.1 r.0)

-- ---- admission: left working rows, after i of the rows from `first` on
pub record Entering (c : List (ℕ × ℕ)) (held batch s₀ ks₀ : List ℕ) (n first rows : ℕ) (s ks : List ℕ) (left duplicates i : ℕ) : Type 0 where
  pub same : length s ≡ length s₀
  pub same_keys : length ks ≡ length ks₀
  pub turn : i ≤ rows
  pub total : left + duplicates ≡ n + i
  pub few : n ≤ 64
  pub rows_few : rows ≤ 64
  pub room : 16 * (n + rows) ≤ length s₀
  pub refs : refs_ok held batch (column s 0 left) ≡ true
  pub keyed : Keyed held batch s ks left
  pub space : 5 * (n + rows) ≤ length ks₀
  pub read : is_read (read_rows batch (start_of batch first i) (rows - i)) ≡ true
  pub whole : (time : ℕ) → admit_all c time (admitted held batch time (column s 0 left) duplicates) (rows_in (read_rows batch (start_of batch first i) (rows - i)))
      ≡ admit_all c time (admitted held batch time (column s₀ 0 n) 0) (rows_in (read_rows batch first rows))

entering_start : (c : List (ℕ × ℕ)) (held batch s ks : List ℕ) (n first rows : ℕ) → Working held batch s n → is_read (read_rows batch first rows) ≡ true
    → n ≤ 64 → rows ≤ 64 → 16 * (n + rows) ≤ length s → Keyed held batch s ks n → 5 * (n + rows) ≤ length ks
    → Entering c held batch s ks n first rows s ks n 0 0
unfolding start_of
entering_start c held batch s ks n first rows w t f g h x y =
    let e : rows - 0 ≡ rows = omega arith in
    record {
      same = refl;
      same_keys = refl;
      turn = omega arith;
      total = omega arith;
      few = f;
      rows_few = g;
      room = h;
      refs = w.refs;
      keyed = x;
      space = y;
      read = rw e t;
      whole = λ time. rw e;
    }

module _ {c : List (ℕ × ℕ)} {held batch s₀ ks₀ : List ℕ} {n first rows : ℕ} {s ks : List ℕ} {left duplicates i : ℕ}
    (g : Entering c held batch s₀ ks₀ n first rows s ks left duplicates i) (all : is_read (read_rows batch first rows) ≡ true) where
  in_all : (bs : List BatchRow) (end : ℕ) → read_rows batch first rows ≡ got bs end → rows_in (read_rows batch first rows) ≡ bs
  in_all bs end e = rw e

  entering_end : rows ≤ i → (time : ℕ) (bs : List BatchRow) (end : ℕ) → read_rows batch first rows ≡ got bs end
      → AdmitsAll c held batch time s₀ s n bs (Ok (record { working = left; duplicates = duplicates }))
  unfolding admit_all read_rows
  entering_end h time bs end e =
      let z : rows - i ≡ 0 = omega (arith, g.turn) in
      let l : length bs ≡ rows = ap length (sym (in_all bs end e)) ∙ length_in batch rows first all in
      record {
        answer = rw z at (g.whole time) ∙ ap (λ (l : List BatchRow). admit_all c time (admitted held batch time (column s₀ 0 n) 0) l) (in_all bs end e);
        refs = (record { room = omega (arith, g.room, g.total, g.turn, g.same); refs = g.refs }, omega (arith, g.total, g.turn));
      }

  module _ (h : i < rows) where
    abbrev at : ℕ
    at = start_of batch first i

    one : rows - i ≡ suc (rows - (i + 1))
    one = omega arith

    read_one : is_read (read_rows batch at (suc (rows - (i + 1)))) ≡ true
    read_one = rw one at g.read

    needs_one : Working held batch s left × (is_read (read_row batch at) ≡ true) × (16 * left + 16 ≤ length s) × (5 * left + 5 ≤ length ks)
    needs_one = (
      record { room = omega (arith, g.room, g.total, g.same); refs = g.refs },
      row_is_read batch (rows - (i + 1)) at read_one,
      omega (arith, g.room, g.total, g.same),
      omega (arith, g.space, g.total, g.same_keys),
    )

    module _ (b : BatchRow) (next : ℕ) (e : read_row batch at ≡ got b next) where
      rest : (is_read (read_rows batch (start_of batch first (i + 1)) (rows - (i + 1))) ≡ true)
          × (rows_in (read_rows batch at (suc (rows - (i + 1)))) ≡ b ∷ rows_in (read_rows batch (start_of batch first (i + 1)) (rows - (i + 1))))
      rest =
          let q : start_of batch first (i + 1) ≡ next = start_next batch first i ∙ ap past_row e in
          rw q (rest_read batch (rows - (i + 1)) at read_one b next e)

      unrolled : (time : ℕ)
          → and_then (admit c time (admitted held batch time (column s 0 left) duplicates) b) (λ a. admit_all c time a (rows_in (read_rows batch (start_of batch first (i + 1)) (rows - (i + 1)))))
          ≡ admit_all c time (admitted held batch time (column s₀ 0 n) 0) (rows_in (read_rows batch first rows))
      unfolding admit_all
      unrolled time =
          let r : rows_in (read_rows batch at (rows - i)) ≡ b ∷ rows_in (read_rows batch (start_of batch first (i + 1)) (rows - (i + 1))) = rw one rest.1 in
          rw r at (g.whole time)

    entering_duplicate : (t us : List ℕ) → length us ≡ length ks → Admits c held batch s t us left at (Ok Duplicate)
        → Entering c held batch s₀ ks₀ n first rows t us left (duplicates + 1) (i + 1)
    entering_duplicate t us lk (is_duplicate b next e f q y) = record {
      same = ap length q ∙ g.same;
      same_keys = lk ∙ g.same_keys;
      turn = omega arith;
      total = omega (arith, g.total);
      few = g.few;
      rows_few = g.rows_few;
      room = g.room;
      refs = rw q g.refs;
      keyed = y;
      space = g.space;
      read = (rest b next e).0;
      whole = λ time. rw q (rw (f time duplicates) at (unrolled b next e time));
    }

    entering_entered : (t us : List ℕ) → length t ≡ length s → length us ≡ length ks → Admits c held batch s t us left at (Ok Entered)
        → Entering c held batch s₀ ks₀ n first rows t us (left + 1) duplicates (i + 1)
    entering_entered t us len lk (is_entered b next e f r y) = record {
      same = len ∙ g.same;
      same_keys = lk ∙ g.same_keys;
      turn = omega arith;
      total = omega (arith, g.total);
      few = g.few;
      rows_few = g.rows_few;
      room = g.room;
      refs = r;
      keyed = y;
      space = g.space;
      read = (rest b next e).0;
      whole = λ time. rw (f time duplicates) at (unrolled b next e time);
    }

    entering_refused : (t us : List ℕ) (r : Refusal) → Admits c held batch s t us left at (Err r)
        → (time : ℕ) (bs : List BatchRow) (end : ℕ) → read_rows batch first rows ≡ got bs end
        → AdmitsAll c held batch time s₀ t n bs (Err r)
    entering_refused t us r (is_conflict b next e f) time bs end q = record {
      answer = rw (f time duplicates) at (unrolled b next e time) ∙ ap (λ (l : List BatchRow). admit_all c time (admitted held batch time (column s₀ 0 n) 0) l) (in_all bs end q);
      refs = omega arith;
    }

-- the same wherever the rows start, so long as `starts` says so
pub record Enters (c : List (ℕ × ℕ)) (held batch starts s₀ ks₀ : List ℕ) (n rows : ℕ) (s ks : List ℕ) (left duplicates i : ℕ) : Type 0 where
  pub from : (first : ℕ) → StartsAt batch starts first rows → is_read (read_rows batch first rows) ≡ true → Entering c held batch s₀ ks₀ n first rows s ks left duplicates i

pub enters_start : (c : List (ℕ × ℕ)) (held batch starts s ks : List ℕ) (n rows : ℕ) → Working held batch s n
    → n ≤ 64 → rows ≤ 64 → 16 * (n + rows) ≤ length s → Keyed held batch s ks n → 5 * (n + rows) ≤ length ks
    → Enters c held batch starts s ks n rows s ks n 0 0
enters_start c held batch starts s ks n rows w f g h x y = record { from = λ first st rd. entering_start c held batch s ks n first rows w rd f g h x y }

module _ {c : List (ℕ × ℕ)} {held batch starts s₀ ks₀ : List ℕ} {n rows : ℕ} {s ks : List ℕ} {left duplicates i : ℕ}
    (g : Enters c held batch starts s₀ ks₀ n rows s ks left duplicates i) where
  pub enters_end : rows ≤ i → (time first : ℕ) (bs : List BatchRow) (end : ℕ) → StartsAt batch starts first rows → read_rows batch first rows ≡ got bs end
      → AdmitsAll c held batch time s₀ s n bs (Ok (record { working = left; duplicates = duplicates }))
  enters_end h time first bs end st e =
      let rd : is_read (read_rows batch first rows) ≡ true = rw e in
      entering_end (g.from first st rd) rd h time bs end e

  pub begun : (w : Begun batch starts rows) → Entering c held batch s₀ ks₀ n w.first rows s ks left duplicates i
  begun w = g.from w.first w.starts_are w.read

  module _ (h : i < rows) where
    pub begun_needs : Begun batch starts rows
        → Working held batch s left × (is_read (read_row batch (get_or starts i 0)) ≡ true) × (16 * left + 16 ≤ length s) × (5 * left + 5 ≤ length ks)
    begun_needs w = rw (w.starts_are i h) (needs_one (begun w) w.read h)

    pub enters_duplicate : (t us : List ℕ) → length us ≡ length ks → Admits c held batch s t us left (get_or starts i 0) (Ok Duplicate)
        → Enters c held batch starts s₀ ks₀ n rows t us left (duplicates + 1) (i + 1)
    enters_duplicate t us lk a = record { from = λ first st rd. entering_duplicate (g.from first st rd) rd h t us lk (rw (st i h) at a) }

    pub enters_entered : (t us : List ℕ) → length t ≡ length s → length us ≡ length ks → Admits c held batch s t us left (get_or starts i 0) (Ok Entered)
        → Enters c held batch starts s₀ ks₀ n rows t us (left + 1) duplicates (i + 1)
    enters_entered t us len lk a = record { from = λ first st rd. entering_entered (g.from first st rd) rd h t us len lk (rw (st i h) at a) }

    pub enters_refused : (t us : List ℕ) (r : Refusal) → Admits c held batch s t us left (get_or starts i 0) (Err r)
        → (time first : ℕ) (bs : List BatchRow) (end : ℕ) → StartsAt batch starts first rows → read_rows batch first rows ≡ got bs end
        → AdmitsAll c held batch time s₀ t n bs (Err r)
    enters_refused t us r a time first bs end st e =
        let rd : is_read (read_rows batch first rows) ≡ true = rw e in
        entering_refused (g.from first st rd) rd h t us r (rw (st i h) at a) time bs end e

-- the clock that admission goes by, told otherwise
pub admits_by : {c es : List (ℕ × ℕ)} {held batch s t : List ℕ} {time n : ℕ} {bs : List BatchRow} {r : Result Admitting Refusal} → c ≡ es
    → AdmitsAll c held batch time s t n bs r → AdmitsAll es held batch time s t n bs r
admits_by e d = rw e at d

-- ---- expiry: n references stand for the rows that did not expire among the first i
pub record Lasting (held s : List ℕ) (count cutoff n i : ℕ) : Type 0 where
  pub turn : i ≤ count
  pub few : n ≤ i
  pub refs : (batch : List ℕ) → Refs held batch (column s 0 n)
  pub whole : (batch : List ℕ) (time : ℕ) → work_rows held batch time (column s 0 n) ++ unexpired cutoff (slots_at held (704 * i) (count - i)) ≡ unexpired cutoff (slots_at held 0 count)

pub lasting_start : (held s : List ℕ) (count cutoff : ℕ) → Lasting held s count cutoff 0 0
unfolding column work_rows
lasting_start held s count cutoff =
    let e : count - 0 ≡ count = omega arith in
    record { turn = omega arith; few = omega arith; refs = λ batch. none; whole = λ batch time. rw e }

slots_next : (held : List ℕ) (count i : ℕ) → i < count
    → slots_at held (704 * i) (count - i) ≡ decode_held (slot_at held (704 * i)) ∷ slots_at held (704 * (i + 1)) (count - (i + 1))
unfolding slots_at
slots_next held count i h =
    let e : count - i ≡ suc (count - (i + 1)) = omega arith in
    let f : 704 * (i + 1) ≡ 704 * i + 704 = omega arith in
    rw (e, f)

length_slots : (held : List ℕ) (from n : ℕ) → length (slots_at held from n) ≡ n
unfolding slots_at
length_slots held from zero = refl
length_slots held from (suc n) = ap suc (length_slots held (from + 704) n)

module _ {held s : List ℕ} {count cutoff n i : ℕ} (g : Lasting held s count cutoff n i) where
  pub lasting_end : count ≤ i → 16 * count ≤ length s → (batch : List ℕ) (time : ℕ) → Unexpired held batch time cutoff (slots_at held 0 count) s n
  unfolding slots_at unexpired in_time
  lasting_end h r batch time =
      let z : count - i ≡ 0 = omega (arith, g.turn) in
      record {
        rows_are = sym (append-nil (work_rows held batch time (column s 0 n))) ∙ rw z at (g.whole batch time);
        working = record { room = omega (arith, g.few, g.turn); refs = of_refs (g.refs batch) };
        few = omega (arith, g.few, g.turn, length_slots held 0 count);
      }

  module _ (h : i < count) (arrived : ℕ) (ea : arrived ≡ get64 held (704 * i + 64)) where
    arrival_is : (decode_held (slot_at held (704 * i))).arrival ≡ arrived
    unfolding decode_held
    arrival_is = word_part held (704 * i) 704 64 (omega arith) ∙ sym ea

    first : (b : Bool) → leb cutoff arrived ≡ b → unexpired cutoff (slots_at held (704 * i) (count - i))
        ≡ pick b ((decode_held (slot_at held (704 * i))) ∷ (unexpired cutoff (slots_at held (704 * (i + 1)) (count - (i + 1))))) (unexpired cutoff (slots_at held (704 * (i + 1)) (count - (i + 1))))
    unfolding unexpired in_time
    first b e = rw (slots_next held count i h, arrival_is, e)

    pub lasting_past : arrived < cutoff → Lasting held s count cutoff n (i + 1)
    lasting_past l = record {
      turn = omega arith;
      few = omega (arith, g.few);
      refs = g.refs;
      whole = λ batch time. rw (first false (lt-leb cutoff arrived l)) at (g.whole batch time);
    }

    module _ (t : List ℕ) (w : Written s t (16 * n) i) where
      kept : column t 0 (n + 1) ≡ column s 0 n ++ (i ∷ [])
      kept =
          let a : column t 0 n ≡ column s 0 n = cells_keep s t 0 n (λ x l. w.else (0 + 16 * x) (inl (omega arith))) in
          let f : get64 t (0 + 16 * n) ≡ i = ap (get64 t) (omega arith) ∙ w.here in
          rw (cells_more t 0 n, a, f)

      pub lasting_kept : cutoff ≤ arrived → i < 64 → slot_ok (slot_at held (704 * i)) ≡ true → Lasting held t count cutoff (n + 1) (i + 1)
      lasting_kept l f o = record {
        turn = omega arith;
        few = omega (arith, g.few);
        refs = λ batch. rw kept (refs_snoc (g.refs batch) i (held_ok_lem held batch i f o));
        whole = λ batch time.
            rw (kept, rows_snoc held batch time (column s 0 n) i, append_assoc (work_rows held batch time (column s 0 n)), work_held held batch i time f)
            (rw (first true (le-leb cutoff arrived l)) at (g.whole batch time));
      }

-- Where a row of the batch goes, and what becomes of it.
use Prim.Native.Nat.{ℕ, suc, ◌+◌, ◌-◌, ◌*◌, ◌≤◌, ◌<◌}
use mathlib.Core.Path.{◌≡◌, refl, sym, ◌∙◌, ap}
use mathlib.Core.Bool.{Bool, true, false}
use mathlib.Core.List.{List, [], ◌∷◌}
use native.Mathlib.Omega.{arith}
use lib.Dec.{leb}
use lib.ListN.{length, get_or}
use borrow.Author.Tests.{le-leb, lt-leb}
use Rattle.words.specs.Be.{get64, column}
use Rattle.words.specs.Choice.{pick}
use Rattle.error.specs.declared.Refusal.TheVariants as refusal
use Rattle.error.specs.Answer.{Answer, done, unless, Got, got}
use Rattle.clock.specs.Entries.{get}
use Rattle.row.specs.Rows.{Row, HeldRow, work_less}
use Rattle.row.specs.Reading.{BatchRow, read_head, read_row}
use Rattle.row.specs.Values.{row_of, OpFits}
use Rattle.row.specs.Calls.{ReadsRow}
use Rattle.row.proofs.ReadRows.{HeadGot, head_got}
use Rattle.std.specs.Result.{is_ok}
use Rattle.row.specs.declared.RowRead.{RowRead}
use Rattle.replicated_log.specs.Store.{same_id}
use Rattle.merging.specs.Merging.{same_content, Known, absent, present, look, enter, arrived, Admitted, duplicate, when_known, admit}
use Rattle.working.specs.Inside.References.{is_read, arrived_by, ref_ok, work_row, work_rows}
use Rattle.working.specs.Inside.Columns.{ins_at, PutIn}
use Rattle.working.specs.Inside.Looks.{ref_row, batch_row_at, KeyOf, id_ref, before_ref, later, first_where, place_in}
use Rattle.working.specs.Inside.Keys.{KeyIn, Keyed}
use Rattle.working.specs.Inside.Entry.{admitted, Entrant, Puts, Admits}
use Rattle.working.specs.Inside.Entry.Admits.{is_duplicate, is_conflict, is_entered}
use Rattle.working.specs.declared.looks.Key.{Key}
use Rattle.std.proofs.Common.{Option, Some, None, Ok, Err}
use Rattle.working.specs.declared.entering.Admit.TheVariants as answer
use Rattle.working.proofs.ScratchColumns.{length_cells, cells_at, refs_of, of_refs, refs_ins}
use Rattle.working.proofs.ReferenceRows.{row_time, work_batch, key_batch, batch_ok, after_read}
use Rattle.working.proofs.ContentEquality.{key_numbers}
use Rattle.working.proofs.KeyTable.{keyed_in}
use Rattle.working.proofs.FirstReference.{found_below}

-- ---- a row that was read from the batch
pub row_there : (s : List ℕ) (at : ℕ) {g : Got RowRead} → ReadsRow s at g → is_read (read_row s at) ≡ true → is_ok g ≡ true
row_there s at {g = Ok (r, n)} p t = refl
row_there s at {g = Err f} p t = rw (← p.is) at t

module _ (s : List ℕ) (at : ℕ) (r : RowRead) (next : ℕ) (p : ReadsRow s at (got r next)) where
  pub read_row_at : row_of s r.op ≡ batch_row_at s at
  unfolding batch_row_at
  read_row_at = ap (λ (g : Got BatchRow). (arrived_by 0 g).row) p.is

  pub read_fits : OpFits s r.op
  read_fits = p.fits r next refl

pub same_rows : (r s t : Row) (b : Bool) → r ≡ s → b ≡ same_content r t → b ≡ same_content s t
same_rows r s t b p e = rw (← p) e

-- a row that is read starts within the batch
pub read_inside : (s : List ℕ) (at : ℕ) → is_read (read_row s at) ≡ true → at ≤ length s
unfolding read_row
read_inside s at t =
    let (head, next, e) = after_read (read_head s at) _ t in
    let h : HeadGot s at head next = head_got s at head next e in
    omega (arith, h.onward, h.inside)

-- ---- the place among the working rows
place_later : (n : ℕ) (f : Option ℕ) → place_in (suc n) (later f) ≡ suc (place_in n f)
unfolding place_in later
place_later n (Some i) = refl
place_later n None = refl

-- what a place that was found means
pub found_place : (n i : ℕ) (f : Option ℕ) → Some i ≡ f → i ≡ place_in n f
unfolding place_in
found_place n i f e = rw (← e)

pub none_place : (n : ℕ) (f : Option ℕ) → None ≡ f → n ≡ place_in n f
unfolding place_in
none_place n f e = rw (← e)

module _ (held batch : List ℕ) (time k : ℕ) (key : Key) (o : KeyOf (ref_row held batch k) key) where
  before_is : (x : ℕ) → work_less (work_row held batch time k).row (work_row held batch time x).row ≡ before_ref key held batch x
  unfolding work_less before_ref
  before_is x = rw (← row_time held batch k time, ← row_time held batch x time, key_numbers held batch k key o)

  placed_by : (x : ℕ) (ks : List ℕ) (f : Option ℕ) (b : Bool) → before_ref key held batch x ≡ b
      → work_rows held batch time (ins_at (place_in (length ks) f) k ks) ≡ enter (work_row held batch time k) (work_rows held batch time ks)
      → work_rows held batch time (ins_at (place_in (suc (length ks)) (pick b (Some 0) (later f))) k (x ∷ ks)) ≡ enter (work_row held batch time k) (work_rows held batch time (x ∷ ks))
  unfolding work_rows enter ins_at place_in
  placed_by x ks f true e q = rw (before_is x, e)
  placed_by x ks f false e q = rw (before_is x, e, place_later (length ks) f) (ap (λ (l : List HeldRow). work_row held batch time x ∷ l) q)

  placed : (ks : List ℕ) → work_rows held batch time (ins_at (place_in (length ks) (first_where (before_ref key held batch) ks)) k ks)
      ≡ enter (work_row held batch time k) (work_rows held batch time ks)
  unfolding first_where work_rows enter ins_at place_in
  placed [] = refl
  placed (x ∷ ks) = placed_by x ks (first_where (before_ref key held batch) ks) (before_ref key held batch x) refl (placed ks)

pub puts : (held batch s t ks us : List ℕ) (n k i : ℕ) (key : Key) → Entrant held batch s ks n k key
    → i ≡ place_in n (first_where (before_ref key held batch) (column s 0 n)) → i ≤ n → PutIn s t n i k → KeyIn ks us n i key → 5 * (n + 1) ≤ length us
    → Puts held batch s t us n k
puts held batch s t ks us n k i key x e h p w r = record {
  rows = λ time. rw (p, e) (rw (length_cells s 0 n) at (placed held batch time k key x.own (column s 0 n)));
  refs = rw p (of_refs (refs_ins (refs_of held batch (column s 0 n) x.refs) i k x.ok));
  keyed = keyed_in held batch s t ks us n i k key h p x.own w r x.keyed;
}

-- ---- what a search by author and sequence finds
pub data Met (r : Row) (held batch : List ℕ) (time : ℕ) (ks : List ℕ) : Option ℕ → Type 0 where
  met_at : {i : ℕ} → look r (work_rows held batch time ks) ≡ present (work_row held batch time (get_or ks i 0)) → Met r held batch time ks (Some i)
  met_none : look r (work_rows held batch time ks) ≡ absent → Met r held batch time ks None

module _ (r : Row) (held batch : List ℕ) (time : ℕ) where
  same_is : (k : ℕ) → same_id r (work_row held batch time k).row ≡ id_ref r.author r.seq held batch k
  unfolding same_id id_ref
  same_is k = rw (← row_time held batch k time)

  met_by : (k : ℕ) (ks : List ℕ) (f : Option ℕ) (b : Bool) → id_ref r.author r.seq held batch k ≡ b → Met r held batch time ks f
      → Met r held batch time (k ∷ ks) (pick b (Some 0) (later f))
  unfolding later work_rows look
  met_by k ks f true e s = met_at {i = 0} (rw (same_is k, e))
  met_by k ks (Some i) false e (met_at q) = met_at {i = suc i} (rw (same_is k, e, q))
  met_by k ks None false e (met_none q) = met_none (rw (same_is k, e, q))

  met : (ks : List ℕ) → Met r held batch time ks (first_where (id_ref r.author r.seq held batch) ks)
  unfolding first_where work_rows look
  met [] = met_none refl
  met (k ∷ ks) = met_by k ks (first_where (id_ref r.author r.seq held batch) ks) (id_ref r.author r.seq held batch k) refl (met ks)

  met_is : (ks : List ℕ) (f : Option ℕ) → f ≡ first_where (id_ref r.author r.seq held batch) ks → Met r held batch time ks f
  met_is ks f e = rw e (met ks)

met_look : {r : Row} {held batch : List ℕ} {time i : ℕ} {ks : List ℕ} → Met r held batch time ks (Some i)
    → look r (work_rows held batch time ks) ≡ present (work_row held batch time (get_or ks i 0))
met_look (met_at q) = q

none_look : {r : Row} {held batch : List ℕ} {time : ℕ} {ks : List ℕ} → Met r held batch time ks None → look r (work_rows held batch time ks) ≡ absent
none_look (met_none q) = q

-- ---- the reference of a row of the batch
module _ (held batch : List ℕ) (at : ℕ) where
  pub key_ref : (key : Key) → KeyOf (batch_row_at batch at) key → KeyOf (ref_row held batch (64 + at)) key
  key_ref key o =
      let e : 64 + at - 64 ≡ at = omega arith in
      key_batch held batch (64 + at) key (omega arith) (rw e o)

  pub ref_read : is_read (read_row batch at) ≡ true → ref_ok held batch (64 + at) ≡ true
  ref_read d =
      let e : 64 + at - 64 ≡ at = omega arith in
      batch_ok held batch (64 + at) (omega arith) (rw e d)

-- ---- the answers: b is the row at `at`, known by its key
module _ (c : List (ℕ × ℕ)) (held batch s t us : List ℕ) (n at : ℕ) (b : BatchRow) (next : ℕ) (er : read_row batch at ≡ got b next)
    (key : Key) (o : KeyOf (batch_row_at batch at) key) (have : ℕ) (eh : have ≡ get c key.actor.0) where
  row_is : batch_row_at batch at ≡ b.row
  unfolding batch_row_at
  row_is = ap (λ (g : Got BatchRow). (arrived_by 0 g).row) er

  author_is : key.actor.0 ≡ b.row.author
  author_is = o.author ∙ ap (λ (x : Row). x.author) row_is

  seq_is : key.seq ≡ b.row.seq
  seq_is = o.seq ∙ ap (λ (x : Row). x.seq) row_is

  by_row : (f : Option ℕ) → f ≡ first_where (id_ref key.actor.0 key.seq held batch) (column s 0 n)
      → f ≡ first_where (id_ref b.row.author b.row.seq held batch) (column s 0 n)
  by_row f e = rw (← author_is, ← seq_is) e

  abbrev Ans : ℕ → ℕ → Answer Admitted
  Ans time dup = admit c time (admitted held batch time (column s 0 n) dup) b

  tested : (time dup : ℕ) (x : Bool) → leb key.seq have ≡ x
      → Ans time dup
      ≡ pick x (done (duplicate (admitted held batch time (column s 0 n) dup))) (when_known (look b.row (work_rows held batch time (column s 0 n))) time b (admitted held batch time (column s 0 n) dup))
  unfolding admit
  tested time dup x e = rw (← author_is, ← seq_is, ← eh, e)

  pub admit_old : key.seq ≤ have → t ≡ s → Keyed held batch t us n → Admits c held batch s t us n at (Ok answer.Duplicate)
  admit_old h q y = is_duplicate b next er (λ time dup. tested time dup true (le-leb key.seq have h)) q y

  module _ (h : have < key.seq) where
    known : (time dup : ℕ) (x : Known) → look b.row (work_rows held batch time (column s 0 n)) ≡ x
        → Ans time dup ≡ when_known x time b (admitted held batch time (column s 0 n) dup)
    known time dup x e = tested time dup false (lt-leb key.seq have h) ∙ rw e

    module _ (r : RowRead) (end : ℕ) (p : ReadsRow batch at (got r end)) (j k : ℕ) (e : Some j ≡ first_where (id_ref key.actor.0 key.seq held batch) (column s 0 n))
        (ek : k ≡ get64 s (16 * j)) (x : Bool) (ex : x ≡ same_content (ref_row held batch k) (row_of batch r.op)) where
      at_j : get_or (column s 0 n) j 0 ≡ k
      at_j = cells_at s 0 n j (found_below (id_ref key.actor.0 key.seq held batch) s n j e) ∙ ap (get64 s) (omega arith) ∙ sym ek

      alike : x ≡ same_content (ref_row held batch k) b.row
      alike = ex ∙ ap (same_content (ref_row held batch k)) (read_row_at batch at r end p ∙ row_is)

      told : (time dup : ℕ) → Ans time dup
          ≡ unless x (refusal.Conflict key.actor key.seq) (done (duplicate (admitted held batch time (column s 0 n) dup)))
      unfolding when_known
      told time dup =
          known time dup (present (work_row held batch time k)) (rw at_j at (met_look (met_is b.row held batch time (column s 0 n) (Some j) (by_row (Some j) e))))
          ∙ rw (← row_time held batch k time, ← alike, ← author_is, ← seq_is)

      pub admit_same : x ≡ true → t ≡ s → Keyed held batch t us n → Admits c held batch s t us n at (Ok answer.Duplicate)
      admit_same q z y = is_duplicate b next er (λ time dup. told time dup ∙ rw q) z y

      pub admit_other : x ≡ false → Admits c held batch s t us n at (Err (refusal.Conflict key.actor key.seq))
      admit_other q = is_conflict {actor = key.actor} {seq = key.seq} b next er (λ time dup. told time dup ∙ rw q)

    pub admit_new : None ≡ first_where (id_ref key.actor.0 key.seq held batch) (column s 0 n) → Puts held batch s t us n (64 + at)
        → Admits c held batch s t us n at (Ok answer.Entered)
    unfolding when_known
    admit_new e q = is_entered b next er (λ time dup. new time dup) q.refs q.keyed
      where
        arrives : (time : ℕ) → work_row held batch time (64 + at) ≡ arrived time b
        arrives time =
            let f : 64 + at - 64 ≡ at = omega arith in
            work_batch held batch (64 + at) time (omega arith) ∙ rw (f, er)

        new : (time dup : ℕ) → Ans time dup ≡ done (admitted held batch time (column t 0 (n + 1)) dup)
        new time dup =
            known time dup absent (none_look (met_is b.row held batch time (column s 0 n) None (by_row None e)))
            ∙ ap (λ (l : List HeldRow). done (record { working = l; duplicates = dup }))
            (ap (λ (x : HeldRow). enter x (work_rows held batch time (column s 0 n))) (sym (arrives time)) ∙ sym (q.rows time))

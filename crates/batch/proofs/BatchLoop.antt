-- The loop over the rows of a batch.
use Prim.Native.Nat.{ℕ, suc, ◌+◌, ◌-◌, ◌≤◌, ◌<◌}
use mathlib.Core.Path.{◌≡◌, refl, sym, ◌∙◌, ap}
use mathlib.Core.List.{List, [], ◌∷◌, ◌++◌, append_assoc, append-nil}
use native.Mathlib.Omega.{arith}
use lib.ListN.{length, length-append}
use borrow.Author.Tests.{le-leb, lt-leb, eq-eqb, ne_eqb}
use Rattle.error.specs.declared.Refusal.{Refusal}
use Rattle.error.specs.declared.Refusal.TheVariants.{Unreadable, OverCapacity}
use Rattle.std.specs.declared.result.Result.TheVariants.{Ok, Err}
use Rattle.error.specs.Answer.{Answer, done, refused, and_then, Got, got, bad, after, nothing}
use Rattle.codec.specs.Reading.{get_varint}
use Rattle.std.specs.Result.{result_or}
use Rattle.row.proofs.ReadSteps.{or_unreadable}
use Rattle.row.specs.Reading.{BatchRow, number, read_row}
use Rattle.row.specs.Values.{row_of}
use Rattle.row.specs.Calls.{ReadsRow}
use Rattle.row.specs.declared.RowRead.{RowRead}
use Rattle.merging.specs.Batch.{Limits, whole, read_rows, read_batch, validate, validate_all}
use Rattle.batch.specs.Inside.BatchReads.{GoesOn, Brings, RowsBy, ReadsRows, BatchBy, ReadsBatch}
use Rattle.batch.specs.declared.BatchRead.{BatchRead}

-- what is read behind the rows bs
unfoldable pub behind : List BatchRow → Got (List BatchRow) → Got (List BatchRow)
behind bs g = after g (λ rest at. got (bs ++ rest) at)

behind_none : (g : Got (List BatchRow)) → g ≡ behind [] g
unfolding behind
behind_none (Ok (rest, n)) = refl
behind_none (Err r) = refl

behind_one : (bs : List BatchRow) (b : BatchRow) (g : Got (List BatchRow)) → behind bs (after g (λ rest at. got (b ∷ rest) at)) ≡ behind (bs ++ (b ∷ [])) g
unfolding behind
behind_one bs b (Ok (rest, n)) = rw append_assoc
behind_one bs b (Err r) = refl

-- one row more to validate
alone : (a : Answer Unit) → and_then a (λ u. done nothing) ≡ a
alone (Ok u) = refl
alone (Err r) = refl

nested : (a b c : Answer Unit) → and_then a (λ u. and_then b (λ v. c)) ≡ and_then (and_then a (λ u. b)) (λ v. c)
nested (Ok u) b c = refl
nested (Err r) b c = refl

validate_snoc : (l : Limits) (time : ℕ) (bs : List BatchRow) (b : BatchRow)
    → and_then (validate_all l time bs) (λ u. validate l time b) ≡ validate_all l time (bs ++ (b ∷ []))
unfolding validate_all
validate_snoc l time [] b = sym (alone (validate l time b))
validate_snoc l time (x ∷ bs) b = sym (nested (validate l time x) (validate_all l time bs) (validate l time b)) ∙ rw (validate_snoc l time bs b)

-- a row by the code's answer
abbrev pub row_got : List ℕ → RowRead → BatchRow
row_got s o = record { row = row_of s o.op; closing = record { verdict = o.verdict; outcome = o.outcome; detail = o.detail } }

-- ---- i rows are read, and the next starts at `at`
pub record Counting (s : List ℕ) (first rows : ℕ) (l : Limits) (time : ℕ) (valid : Answer Unit) (at i : ℕ) : Type 0 where
  pub so_far : List BatchRow
  pub few : rows ≤ 64
  pub counted : length so_far ≡ i
  pub same : read_rows s first rows ≡ behind so_far (read_rows s at (rows - i))
  pub valid_is : valid ≡ validate_all l time so_far

pub counting_start : (s : List ℕ) (first rows : ℕ) (l : Limits) (time : ℕ) → rows ≤ 64 → Counting s first rows l time (done nothing) first 0
unfolding validate_all
counting_start s first rows l time h =
    let e : rows - 0 ≡ rows = omega arith in
    record { so_far = []; few = h; counted = refl; same = rw e (behind_none _); valid_is = refl }

module _ {s : List ℕ} {first rows : ℕ} {l : Limits} {time : ℕ} {valid : Answer Unit} {at i : ℕ} (g : Counting s first rows l time valid at i) where
  ended : i ≡ rows → read_rows s first rows ≡ got g.so_far at
  unfolding read_rows behind
  ended h =
      let z : rows - i ≡ 0 = omega arith in
      g.same ∙ rw z (rw append-nil)

  pub left_over : i ≡ rows → (at ≡ length s → ⊥) → whole s (read_rows s first rows) ≡ refused Unreadable
  left_over h n = rw (ended h, ne_eqb at (length s) n)

  pub all_read : i ≡ rows → at ≡ length s → Brings s l time first rows valid
  all_read h e = record {
    rows = g.so_far;
    end = at;
    from = ended h;
    batch = rw (ended h, eq-eqb at (length s) e);
    counted = omega (arith, g.counted);
    few = g.few;
    valid_is = g.valid_is;
  }

  module _ (h : i < rows) where
    one : rows - i ≡ suc (rows - (i + 1))
    one = omega arith

    stopped : {k : Refusal} → read_row s at ≡ bad k → read_rows s first rows ≡ bad k
    unfolding read_rows behind
    stopped e = g.same ∙ rw one (rw e)

    next_same : (b : BatchRow) (next : ℕ) → read_row s at ≡ got b next
        → read_rows s first rows ≡ behind (g.so_far ++ (b ∷ [])) (read_rows s next (rows - (i + 1)))
    unfolding read_rows
    next_same b next e = g.same ∙ rw (one, e) (behind_one g.so_far b (read_rows s next (rows - (i + 1))))

    pub row_stops : {k : Refusal} → ReadsRow s at (bad k) → whole s (read_rows s first rows) ≡ refused k
    row_stops d = rw (stopped (sym d.is))

    pub counting_turn : {o : RowRead} {next : ℕ} {valid' : Answer Unit} → ReadsRow s at (got o next) → GoesOn valid l time o.op o.verdict valid'
        → Counting s first rows l time valid' next (i + 1)
    counting_turn {o} {next} {valid'} d w =
        let b : BatchRow = row_got s o in
        record {
          so_far = g.so_far ++ (b ∷ []);
          few = g.few;
          counted = length-append g.so_far (b ∷ []) ∙ omega (arith, g.counted);
          same = next_same b next (sym d.is);
          valid_is = w.is s b.closing (d.fits o next refl) refl ∙ ap (λ (a : Answer Unit). and_then a (λ u. validate l time b)) g.valid_is ∙ validate_snoc l time g.so_far b;
        }

-- ---- the answers
pub rows_refused : {s : List ℕ} {first n : ℕ} {l : Limits} {time : ℕ} {r : Answer BatchRead} {k : Refusal} → r ≡ refused k
    → whole s (read_rows s first n) ≡ refused k → ReadsRows s first n l time r
rows_refused e h = record { is = rw e h }

-- the count that a batch begins with
pub count_is : (s : List ℕ) (at : ℕ) {g r x : Got ℕ} → r ≡ result_or g (refused Unreadable) → g ≡ get_varint s at → r ≡ x → number s at ≡ x
unfolding number
count_is s at {g} e f h = sym (or_unreadable (get_varint s at)) ∙ rw (← f) (sym e ∙ h)

module _ (s : List ℕ) (l : Limits) (time : ℕ) where
  pub no_count : {r : Answer BatchRead} {k : Refusal} → number s 0 ≡ bad k → r ≡ refused k → ReadsBatch s l time r
  unfolding read_batch
  no_count e h = record { is = rw (h, e) }

  module _ {n first : ℕ} (e : number s 0 ≡ got n first) where
    pub over_count : 64 < n → ReadsBatch s l time (refused OverCapacity)
    unfolding read_batch
    over_count m = record { is = rw (e, lt-leb n 64 m) }

    module _ (m : n ≤ 64) where
      batch_is : read_batch s ≡ whole s (read_rows s first n)
      unfolding read_batch
      batch_is = rw (e, le-leb n 64 m)

      by_rows : (r : Answer BatchRead) → RowsBy r s first n l time → BatchBy r s l time
      by_rows (Ok b) (k, w) = (rw (e, k) w, rw (e, k) batch_is)
      by_rows (Err k) h = batch_is ∙ h

      pub batch_by_rows : {r : Answer BatchRead} → ReadsRows s first n l time r → ReadsBatch s l time r
      batch_by_rows {r} d = record { is = by_rows r d.is }

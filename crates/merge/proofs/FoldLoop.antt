-- Folding the stamps of a batch: how many there are, and the loop over them.
use Prim.Native.Nat.{ℕ, suc, ◌+◌, ◌-◌, ◌≤◌, ◌<◌}
use mathlib.Core.Path.{◌≡◌, refl, sym, ◌∙◌, ap}
use mathlib.Core.Bool.{true}
use mathlib.Core.List.{List, ◌∷◌, map}
use native.Mathlib.Omega.{arith}
use lib.ListN.{length, get_or, length-map}
use Rattle.std.specs.Result.{IsOk}
use Rattle.std.specs.declared.result.Result.TheVariants.{Ok, Err}
use Rattle.error.specs.Answer.{Answer, Got, got}
use Rattle.clock.specs.declared.stamp.Timestamp.{Timestamp}
use Rattle.clock.specs.declared.hybrid.HybridClock.{HybridClock}
use Rattle.clock.specs.Hybrid.{update_call}
use Rattle.codec.specs.Reading.{get_varint}
use Rattle.codec.proofs.ReadSteps.{got_value}
use Rattle.row.proofs.ReadRows.{readable}
use Rattle.row.specs.Reading.{BatchRow, number, read_row}
use Rattle.merging.specs.Batch.{read_rows, read_batch}
use Rattle.merging.specs.Delta as delta
use Rattle.merging.specs.Delta.{counted, fold, stamps_read}
use Rattle.merging.specs.Inside.RowStarts.{start_of, past_row}
use Rattle.merging.proofs.RowStarts.{start_next}
use Rattle.merging.proofs.BatchRows.{batch_got}
use Rattle.working.specs.Inside.References.{is_read, arrived_by}
use Rattle.working.specs.Inside.Looks.{batch_row_at}
use Rattle.working.proofs.AdmissionLoop.{rows_in, row_is_read, rest_read}
use Rattle.working.proofs.ReferenceRows.{after_read}
use Rattle.merge.specs.Inside.Decision.{Readable, RowsBegin}
use Rattle.merge.specs.Inside.Applying.{folded_of, failure, one_more}
use Rattle.merge.specs.declared.folding.Folded.{Folded}

-- ---- how many rows a batch has

module _ (s : List ℕ) (b : Readable s) where
  counted_rows : (first : ℕ) × (get_varint s 0 ≡ got (length b.0) first)
  unfolding number
  counted_rows = let (first, e, f) = batch_got s b.0 b.1 in (first, readable (get_varint s 0) e)

  pub has_count : IsOk (get_varint s 0)
  has_count = rw counted_rows.1 refl

  pub stamps_count : (n first : ℕ) → get_varint s 0 ≡ got n first → n ≡ length (stamps_read (read_batch s))
  stamps_count n first e =
      let p : n ≡ length b.0 = got_value (sym e ∙ counted_rows.1) in
      rw b.1 (p ∙ sym (length-map b.0 _))

-- ---- one fold

-- folds behind others of which so many failed
abbrev added : ℕ → delta.Folded → delta.Folded
added n f = record { clock = f.clock; failed = n + f.failed }

added_none : (f : delta.Folded) → added 0 f ≡ f
added_none f =
    let e : 0 + f.failed ≡ f.failed = omega arith in
    rw e

one_counted : (n : ℕ) (x : Answer Unit) (f : delta.Folded) → added n (counted x f) ≡ added (n + failure x) f
one_counted n (Ok u) f =
    let e : n + 0 ≡ n = omega arith in
    rw e
one_counted n (Err r) f =
    let e : n + suc f.failed ≡ n + 1 + f.failed = omega arith in
    rw e

failure_few : (x : Answer Unit) → failure x ≤ 1
failure_few (Ok u) = omega arith
failure_few (Err r) = omega arith

-- ---- the loop

abbrev stamps_in : List BatchRow → List Timestamp
stamps_in rows = map (λ b. b.row.stamp) rows

-- after i of n rows
pub record Folding (s starts : List ℕ) (time n : ℕ) (j : HybridClock) (f : Folded) (i : ℕ) : Type 0 where
  pub begun : RowsBegin s starts
  pub all : n ≡ length begun.rows
  pub turn : i ≤ n
  pub few : f.failed ≤ i
  pub read : is_read (read_rows s (start_of s begun.first i) (n - i)) ≡ true
  pub left : fold j time (stamps_read (read_batch s))
      ≡ added f.failed (fold f.clock time (stamps_in (rows_in (read_rows s (start_of s begun.first i) (n - i)))))

pub folding_start : (s starts : List ℕ) (time n : ℕ) (f : Folded) → RowsBegin s starts → n ≡ length (stamps_read (read_batch s)) → f.failed ≡ 0
    → Folding s starts time n f.clock f 0
unfolding start_of
folding_start s starts time n f b e z =
    let l : n ≡ length b.rows = e ∙ rw b.brings (length-map b.rows _) in
    let m : n - 0 ≡ length b.rows = omega (arith, l) in
    record {
      begun = b;
      all = l;
      turn = omega arith;
      few = omega (arith, z);
      read = rw (m, b.from);
      left = rw (m, b.from, b.brings, z) (sym (added_none _));
    }

module _ {s starts : List ℕ} {time n : ℕ} {j : HybridClock} {f : Folded} {i : ℕ} (g : Folding s starts time n j f i) where
  pub folding_end : n ≤ i → folded_of f ≡ fold j time (stamps_read (read_batch s))
  unfolding read_rows fold
  folding_end h =
      let z : n - i ≡ 0 = omega (arith, g.turn) in
      let e : f.failed + 0 ≡ f.failed = omega arith in
      sym (g.left ∙ rw (z, e))

  module _ (h : i < n) where
    pub in_starts : i < length starts
    in_starts = omega (arith, g.all, g.begun.room)

    pub failed_few : f.failed < 64
    failed_few = omega (arith, g.few, g.all, g.begun.few)

    abbrev at : ℕ
    at = start_of s g.begun.first i

    one : n - i ≡ suc (n - (i + 1))
    one = omega arith

    read_one : is_read (read_rows s at (suc (n - (i + 1)))) ≡ true
    read_one = rw one at g.read

    starts_here : get_or starts i 0 ≡ at
    starts_here = g.begun.starts_are i (omega (arith, g.all))

    pub row_read : is_read (read_row s (get_or starts i 0)) ≡ true
    row_read = rw starts_here (row_is_read s (n - (i + 1)) at read_one)

    -- the row, and where the next one starts
    row : (b : BatchRow) × (next : ℕ) × (read_row s at ≡ got b next)
    unfolding read_rows
    row = after_read (read_row s at) _ read_one

    next_is : start_of s g.begun.first (i + 1) ≡ row.1
    next_is = start_next s g.begun.first i ∙ ap past_row row.2

    rest : (is_read (read_rows s row.1 (n - (i + 1))) ≡ true)
        × (rows_in (read_rows s at (suc (n - (i + 1)))) ≡ row.0 ∷ rows_in (read_rows s row.1 (n - (i + 1))))
    rest = rest_read s (n - (i + 1)) at read_one row.0 row.1 row.2

    stamp_is : (batch_row_at s (get_or starts i 0)).stamp ≡ row.0.row.stamp
    unfolding batch_row_at
    stamp_is = rw starts_here (ap (λ (x : Got BatchRow). (arrived_by 0 x).row.stamp) row.2)

    pub folding_turn : (stamp : Timestamp) → stamp ≡ (batch_row_at s (get_or starts i 0)).stamp → (f' : Folded)
        → folded_of f' ≡ one_more (update_call f.clock stamp time) f.failed → Folding s starts time n j f' (i + 1)
    unfolding fold
    folding_turn stamp e f' q =
        let u = update_call f.clock stamp time in
        let t : stamp ≡ row.0.row.stamp = e ∙ stamp_is in
        let clock : f'.clock ≡ u.left = ap (λ (x : delta.Folded). x.clock) q in
        let failed : f'.failed ≡ f.failed + failure u.answer = ap (λ (x : delta.Folded). x.failed) q in
        let later = fold u.left time (stamps_in (rows_in (read_rows s row.1 (n - (i + 1))))) in
        let here : fold j time (stamps_read (read_batch s)) ≡ added f.failed (counted u.answer later) = g.left ∙ rw (one, rest.1, t) in
        record {
          begun = g.begun;
          all = g.all;
          turn = omega arith;
          few = omega (arith, g.few, failed, failure_few u.answer);
          read = rw next_is rest.0;
          left = rw (next_is, clock, failed) (here ∙ one_counted f.failed u.answer later);
        }

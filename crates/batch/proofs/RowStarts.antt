-- Where the rows of a batch start.
use Prim.Native.Nat.{ℕ, ◌+◌, ◌≤◌, ◌<◌}
use mathlib.Core.Path.{◌≡◌, refl, sym, ◌∙◌, ap}
use mathlib.Core.List.{List}
use mathlib.Core.Logic.{inl, inr}
use native.Mathlib.Omega.{arith}
use lib.Dec.{eqb}
use lib.ListN.{length, set}
use lib.Seq.{get_or-set_same, get_or-set_other}
use borrow.Author.Tests.{eqb-true, eqb-false}
use Rattle.words.proofs.Words.{test}
use Rattle.error.specs.declared.Refusal.{Refusal}
use Rattle.error.specs.Answer.{Answer, refused, got}
use Rattle.row.specs.Reading.{number, read_row}
use Rattle.row.specs.Calls.{ReadsRow}
use Rattle.row.specs.declared.RowRead.{RowRead}
use Rattle.merging.proofs.RowStarts.{start_next}
use Rattle.batch.specs.Inside.BatchReads.{RowsStart, first_row}
use Rattle.batch.specs.declared.BatchRead.{BatchRead}
use Rattle.merging.specs.Inside.RowStarts.{StartsAt, start_of, past_row}

-- ---- where i rows start is noted, and the next starts at `at`
pub record Starting (s : List ℕ) (first at i : ℕ) (starts : List ℕ) : Type 0 where
  pub place : at ≡ start_of s first i
  pub noted : StartsAt s starts first i

pub starting_start : (s : List ℕ) (first : ℕ) (starts : List ℕ) → Starting s first first 0 starts
unfolding start_of
starting_start s first starts = record { place = refl; noted = λ j h. absurd (omega arith) }

module _ {s : List ℕ} {first at i : ℕ} {starts : List ℕ} (g : Starting s first at i starts) where
  one_more : i < length starts → StartsAt s (set starts i at) first (i + 1)
  one_more h j k =
      elim (test (eqb j i)) [
        | inl e ↦
            let q : j ≡ i = eqb-true j i e in
            rw q (get_or-set_same starts i at 0 h ∙ g.place)
        | inr e ↦
            let n : j ≡ i → ⊥ = eqb-false j i e in
            get_or-set_other starts i j at 0 n ∙ g.noted j (omega arith)
      ]

  pub starting_turn : {o : RowRead} {next : ℕ} → i < length starts → ReadsRow s at (got o next)
      → Starting s first next (i + 1) (set starts i at)
  starting_turn h d = record {
    place = sym (start_next s first i ∙ ap (λ p. past_row (read_row s p)) (sym g.place) ∙ ap past_row (sym d.is));
    noted = one_more h;
  }

  pub all_noted : {n : ℕ} → n ≤ i → StartsAt s starts first n
  all_noted h j k = g.noted j (omega arith)

-- ---- the answers
pub none_start : {x : Answer BatchRead} {k : Refusal} (s : List ℕ) (first : ℕ) (starts : List ℕ) → x ≡ refused k → RowsStart x s first starts
none_start s first starts e = rw e tt

pub start_by_rows : (x : Answer BatchRead) {n first : ℕ} (s starts : List ℕ) → number s 0 ≡ got n first → RowsStart x s first starts → RowsStart x s (first_row s) starts
start_by_rows x s starts e h = rw e h

-- What demand 3 says of one store and of two, from what holds after a run.
use Prim.Native.Nat.{ℕ, ◌≤◌}
use mathlib.Core.Path.{◌≡◌, sym, ◌∙◌, ap}
use mathlib.Core.Logic.{inl, inr}
use mathlib.Core.List.{List, Memᴰ, Sublistᴰ}
use native.Mathlib.Omega.{arith}
use lib.Dec.{eqb}
use borrow.Author.Tests.{eqb-true, eqb-false}
use Rattle.words.proofs.Words.{test}
use Rattle.clock.specs.Entries.{get}
use Rattle.clock.proofs.LexicographicOrder.{clash}
use Rattle.clock.proofs.RisingAuthors.{Rises}
use Rattle.row.specs.Rows.{Row, work_less}
use Rattle.replicated_log.specs.Store.{Store}
use Rattle.replicated_log.specs.Areas.{rows_of}
use Rattle.merging.specs.Offers.{count, ListedAfter, log_less, Follows, Within, Agree}
use Rattle.merging.proofs.SortedLists.{sorted_sublist, sorted_unique}
use Rattle.merging.proofs.RowOrders.{work_trans, work_irrefl, log_trans, log_irrefl}
use Rattle.merging.proofs.ClockLaws.{clock_unique}
use Rattle.merging.proofs.CausalListings.{count_none, count_last, count_not_last, last_self, listed_more, listed_until}
use Rattle.merging.proofs.DrainInduction.{is_ready}
use Rattle.merging.proofs.Invariant.{Inv, listed_low}
use Rattle.merging.proofs.StoreRuns.{Ended}

module _ (o : List Row) (s : Store) (E : Ended o o s) where
  i : Inv o o s.clock E.listing s.log (rows_of s.held)
  i = E.inv

  -- a logged row is at or below the clock
  logged_low : (r : Row) → Memᴰ r s.log → r.seq ≤ get s.clock r.author
  logged_low r m = listed_low i r (i.log_listed r m)

  -- every row of a causal listing is logged: the first that is not would be held and ready
  walk : {before rows : List Row} → ListedAfter o before rows → ((a : ℕ) → count a before ≤ get s.clock a) → Within rows s.log
  walk ListedAfter.none low y m = absurd (mathlib.Core.List.Memᴰ.not-nil m)
  walk (ListedAfter.more {before = before} {rows = rows} {r = r} ro new e f k) low y m =
      let logged : Memᴰ r s.log = elim (i.all r ro) [
        | inl q ↦ i.listed_log r q
        | inr q ↦ absurd (clash (is_ready s.clock r (omega (arith, low r.author)) (λ a n d. omega (arith, f a n d, low a))) (E.idle r q))
      ] in
      elim (mathlib.Core.List.Memᴰ.cases_cons m) [
        | inl q ↦ mathlib.Core.List.Memᴰ.cast q logged
        | inr q ↦ walk k (λ a. elim (test (eqb r.author a)) [
          | inl h ↦
              let p : r.author ≡ a = eqb-true _ _ h in
              omega (arith, count_last a before r p, logged_low r logged, ap (get s.clock) p, ap (λ (x : ℕ). count x before) p)
          | inr h ↦ omega (arith, count_not_last a before r (eqb-false _ _ h), low a)
        ]) y q
      ]

  pub follows : Follows o s
  follows =
      record {
        logged = λ r. (
          λ m. listed_until i.listing r (i.log_listed r m),
          λ c. walk c.1 (λ a. omega (arith, count_none a)) r (last_self c.0 r),
        );
        log_order = i.log_sorted;
        clock = λ a. i.clock a ∙ sym (i.counted a);
        clock_entries = i.positive;
        held = λ r. (
          λ m. (i.held r m, λ k. omega (arith, logged_low r k, i.ahead r m, i.clock r.author)),
          λ k. elim (i.all r k.0) [ inl q ↦ absurd (k.1 (i.listed_log r q)) | inr q ↦ q ],
        );
        held_order = i.held_sorted;
      }

-- ---- two stores

module _ (o₁ o₂ : List Row) (s₁ s₂ : Store) (f₁ : Follows o₁ s₁) (f₂ : Follows o₂ s₂) where
  log_within : Within o₂ o₁ → Within s₂.log s₁.log
  log_within w r m =
      let (before, c) = (f₂.logged r).0 m in
      (f₁.logged r).1 (before, listed_more w c)

  more_log : Within o₂ o₁ → Sublistᴰ s₂.log s₁.log
  more_log w = sorted_sublist log_less log_trans log_irrefl s₂.log s₁.log f₂.log_order f₁.log_order (log_within w)

module _ (o₁ o₂ : List Row) (s₁ s₂ : Store) (f₁ : Follows o₁ s₁) (f₂ : Follows o₂ s₂) (to : Within o₁ o₂) (from : Within o₂ o₁) where
  equal_logs : s₁.log ≡ s₂.log
  equal_logs =
      sorted_unique log_less log_trans log_irrefl s₁.log s₂.log f₁.log_order f₂.log_order (log_within o₂ o₁ s₂ s₁ f₂ f₁ to)
      (log_within o₁ o₂ s₁ s₂ f₁ f₂ from)

  equal_clocks : Rises 0 s₁.clock → Rises 0 s₂.clock → s₁.clock ≡ s₂.clock
  equal_clocks r₁ r₂ =
      clock_unique r₁ r₂ f₁.clock_entries f₂.clock_entries
      (λ a. f₁.clock a ∙ ap (count a) equal_logs ∙ sym (f₂.clock a))

  equal_held : rows_of s₁.held ≡ rows_of s₂.held
  equal_held =
      sorted_unique work_less work_trans work_irrefl (rows_of s₁.held) (rows_of s₂.held) f₁.held_order f₂.held_order
      (λ r m. let k = (f₁.held r).0 m in (f₂.held r).1 (to r k.0, rw equal_logs at k.1))
      (λ r m. let k = (f₂.held r).0 m in (f₁.held r).1 (from r k.0, rw (← equal_logs) at k.1))

pub agree : (o₁ o₂ : List Row) (s₁ s₂ : Store) → Rises 0 s₁.clock → Rises 0 s₂.clock → Follows o₁ s₁ → Follows o₂ s₂ → Agree o₁ o₂ s₁ s₂
agree o₁ o₂ s₁ s₂ r₁ r₂ f₁ f₂ =
    record {
      more = more_log o₁ o₂ s₁ s₂ f₁ f₂;
      same_log = equal_logs o₁ o₂ s₁ s₂ f₁ f₂;
      same_clock = λ to from. equal_clocks o₁ o₂ s₁ s₂ f₁ f₂ to from r₁ r₂;
      same_held = equal_held o₁ o₂ s₁ s₂ f₁ f₂;
    }

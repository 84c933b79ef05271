-- The joined call from its two parts: a batch merged, and its stamps folded.
use mathlib.Core.Path.{◌≡◌}
use Rattle.error.specs.declared.Refusal.{Refusal}
use Rattle.error.specs.Answer.{done, refused, ends}
use Rattle.clock.specs.declared.hybrid.HybridClock.{HybridClock}
use Rattle.replicated_log.specs.Areas.{Areas}
use Rattle.merging.specs.Batch.{read_batch}
use Rattle.merging.specs.Calls.{BatchCall, Lent, batch_call}
use Rattle.merging.specs.Delta.{fold, stamps_read, delta_ends, delta_call}
use Rattle.merge.specs.Reports.{report_of, joined_of}
use Rattle.merge.specs.Inside.Applying.{folded_of}
use Rattle.merge.specs.declared.MergeReport.{MergeReport}
use Rattle.merge.specs.declared.folding.Folded.{Folded}

module _ (a : Areas) (j : HybridClock) (c : BatchCall) (lent : Lent) where
  pub delta_refused : (f : Refusal) → ends (refused f) lent ≡ batch_call a c → joined_of (ends (refused f) j) lent ≡ delta_call a j c
  unfolding delta_call delta_ends
  delta_refused f b = rw (← b)

  pub delta_accepted : (report : MergeReport) (f : Folded) → ends (done (report_of report)) lent ≡ batch_call a c
      → folded_of f ≡ fold j c.time (stamps_read (read_batch c.batch))
      → joined_of (ends (done (record { report = report; failed = f.failed })) f.clock) lent ≡ delta_call a j c
  unfolding delta_call delta_ends
  delta_accepted report f b q = rw (← b, ← q)

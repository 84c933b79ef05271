-- What the answers of a batch call stand for.
use Rattle.error.specs.Answer.{done, and_then, ends}
use Rattle.error.specs.declared.Ends.{Ends}
use Rattle.clock.specs.declared.hybrid.HybridClock.{HybridClock}
use Rattle.merging.specs.Merging.{Report}
use Rattle.merging.specs.Calls.{Lent}
use Rattle.merging.specs.Delta.{DeltaReport, DeltaLeft}
use Rattle.merge.specs.declared.MergeReport.{MergeReport}
use Rattle.merge.specs.declared.Merged.{Merged}

abbrev pub report_of : MergeReport → Report
report_of r =
    record {
      applied = r.applied;
      stale = r.stale;
      rejected = r.rejected;
      duplicates = r.duplicates;
      held = r.held;
      expired = r.expired;
      dropped = r.dropped;
    }

-- the answer, and the clock beside every lent byte
abbrev pub joined_of : Ends Merged HybridClock → Lent → Ends DeltaReport DeltaLeft
joined_of x lent =
    ends (and_then x.answer (λ m. done (record { report = report_of m.report; failed = m.failed }))) (record { lent = lent; hybrid = x.left })

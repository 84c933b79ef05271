-- What the answers of the two parts of a batch call stand for: a batch merged, and its stamps folded. Inside: need not be believed.
use Rattle.std.specs.Prelude.{ℕ, ◌+◌}
use Rattle.std.specs.declared.result.Result.TheVariants.{Ok, Err}
use Rattle.error.specs.Answer.{Answer, done, and_then}
use Rattle.error.specs.declared.Ends.{Ends}
use Rattle.clock.specs.declared.hybrid.HybridClock.{HybridClock}
use Rattle.merging.specs.Merging.{Report}
use Rattle.merging.specs.Delta as delta
use Rattle.merge.specs.Reports.{report_of}
use Rattle.merge.specs.declared.MergeReport.{MergeReport}
use Rattle.merge.specs.declared.folding.Folded.{Folded}

abbrev pub applied_of : Answer MergeReport → Answer Report
applied_of x = and_then x (λ r. done (report_of r))

abbrev pub folded_of : Folded → delta.Folded
folded_of f = record { clock = f.clock; failed = f.failed }

-- 1 where a fold fails
abbrev pub failure : Answer Unit → ℕ
failure (Ok u) = 0
failure (Err r) = 1

-- one fold behind others of which so many failed
abbrev pub one_more : Ends Unit HybridClock → (failed : ℕ) → delta.Folded
one_more u failed = record { clock = u.left; failed = failed + failure u.answer }

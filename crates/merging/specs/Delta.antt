-- Document 02, ticket 2: merging a batch and folding its stamps into the hybrid clock as one call. 02: "These become one operation, as in `Replica::apply_delta`"
use Rattle.std.specs.Prelude.{ℕ, suc, List, [], ◌∷◌, map}
use Rattle.words.specs.Names.{Time}
use Rattle.std.specs.declared.result.Result.TheVariants.{Ok, Err}
use Rattle.error.specs.Answer.{Answer, done, refused, and_then, ends}
use Rattle.error.specs.declared.Ends.{Ends}
use Rattle.clock.specs.declared.stamp.Timestamp.{Timestamp}
use Rattle.clock.specs.declared.hybrid.HybridClock.{HybridClock}
use Rattle.clock.specs.Hybrid.{update_call}
use Rattle.row.specs.Reading.{BatchRow}
use Rattle.replicated_log.specs.Areas.{Areas}
use Rattle.merging.specs.Batch.{read_batch}
use Rattle.merging.specs.Merging.{Report}
use Rattle.merging.specs.Calls.{BatchCall, Lent, batch_call}

-- a hybrid clock after stamps were folded into it, and how many folds failed
pub record Folded : Type 0 where
  pub clock : HybridClock
  pub failed : ℕ

-- one fold, and those after it. 02: "A fold that fails is counted and the next goes on."
abbrev pub counted : Answer Unit → Folded → Folded
counted (Ok u) f = f
counted (Err r) f = record { clock = f.clock; failed = suc f.failed }

-- each stamp is received as `update_call` has it, all at one time; one that fails, by 20 or 19, leaves the clock
unfoldable pub fold : HybridClock → Time → List Timestamp → Folded
fold j time [] = record { clock = j; failed = 0 }
fold j time (t ∷ ts) = counted (update_call j t time).answer (fold (update_call j t time).left time ts)

-- the stamps of a batch, one for each of its rows: 02: "duplicates and held rows too"
abbrev pub stamps_read : Answer (List BatchRow) → List Timestamp
stamps_read (Ok rows) = map (λ b. b.row.stamp) rows
stamps_read (Err r) = []

-- 02: "the batch is accepted, then each stamp in batch order is folded at the batch's time": of a refused batch nothing is folded
abbrev pub folded : HybridClock → BatchCall → Answer Report → Folded
folded j c (Ok report) = fold j c.time (stamps_read (read_batch c.batch))
folded j c (Err r) = record { clock = j; failed = 0 }

-- what an accepted call tells
pub record DeltaReport : Type 0 where
  pub report : Report
  pub failed : ℕ

-- every lent byte afterwards, and the hybrid clock that comes back
pub record DeltaLeft : Type 0 where
  pub lent : Lent
  pub hybrid : HybridClock

unfoldable pub delta_ends : HybridClock → BatchCall → Ends Report Lent → Ends DeltaReport DeltaLeft
delta_ends j c b =
    ends (and_then b.answer (λ report. done (record { report = report; failed = (folded j c b.answer).failed })))
    (record { lent = b.left; hybrid = (folded j c b.answer).clock })

unfoldable pub delta_call : Areas → HybridClock → BatchCall → Ends DeltaReport DeltaLeft
delta_call a j c = delta_ends j c (batch_call a c)

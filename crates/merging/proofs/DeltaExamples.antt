-- Closed examples of the joined call, computed from the definitions: what folding a batch's stamps does to the hybrid clock, and what is counted.
use Rattle.std.specs.declared.option.Option.TheVariants.{None}
use Prim.Native.Nat.{ℕ, ◌-◌, ◌^◌}
use mathlib.Core.Path.{◌≡◌, refl, ap}
use mathlib.Core.List.{List, [], ◌∷◌, ◌++◌}
use Rattle.words.specs.Names.{Time}
use Rattle.error.specs.declared.Refusal.TheVariants.{BadSignature}
use Rattle.std.specs.declared.result.Result.TheVariants.{Ok, Err}
use Rattle.error.specs.Answer.{Answer, done, refused, told_by}
use Rattle.error.specs.declared.Ends.{Ends}
use Rattle.error.specs.Numbers.{told}
use Rattle.clock.specs.declared.hybrid.HybridClock.{HybridClock}
use Rattle.clock.specs.Hlc.{greater, receive_l, receive_c, receive_event}
use Rattle.clock.specs.Hybrid.{receive_at, update_call}
use Rattle.replicated_log.specs.Areas.{Areas, capacity}
use Rattle.merging.specs.Merging.{Merged}
use Rattle.merging.specs.Calls.{BatchCall, batch_answer, batch_ends, batch_call}
use Rattle.merging.specs.Delta.{Folded, fold, DeltaReport, DeltaLeft, delta_ends, delta_call}
use Rattle.merging.specs.Group.{own, remote, empty_store, no_row}
use Rattle.merging.proofs.Traces.{ends_by}
use Rattle.merging.proofs.CallTraces.{answer_on, answer_on_lem}
use Rattle.merging.proofs.Examples.{computing, reading}
use Rattle.merging.proofs.DemandInstance.{blank, blank_reads, bytes11, bytes22, bytes32, forged, bringing}

-- stands for the definitions that fold stamps
folding : ℕ
unfolding computing fold update_call receive_at receive_event receive_l receive_c greater
folding = 0

-- ---- stamps: author 1's clock is at wall and counter, and so many folds failed

abbrev at : (wall counter failed : ℕ) → Folded
at wall counter failed = record { clock = own wall counter; failed = failed }

-- 02: "each stamp in batch order": the other way round the clock is another
in_order : fold (own 0 0) 10 (remote 10 5 ∷ remote 10 7 ∷ []) ≡ at 10 8 0
unfolding folding
in_order = refl

other_order : fold (own 0 0) 10 (remote 10 7 ∷ remote 10 5 ∷ []) ≡ at 10 9 0
unfolding folding
other_order = refl

-- 02: "A fold that fails is counted and the next goes on.": by 20, the wall 60,000 beyond the time passes and 60,001 fails
just_passes : fold (own 0 0) 10 (remote 5 1 ∷ remote 60010 3 ∷ []) ≡ at 60010 4 0
unfolding folding
just_passes = refl

by_drift : fold (own 0 0) 10 (remote 5 1 ∷ remote 60011 3 ∷ remote 10 4 ∷ []) ≡ at 10 5 1
unfolding folding
by_drift = refl

-- by 19: the first takes the counter to 2^32 - 1, the second can't count on at that wall, the third has a later one
by_counter : fold (own 0 0) 10 (remote 10 (2 ^ 32 - 2) ∷ remote 10 0 ∷ remote 12 0 ∷ []) ≡ at 12 1 1
unfolding folding
by_counter = refl

-- a stamp's own counter is 2^32 - 1
by_stamp : fold (own 10 3) 10 (remote 10 (2 ^ 32 - 1) ∷ remote 10 7 ∷ []) ≡ at 10 8 1
unfolding folding
by_stamp = refl

-- these were 20 and 19
which : told_by (update_call (own 10 0) (remote 60011 3) 10).answer ∷ told_by (update_call (own 10 (2 ^ 32 - 1)) (remote 10 0) 10).answer ∷ []
    ≡ told 20 60011 10 ∷ told 19 0 0 ∷ []
unfolding folding
which = refl

-- ---- batches, over bytes

-- what a call tells, and the hybrid clock that comes back
abbrev seen : Ends DeltaReport DeltaLeft → Answer DeltaReport × HybridClock
seen x = (x.answer, x.left.hybrid)

-- the call on areas of nothing but zeros is the call on an empty store
on_blank : (j : HybridClock) (c : BatchCall) → delta_call blank j c ≡ ends_by blank j c (answer_on 4 (empty_store None) c)
unfolding batch_call delta_call capacity
on_blank j c = ap (λ (x : Answer Merged). ends_by blank j c x) (answer_on_lem blank (empty_store None) blank_reads c)

-- 1:1 is logged, 3:2 is held, 1:1 again is a duplicate
abbrev three_rows : List ℕ
three_rows = 3 ∷ bytes11 ++ bytes32 ++ bytes11

abbrev three_told : (failed : ℕ) → DeltaReport
three_told failed =
    record { report = record { applied = 1; stale = 0; rejected = 0; duplicates = 1; held = 1; expired = 0; dropped = 0 }; failed = failed }

-- 02: "duplicates and held rows too": the clock comes to the time, then counts on twice
three_folds : seen (delta_call blank (own 5 0) (bringing 10 three_rows)) ≡ (done (three_told 0), own 10 2)
unfolding folding reading answer_on batch_ends delta_ends
three_folds = rw (on_blank (own 5 0) (bringing 10 three_rows)) refl

-- the same at time 3 with a clock of drift 1: the settings' drift accepts the batch, the clock's fails the folds of wall 5, not that of wall 4
abbrev strict : (wall counter : ℕ) → HybridClock
strict wall counter = record { actor = record { 0 = 1 }; last_wall = wall; last_counter = counter; max_drift_ms = 1 }

two_fail : seen (delta_call blank (strict 0 0) (bringing 3 three_rows)) ≡ (done (three_told 2), strict 4 1)
unfolding folding reading answer_on batch_ends delta_ends
two_fail = rw (on_blank (strict 0 0) (bringing 3 three_rows)) refl

-- a refused batch hands the clock back, though its first row is right
refused_batch : (j : HybridClock) → seen (delta_call blank j (bringing 10 (2 ∷ bytes22 ++ forged))) ≡ (refused (BadSignature (record { 0 = 1 }) 1), j)
unfolding folding reading answer_on batch_ends delta_ends
refused_batch j = rw (on_blank j (bringing 10 (2 ∷ bytes22 ++ forged))) refl

-- a batch of no row folds nothing, on any areas and however late the time
no_row_lem : (a : Areas) (j : HybridClock) (time : Time) → (delta_call a j (bringing time no_row)).left.hybrid ≡ j
unfolding folding reading batch_call batch_ends delta_call delta_ends
no_row_lem a j time = by_answer (batch_answer a (bringing time no_row))
  where
    by_answer : (x : Answer Merged) → (ends_by a j (bringing time no_row) x).left.hybrid ≡ j
    by_answer (Ok m) = refl
    by_answer (Err r) = refl

-- 02: "each stamp in batch order": 1:1 of stamp 10/5 goes into the log before 2:1 of stamp 10/7, which is rejected; the stamps are folded as the batch has them
abbrev early : List ℕ
early = 10 ∷ 5 ∷ 1 ∷ 1 ∷ 1 ∷ 0 ∷ 0 ∷ 0 ∷ 1 ∷ 0 ∷ 0 ∷ []

abbrev late : List ℕ
late = 10 ∷ 7 ∷ 2 ∷ 2 ∷ 1 ∷ 0 ∷ 0 ∷ 0 ∷ 1 ∷ 1 ∷ 0 ∷ []

abbrev both_told : DeltaReport
both_told = record { report = record { applied = 1; stale = 0; rejected = 1; duplicates = 0; held = 0; expired = 0; dropped = 0 }; failed = 0 }

early_first : seen (delta_call blank (own 0 0) (bringing 10 (2 ∷ early ++ late))) ≡ (done both_told, own 10 8)
unfolding folding reading answer_on batch_ends delta_ends
early_first = rw (on_blank (own 0 0) (bringing 10 (2 ∷ early ++ late))) refl

late_first : seen (delta_call blank (own 0 0) (bringing 10 (2 ∷ late ++ early))) ≡ (done both_told, own 10 9)
unfolding folding reading answer_on batch_ends delta_ends
late_first = rw (on_blank (own 0 0) (bringing 10 (2 ∷ late ++ early))) refl

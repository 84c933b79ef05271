-- The exported batch call and floor setting, from those of crate merge.
use Prim.Native.Nat.{ℕ}
use mathlib.Core.Path.{◌≡◌, refl, ◌∙◌, ap}
use mathlib.Core.List.{List}
use Rattle.clock.specs.declared.hybrid.HybridClock.{HybridClock}
use Rattle.replicated_log.specs.Areas.{Areas}
use Rattle.merging.specs.Batch.{Limits}
use Rattle.merging.specs.Calls.{BatchCall, Lent}
use Rattle.merging.specs.Delta.{delta_call}
use Rattle.batch.specs.declared.MergeLimits.{MergeLimits}
use Rattle.batch.specs.Settings.{limits_of}
use Rattle.merge.specs.Reports.{joined_of}
use Rattle.merge.specs.declared.Merged.{Merged}
use Rattle.error.specs.declared.Ends.{Ends}
use Rattle.cuwelfra.specs.declared.batches.DeltaTold.{DeltaTold}
use Rattle.cuwelfra.specs.Batches.{limits_by, delta_told}

limits_are : (m : MergeLimits)
    → limits_of m
    ≡ limits_by m.max_pending m.max_pending_per_actor m.max_pending_bytes m.max_pending_age_ms m.max_drift_ms m.max_deps m.max_payload
unfolding limits_of
limits_are m = refl

-- what a call brings beside the store
abbrev brought : Limits → ℕ → (batch scratch output : List ℕ) → BatchCall
brought l time batch scratch output = record { limits = l; time = time; batch = batch; scratch = scratch; output = output }

pub delta_exported : (a : Areas) (m : MergeLimits) (j k : HybridClock) (time : ℕ) (batch scratch output : List ℕ) (l : Lent) (x : Ends Merged HybridClock) (r : DeltaTold)
    → j ≡ k → joined_of x l ≡ delta_call a j (brought (limits_of m) time batch scratch output) → ((l : Lent) → (r, l) ≡ delta_told (joined_of x l))
    → (r, l)
    ≡ delta_told
    (delta_call a k
    (brought
    (limits_by m.max_pending m.max_pending_per_actor m.max_pending_bytes m.max_pending_age_ms m.max_drift_ms m.max_deps m.max_payload)
    time batch scratch output))
delta_exported a m j k time batch scratch output l x r e b q =
    q l ∙ ap delta_told (b ∙ (λ i. delta_call a (e i) (brought (limits_are m i) time batch scratch output)))

-- The counters of an accepted batch's stamps are below the last one: reading keeps them within 32 bits, and validation keeps the last one out.
use Prim.Native.Nat.{ℕ, ◌+◌, ◌-◌, ◌<◌, ◌^◌}
use mathlib.Core.Path.{◌≡◌, sym}
use mathlib.Core.Bool.{not}
use mathlib.Core.List.Memᴰ
use mathlib.Core.List.{List, Memᴰ}
use native.Mathlib.Omega.{arith}
use lib.Dec.{eqb}
use borrow.Author.Tests.{eqb-false, not-true}
use Rattle.words.specs.Names.{Time}
use Rattle.error.specs.Answer.{done, got}
use Rattle.codec.proofs.ReadSteps.{after_got, got_value}
use Rattle.clock.specs.declared.stamp.Timestamp.{Timestamp}
use Rattle.row.specs.Reading.{read_head, read_deps, read_part, read_closing, BatchRow, batch_row, read_row}
use Rattle.row.proofs.ReadRows.{head_got}
use Rattle.replicated_log.specs.Areas.{Areas}
use Rattle.merging.specs.Batch.{Limits, read_batch, validate}
use Rattle.merging.specs.Merging.{Merged}
use Rattle.merging.specs.Calls.{BatchCall, batch_answer}
use Rattle.merging.specs.Delta.{stamps_read}
use Rattle.merging.specs.Trace.{Answered}
use Rattle.merging.proofs.Traces.{unless_done, each_passes, merge_went, call_answered}
use Rattle.merging.proofs.BatchRows.{batch_has}

abbrev counter : BatchRow → ℕ
counter b = b.row.stamp.logical_counter

-- ---- reading

row_fits : (s : List ℕ) (at : ℕ) (b : BatchRow) (next : ℕ) → read_row s at ≡ got b next → counter b < 2 ^ 32
unfolding read_row
row_fits s at b next e =
    let (h, at₁, x₁, e₁) = after_got (read_head s at) _ e in
    let (ds, at₂, x₂, e₂) = after_got (read_deps s at₁) _ e₁ in
    let (p, at₃, x₃, e₃) = after_got (read_part s at₂ 256) _ e₂ in
    let (g, at₄, x₄, e₄) = after_got (read_part s at₃ 64) _ e₃ in
    let (c, at₅, x₅, e₅) = after_got (read_closing s at₄) _ e₄ in
    let q : b ≡ batch_row s h ds p g c = sym (got_value e₅) in
    rw q (head_got s at h at₁ x₁).counter

-- ---- refusal 7

row_unspent : (l : Limits) (time : Time) (b : BatchRow) {u : Unit} → validate l time b ≡ done u → counter b ≡ 2 ^ 32 - 1 → ⊥
unfolding validate
row_unspent l time b e =
    let (t₁, e₁) = unless_done (not (eqb b.row.seq 0)) _ _ e in
    let (t₂, e₂) = unless_done (eqb b.row.stamp.actor_id.0 b.row.author) _ _ e₁ in
    let (t₃, e₃) = unless_done (not (eqb (counter b) (2 ^ 32 - 1))) _ _ e₂ in
    eqb-false _ _ (not-true _ t₃)

-- ---- both

pub counters_below : (a : Areas) (c : BatchCall) (m : Merged) → batch_answer a c ≡ done m
    → (t : Timestamp) → Memᴰ t (stamps_read (read_batch c.batch)) → t.logical_counter + 1 < 2 ^ 32
counters_below a c m e t n =
    let w : Answered a c m = call_answered a c m e in
    let v = merge_went _ c.limits c.time w.store w.rows m w.merges in
    let (b, k, q) = Memᴰ.of_map (λ b. b.row.stamp) w.rows (rw w.brings at n) in
    let fits = batch_has c.batch (λ b. counter b < 2 ^ 32) (row_fits c.batch) w.rows w.brings b k in
    let unspent = row_unspent c.limits c.time b (each_passes c.limits c.time w.rows v.valid b k).1 in
    rw (← q) (omega (arith, fits, unspent))

-- What a batch's stamps do to the hybrid clock (specs/FoldedStamps).
use Prim.Native.Nat.{suc, ◌+◌, ◌<◌, ◌≤◌, ◌^◌}
use mathlib.Core.Path.{◌≡◌, refl, sym, ◌∙◌, ap}
use mathlib.Core.Bool.{true}
use mathlib.Core.List.Memᴰ
use mathlib.Core.List.{List, [], ◌∷◌, map, Memᴰ}
use mathlib.Core.Logic.{◌⊎◌, inl, inr}
use native.Mathlib.Omega.{arith}
use lib.ListN.{length}
use lib.Dec.{ltb, leb, eqb}
use borrow.Author.Tests.{ltb-true, ltb-false, eqb-true, eqb-false, le-leb}
use Rattle.words.specs.Names.{Time}
use Rattle.words.specs.Choice.{saturating}
use Rattle.words.proofs.Words.{test}
use Rattle.std.specs.declared.result.Result.TheVariants.{Ok, Err}
use Rattle.error.specs.Answer.{Answer, done, refused}
use Rattle.clock.specs.declared.stamp.Timestamp.{Timestamp}
use Rattle.clock.specs.declared.hybrid.HybridClock.{HybridClock}
use Rattle.clock.specs.Order.{stamp_less}
use Rattle.clock.specs.Hlc.{Hlc, receive_l, receive_c, receive_event}
use Rattle.clock.specs.Hybrid.{hlc_of, stamp_hlc, now_call, receive_at, update_call}
use Rattle.clock.specs.Monotone.{Event, History, step, run, with_remote}
use Rattle.clock.proofs.Monotone.{Before, UpTo, before_up_to, receive_passes, Reached, run_keeps, issued_past, issued_greater}
use Rattle.clock.proofs.HybridLaws.{max_right, max_left, counter_both, counter_remote, counter_none}
use Rattle.replicated_log.specs.Areas.{Areas}
use Rattle.merging.specs.Batch.{read_batch}
use Rattle.merging.specs.Merging.{Merged}
use Rattle.merging.specs.Calls.{BatchCall, batch_answer, batch_ends, batch_call}
use Rattle.merging.specs.Delta.{Folded, counted, fold, stamps_read, DeltaReport, delta_ends, delta_call}
use Rattle.merging.specs.FoldedStamps.{passed, FoldsCounted, FoldsReceive, IssuedAbove, IssuedAboveAll, IssuedAboveWithin}
use Rattle.merging.proofs.Traces.{not_refused, ends_by}
use Rattle.merging.proofs.BatchCounters.{counters_below}

-- ---- each stamp passed or is counted

one_more : (x : Answer Unit) (t : Timestamp) (ps : List Timestamp) (f : Folded)
    → length (with_remote x t ps) + (counted x f).failed ≡ suc (length ps + f.failed)
one_more (Ok u) t ps f = omega arith
one_more (Err r) t ps f = omega arith

pub folds_counted : FoldsCounted
unfolding passed fold
folds_counted j time [] = refl
folds_counted j time (t ∷ ts) =
    let k : HybridClock = (update_call j t time).left in
    one_more (update_call j t time).answer t (passed k time ts) (fold k time ts) ∙ ap suc (folds_counted k time ts)

-- where none failed, all passed
none_counted : (x : Answer Unit) (t : Timestamp) (ps ts : List Timestamp) (f : Folded) → (f.failed ≡ 0 → ps ≡ ts)
    → (counted x f).failed ≡ 0 → with_remote x t ps ≡ t ∷ ts
none_counted (Ok u) t ps ts f rest e = ap (λ (l : List Timestamp). t ∷ l) (rest e)
none_counted (Err r) t ps ts f rest e = absurd (omega arith)

all_passed : (j : HybridClock) (time : Time) (ts : List Timestamp) → (fold j time ts).failed ≡ 0 → passed j time ts ≡ ts
unfolding passed fold
all_passed j time [] e = refl
all_passed j time (t ∷ ts) e =
    let k : HybridClock = (update_call j t time).left in
    none_counted (update_call j t time).answer t (passed k time ts) ts (fold k time ts) (λ e. all_passed k time ts e) e

-- ---- folding is receiving

abbrev received : Time → List Timestamp → List Event
received time ts = map (λ t. Event.receive t time) ts

counted_clock : (x : Answer Unit) (f : Folded) → (counted x f).clock ≡ f.clock
counted_clock (Ok u) f = refl
counted_clock (Err r) f = refl

pub folds_receive : FoldsReceive
unfolding fold run step
folds_receive h time [] = refl
folds_receive h time (t ∷ ts) =
    counted_clock (update_call h.clock t time).answer _ ∙ folds_receive (step h (Event.receive t time)) time ts

-- a stamp that is still to pass, or that the history has
still : (x : Answer Unit) (t s : Timestamp) (ps seen : List Timestamp) → Memᴰ s (with_remote x t ps) ⊎ Memᴰ s seen
    → Memᴰ s ps ⊎ Memᴰ s (with_remote x t seen)
still (Ok u) t s ps seen (inl m) = elim (Memᴰ.cases_cons m) [ inl e ↦ inr (Memᴰ.head e) | inr k ↦ inl k ]
still (Ok u) t s ps seen (inr m) = inr (Memᴰ.tail m)
still (Err r) t s ps seen m = m

-- the history has it once all are received
passed_seen : (h : History) (time : Time) (ts : List Timestamp) (s : Timestamp) → Memᴰ s (passed h.clock time ts) ⊎ Memᴰ s h.seen
    → Memᴰ s (run h (received time ts)).seen
unfolding passed run step
passed_seen h time [] s (inl m) = absurd (Memᴰ.not-nil m)
passed_seen h time [] s (inr m) = m
passed_seen h time (t ∷ ts) s m =
    passed_seen (step h (Event.receive t time)) time ts s (still (update_call h.clock t time).answer t s _ h.seen m)

-- ---- so the next stamp is greater

above : (j : HybridClock) (time : Time) (ts : List Timestamp) (pt : Time) (t : Timestamp) → (now_call (fold j time ts).clock pt).answer ≡ done t
    → (s : Timestamp) → Memᴰ s (passed j time ts) → stamp_less s t ≡ true
above j time ts pt t e s m =
    let h : History = record { clock = j; seen = [] } in
    issued_greater j (received time ts) pt t (rw (folds_receive h time ts) at e) s (passed_seen h time ts s (inl m))

-- an accepted call merged, and folded the stamps of its batch
module _ (a : Areas) (j : HybridClock) (c : BatchCall) (x : DeltaReport) where
  abbrev stamps : List Timestamp
  stamps = stamps_read (read_batch c.batch)

  accepted_folds : (delta_call a j c).answer ≡ done x
      → (x.failed ≡ (fold j c.time stamps).failed) × ((delta_call a j c).left.hybrid ≡ (fold j c.time stamps).clock)
      × (m : Merged) × (batch_answer a c ≡ done m)
  unfolding batch_call batch_ends delta_call delta_ends
  accepted_folds = by_answer (batch_answer a c)
    where
      by_answer : (y : Answer Merged) → (ends_by a j c y).answer ≡ done x
          → (x.failed ≡ (fold j c.time stamps).failed) × ((ends_by a j c y).left.hybrid ≡ (fold j c.time stamps).clock)
          × (m : Merged) × (y ≡ done m)
      by_answer (Err r) e = absurd (not_refused e)
      by_answer (Ok m) e = (cc, refl, m, refl)

pub issued_above : IssuedAbove
issued_above a j c x accepts pt t e s m =
    above j c.time (stamps_read (read_batch c.batch)) pt t (rw (accepted_folds a j c x accepts).1 at e) s m

pub issued_above_all : IssuedAboveAll
issued_above_all a j c x accepts none pt t e s m =
    let all = all_passed j c.time (stamps_read (read_batch c.batch)) (sym (accepted_folds a j c x accepts).0 ∙ none) in
    issued_above a j c x accepts pt t e s (rw all m)

-- ---- a stamp within the drift

-- 19 stops a message whose counter can grow only where the clock is above it
module _ (j m : Hlc) (pt : Time) where
  abbrev l : Time
  l = receive_l j m pt

  not_past : (m.l < l) ⊎ (m.l ≡ l)
  unfolding receive_event
  not_past = elim (receive_passes j m pt) [ inl h ↦ inl h | inr h ↦ inr h.0 ]

  full_above : m.c + 1 < 2 ^ 32 → 2 ^ 32 ≤ receive_c j m l → Before m j
  full_above grows full =
      elim (test (eqb l j.l)) [
        | inl p ↦
            let own : l ≡ j.l = eqb-true _ _ p in
            elim not_past [
              | inl h ↦ inl (omega arith)
              | inr h ↦
                  elim (test (ltb j.c m.c)) [
                    | inl k ↦ absurd (omega (arith, counter_both j m l own (sym h), max_right j.c m.c (ltb-true _ _ k)))
                    | inr k ↦ inr (h ∙ own, omega (arith, counter_both j m l own (sym h), max_left j.c m.c (ltb-false _ _ k)))
                  ]
            ]
        | inr p ↦
            let other : l ≡ j.l → ⊥ = eqb-false _ _ p in
            elim (test (eqb l m.l)) [
              | inl q ↦ absurd (omega (arith, counter_remote j m l other (eqb-true _ _ q)))
              | inr q ↦ absurd (omega (arith, counter_none j m l other (eqb-false _ _ q)))
            ]
      ]

module _ (j : HybridClock) (m : Timestamp) (time : Time) where
  abbrev arrived : Hlc
  arrived = receive_event (hlc_of j) (stamp_hlc m) time

  -- its fold, passed or stopped by 19, leaves the clock no lower than the stamp
  fold_reaches : m.logical_counter + 1 < 2 ^ 32 → m.wall_time ≤ saturating time j.max_drift_ms
      → UpTo (stamp_hlc m) (hlc_of (update_call j m time).left)
  unfolding update_call receive_at receive_event
  fold_reaches grows near =
      let d : leb m.wall_time (saturating time j.max_drift_ms) ≡ true = le-leb _ _ near in
      elim (test (ltb arrived.c (2 ^ 32))) [
        | inl e ↦ rw (d, e) (before_up_to (stamp_hlc m) arrived (receive_passes (hlc_of j) (stamp_hlc m) time))
        | inr e ↦ rw (d, e) (before_up_to (stamp_hlc m) (hlc_of j) (full_above (hlc_of j) (stamp_hlc m) time grows (ltb-false _ _ e)))
      ]

  -- a fold leaves the drift
  drift_stays : (update_call j m time).left.max_drift_ms ≡ j.max_drift_ms
  unfolding update_call receive_at
  drift_stays =
      elim (test (leb m.wall_time (saturating time j.max_drift_ms))) [
        | inl d ↦ elim (test (ltb arrived.c (2 ^ 32))) [ inl e ↦ rw (d, e) | inr e ↦ rw (d, e) ]
        | inr d ↦ rw d
      ]

-- what the clock has reached it does not lose by later folds
reached_one : (j : HybridClock) (s : Timestamp) → UpTo (stamp_hlc s) (hlc_of j) → Reached (record { clock = j; seen = s ∷ [] })
reached_one j s r x m = elim (Memᴰ.cases_cons m) [ inl e ↦ rw e r | inr n ↦ absurd (Memᴰ.not-nil n) ]

stays_reached : (j : HybridClock) (time : Time) (ts : List Timestamp) (s : Timestamp) → UpTo (stamp_hlc s) (hlc_of j)
    → UpTo (stamp_hlc s) (hlc_of (fold j time ts).clock)
stays_reached j time ts s r =
    let h : History = record { clock = j; seen = s ∷ [] } in
    let seen = passed_seen h time ts s (inr (Memᴰ.head refl)) in
    rw (folds_receive h time ts) (run_keeps h (received time ts) (reached_one j s r) s seen)

-- so after all folds it has reached each stamp within the drift
all_reached : (j : HybridClock) (time : Time) (ts : List Timestamp) → ((s : Timestamp) → Memᴰ s ts → s.logical_counter + 1 < 2 ^ 32)
    → (s : Timestamp) → Memᴰ s ts → s.wall_time ≤ saturating time j.max_drift_ms → UpTo (stamp_hlc s) (hlc_of (fold j time ts).clock)
unfolding fold
all_reached j time [] grow s m near = absurd (Memᴰ.not-nil m)
all_reached j time (t ∷ ts) grow s m near =
    let k : HybridClock = (update_call j t time).left in
    rw (counted_clock (update_call j t time).answer (fold k time ts))
    (elim (Memᴰ.cases_cons m) [
      | inl e ↦ stays_reached k time ts s (rw e (fold_reaches j t time (grow t (Memᴰ.head refl)) (rw e at near)))
      | inr n ↦ all_reached k time ts (λ s n. grow s (Memᴰ.tail n)) s n (rw (drift_stays j t time) near)
    ])

-- and what is issued then is above
pub issued_above_within : IssuedAboveWithin
issued_above_within a j c x accepts pt t e s m near =
    let stamps : List Timestamp = stamps_read (read_batch c.batch) in
    let (failed, left, y, answers) = accepted_folds a j c x accepts in
    let r = all_reached j c.time stamps (counters_below a c y answers) s m near in
    issued_past (fold j c.time stamps).clock pt t s r (rw left at e)

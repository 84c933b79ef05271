-- The balance of an accepted merge (specs/Balance).
use Prim.Native.Nat.{ℕ, zero, suc, ◌+◌, ◌-◌, ◌≤◌}
use mathlib.Core.Path.{◌≡◌, refl, sym, ◌∙◌, ap}
use mathlib.Core.Bool.{Bool, true, false}
use mathlib.Core.List.{List, [], ◌∷◌}
use native.Mathlib.Omega.{arith}
use lib.ListN.{length, length-append}
use lib.Dec.{ltb, leb, eqb}
use borrow.Author.Tests.{lt-ltb, ne_eqb}
use Rattle.words.specs.Choice.{pick}
use Rattle.std.specs.declared.result.Result.TheVariants.{Ok, Err}
use Rattle.error.specs.Answer.{Answer, done, refused}
use Rattle.clock.specs.Entries.{get}
use Rattle.row.specs.Rows.{HeldRow, work_less}
use Rattle.row.specs.Reading.{BatchRow}
use Rattle.replicated_log.specs.Store.{Store}
use Rattle.replicated_log.specs.Areas.{rows_of}
use Rattle.merging.specs.Merging.{unexpired, same_content, Known, absent, present, look, enter, Admitted, starting, arrived, duplicate, when_known, admit, admit_all, ready, FirstReady, none_ready, first_is, past, first_ready, Drained, logging, dropping, take_first, to_drain, drain, fate, Report, Merged, commit, report, settle, in_time}
use Rattle.merging.specs.Calls.{batch_answer, batch_ends, batch_call}
use Rattle.merging.specs.Delta.{delta_ends, delta_call}
use Rattle.merging.specs.Balance.{Sums, Balance, DeltaBalance}
use Rattle.merging.proofs.Traces.{unless_done, then_done, not_refused, insert_held, merge_went, call_answered, ends_by}
use Rattle.words.specs.Lists.{count_if}

-- ---- 1. expiring removes rows

expire_length : (b : Bool) (h : HeldRow) (hs : List HeldRow) → length (pick b (h ∷ hs) hs) ≤ suc (length hs)
expire_length true h hs = omega arith
expire_length false h hs = omega arith

unexpired_length : (cutoff : ℕ) (hs : List HeldRow) → length (unexpired cutoff hs) ≤ length hs
unfolding unexpired
unexpired_length cutoff [] = omega arith
unexpired_length cutoff (h ∷ hs) =
    let one : length (unexpired cutoff (h ∷ hs)) ≤ suc (length (unexpired cutoff hs)) = expire_length (in_time cutoff h) h (unexpired cutoff hs) in
    omega (arith, unexpired_length cutoff hs)

-- ---- 2. each row of the batch becomes a working row or a duplicate

enter_length : (h : HeldRow) (hs : List HeldRow) → length (enter h hs) ≡ suc (length hs)
unfolding enter
enter_length h [] = refl
enter_length h (k ∷ hs) =
    elim (work_less h.row k.row) as (λ b. length (pick b (h ∷ k ∷ hs) (k ∷ (enter h hs))) ≡ suc (suc (length hs))) [
      | true ↦ refl
      | false ↦ ap suc (enter_length h hs)
    ]

abbrev counted : Admitted → ℕ
counted a = length a.working + a.duplicates

known_counted : (k : Known) (time : ℕ) (b : BatchRow) (a r : Admitted) → when_known k time b a ≡ done r → counted r ≡ suc (counted a)
unfolding when_known
known_counted absent time b a r e =
    let p : r.working ≡ enter (arrived time b) a.working = cc in
    let q : r.duplicates ≡ a.duplicates = cc in
    omega (arith, ap length p, enter_length (arrived time b) a.working)
known_counted (present h) time b a r e =
    let (t, f) = unless_done (same_content h.row b.row) _ _ e in
    let p : r.working ≡ a.working = cc in
    let q : r.duplicates ≡ (duplicate a).duplicates = cc in
    omega (arith, ap length p)

admit_counted : (clock : List (ℕ × ℕ)) (time : ℕ) (a : Admitted) (b : BatchRow) (r : Admitted) → admit clock time a b ≡ done r → counted r ≡ suc (counted a)
unfolding admit
admit_counted clock time a b r =
    elim (leb b.row.seq (get clock b.row.author)) as (λ t. pick t (done (duplicate a)) (when_known (look b.row a.working) time b a) ≡ done r → counted r ≡ suc (counted a)) [
      | true ↦ λ e.
          let p : r.working ≡ a.working = cc in
          let q : r.duplicates ≡ (duplicate a).duplicates = cc in
          omega (arith, ap length p)
      | false ↦ λ e. known_counted (look b.row a.working) time b a r e
    ]

admit_all_counted : (clock : List (ℕ × ℕ)) (time : ℕ) (a : Admitted) (rows : List BatchRow) (r : Admitted) → admit_all clock time a rows ≡ done r
    → counted r ≡ counted a + length rows
unfolding admit_all
admit_all_counted clock time a [] r e =
    let p : a ≡ r = cc in
    omega (arith, ap counted p)
admit_all_counted clock time a (b ∷ rows) r e =
    let (x, p, q) = then_done (admit clock time a b) _ e in
    omega (arith, admit_counted clock time a b x p, admit_all_counted clock time x rows r q)

-- ---- 3. each working row waits on, is logged or is dropped

-- what is left beside the first ready row is one less
data Less (ws : List HeldRow) : FirstReady → Type 0 where
  all_wait : Less ws none_ready
  one_less : {h : HeldRow} {rest : List HeldRow} → length ws ≡ suc (length rest) → Less ws (first_is h rest)

less_past : (k : HeldRow) (ws : List HeldRow) (p : FirstReady) → Less ws p → Less (k ∷ ws) (past k p)
unfolding past
less_past k ws none_ready all_wait = all_wait
less_past k ws (first_is h rest) (one_less e) = one_less (ap suc e)

less_first : (clock : List (ℕ × ℕ)) (ws : List HeldRow) → Less ws (first_ready clock ws)
unfolding first_ready
less_first clock [] = all_wait
less_first clock (k ∷ ws) =
    elim (ready clock k.row) as (λ b. Less (k ∷ ws) (pick b (first_is k ws) (past k (first_ready clock ws)))) [
      | true ↦ one_less refl
      | false ↦ less_past k ws (first_ready clock ws) (less_first clock ws)
    ]

abbrev settled : Drained → ℕ
settled d = length d.waiting + length d.logged + d.dropped

first_counts : (p : FirstReady) (d : Drained) → Less d.waiting p → settled (take_first p d) ≡ settled d
unfolding take_first
first_counts none_ready d all_wait = refl
first_counts (first_is h rest) d (one_less e) =
    elim (eqb h.row.seq (suc (get d.clock h.row.author))) as (λ b. settled (pick b (logging h rest d) (dropping rest d)) ≡ settled d) [
      | true ↦ omega (arith, length-append d.logged (h ∷ []))
      | false ↦ omega arith
    ]

drain_counts : (n : ℕ) (d : Drained) → settled (drain n d) ≡ settled d
unfolding drain
drain_counts zero d = refl
drain_counts (suc n) d =
    drain_counts n (take_first (first_ready d.clock d.waiting) d)
    ∙ first_counts (first_ready d.clock d.waiting) d (less_first d.clock d.waiting)

settle_counts : (s : Store) (a : Admitted) → settled (settle s a) ≡ length a.working
unfolding settle
settle_counts s a =
    let all : settled (settle s a) ≡ length a.working + 0 + 0 = drain_counts _ (to_drain s a) in
    omega arith

-- ---- 4. each logged row has one fate

one_fate : (n a b c : ℕ) → pick (eqb n 0) (suc a) a + pick (eqb n 1) (suc b) b + pick (ltb 1 n) (suc c) c ≡ suc (a + b + c)
one_fate zero a b c = omega arith
one_fate (suc zero) a b c = omega arith
one_fate (suc (suc n)) a b c = rw (ne_eqb (suc (suc n)) 0 (omega arith), ne_eqb (suc (suc n)) 1 (omega arith), lt-ltb 1 (suc (suc n)) (omega arith)) (omega arith)

fates : (f : HeldRow → ℕ) (hs : List HeldRow)
    → count_if (λ h. eqb (f h) 0) hs + count_if (λ h. eqb (f h) 1) hs + count_if (λ h. ltb 1 (f h)) hs ≡ length hs
unfolding count_if
fates f [] = refl
fates f (h ∷ hs) = omega (arith, one_fate (f h) (count_if (λ h. eqb (f h) 0) hs) (count_if (λ h. eqb (f h) 1) hs) (count_if (λ h. ltb 1 (f h)) hs), fates f hs)

pub balance : Balance
unfolding report settle commit
balance cap l time s rows m e =
    let w = merge_went cap l time s rows m e in
    let kept = unexpired (time - l.max_pending_age) s.held in
    let d = settle s w.admitted in
    let expired : m.report.expired ≡ length s.held - length kept = ap (λ (r : Report). r.expired) w.told in
    let duplicates : m.report.duplicates ≡ w.admitted.duplicates = ap (λ (r : Report). r.duplicates) w.told in
    let applied : m.report.applied ≡ count_if (λ h. eqb (fate s.floor h) 0) d.logged = ap (λ (r : Report). r.applied) w.told in
    let stale : m.report.stale ≡ count_if (λ h. eqb (fate s.floor h) 1) d.logged = ap (λ (r : Report). r.stale) w.told in
    let rejected : m.report.rejected ≡ count_if (λ h. ltb 1 (fate s.floor h)) d.logged = ap (λ (r : Report). r.rejected) w.told in
    let dropped : m.report.dropped ≡ d.dropped = ap (λ (r : Report). r.dropped) w.told in
    let held : m.report.held ≡ length d.waiting = ap (λ (r : Report). r.held) w.told in
    record {
      balance =
          omega (
            arith,
            unexpired_length (time - l.max_pending_age) s.held,
            admit_all_counted s.clock time (starting kept) rows w.admitted w.admits,
            settle_counts s w.admitted,
            fates (fate s.floor) d.logged,
          );
      held_after = held ∙ sym (ap (λ (t : Store). length t.held) w.store ∙ ap length (insert_held _ (rows_of d.logged)));
    }

pub delta_balance : DeltaBalance
unfolding batch_call batch_ends delta_call delta_ends
delta_balance a j c s rows x es er = by_answer (batch_answer a c) refl
  where
    by_answer : (y : Answer Merged) → batch_answer a c ≡ y → (ends_by a j c y).answer ≡ done x → Sums (length s.held) (length rows) x.report
    by_answer (Err f) e q = absurd (not_refused q)
    by_answer (Ok m) e q =
        let w = call_answered a c m e in
        let p : w.store ≡ s = cc in
        let o : w.rows ≡ rows = cc in
        let t : m.report ≡ x.report = cc in
        rw (← p, ← o, ← t) (balance _ c.limits c.time w.store w.rows m w.merges).balance

-- Of working rows in order the first ready one is the least, and draining is step 3 in those words.
use Prim.Native.Nat.{ℕ, zero, suc, ◌≤◌}
use mathlib.Core.Path.{◌≡◌, refl, sym}
use mathlib.Core.Logic.{inl, inr}
use mathlib.Core.Bool.{true, false}
use mathlib.Core.List.Memᴰ
use mathlib.Core.List.{List, [], ◌∷◌, Memᴰ}
use native.Mathlib.Nat.{le_refl}
use native.Mathlib.Omega.{arith}
use lib.Dec.{eqb}
use lib.ListN.{length}
use borrow.Author.Tests.{eqb-true, eqb-false}
use Rattle.words.proofs.Words.{test}
use Rattle.clock.specs.Entries.{get}
use Rattle.clock.proofs.LexicographicOrder.{clash}
use Rattle.row.specs.Rows.{HeldRow, work_less}
use Rattle.replicated_log.specs.Areas.{rows_of}
use Rattle.merging.specs.Merging.{ready, FirstReady, none_ready, first_is, past, first_ready, Drained, logging, dropping, take_first, to_drain, drain, settle}
use Rattle.merging.specs.Offers.{Sorted}
use Rattle.merging.specs.Least.{Least, FirstIsLeast, WorkingInOrder, Taken, here, there, Drains, ended, logs, drops, SettleDrains, Enough, NoneReady}
use Rattle.merging.proofs.RowOrders.{work_trans, work_irrefl}
use Rattle.merging.proofs.RowLists.{rows_mem}
use Rattle.merging.proofs.DrainInduction.{taken_length, taken_rows, taken_sorted, Picked, stuck, took, picked, drain_stuck, rest_waits, drained}
use Rattle.merging.proofs.RulesKept.{working_order}
use Rattle.words.specs.Choice.{pick}
use Rattle.error.specs.Answer.{nothing}

-- ---- the first ready row

least_here : (c : List (ℕ × ℕ)) (k : HeldRow) (ws : List HeldRow) → Sorted work_less (rows_of (k ∷ ws)) → ready c k.row ≡ true → Least c (k ∷ ws) k
unfolding rows_of
least_here c k ws (Sorted.more f s) e =
    record {
      among = Memᴰ.head refl;
      is_ready = e;
      none_less = λ j m r. elim (test (work_less j.row k.row)) [
        | inl t ↦ absurd (elim (Memᴰ.cases_cons m) [
          | inl q ↦ work_irrefl k.row (rw q at t)
          | inr n ↦ work_irrefl k.row (work_trans k.row j.row k.row (f j.row (rows_mem ws n)) t)
        ])
        | inr t ↦ t
      ];
    }

least_past : (c : List (ℕ × ℕ)) (k : HeldRow) (ws : List HeldRow) (h : HeldRow) → ready c k.row ≡ false → Least c ws h → Least c (k ∷ ws) h
least_past c k ws h e l =
    record {
      among = Memᴰ.tail l.among;
      is_ready = l.is_ready;
      none_less = λ j m r. elim (Memᴰ.cases_cons m) [ inl q ↦ absurd (clash r (rw q e)) | inr n ↦ l.none_less j n r ];
    }

data Leads (c : List (ℕ × ℕ)) (ws : List HeldRow) : FirstReady → Type 0 where
  waits : ((h : HeldRow) → Memᴰ h ws → ready c h.row ≡ false) → Leads c ws none_ready
  goes : {h : HeldRow} {rest : List HeldRow} → Least c ws h → Taken h rest ws → Leads c ws (first_is h rest)

leads_past : (c : List (ℕ × ℕ)) (k : HeldRow) (ws : List HeldRow) (p : FirstReady) → ready c k.row ≡ false → Leads c ws p → Leads c (k ∷ ws) (past k p)
unfolding past
leads_past c k ws none_ready e (waits f) = waits (λ h m. elim (Memᴰ.cases_cons m) [ inl q ↦ rw q e | inr n ↦ f h n ])
leads_past c k ws (first_is h rest) e (goes l t) = goes (least_past c k ws h e l) (there t)

leads : (c : List (ℕ × ℕ)) (ws : List HeldRow) → Sorted work_less (rows_of ws) → Leads c ws (first_ready c ws)
unfolding first_ready rows_of
leads c [] s = waits (λ h m. absurd (Memᴰ.not-nil m))
leads c (k ∷ ws) (Sorted.more f s) =
    (elim (ready c k.row) as (λ b. ready c k.row ≡ b → Leads c (k ∷ ws) (pick b (first_is k ws) (past k (first_ready c ws)))) [
      | true ↦ λ e. goes (least_here c k ws (Sorted.more f s) e) here
      | false ↦ λ e. leads_past c k ws (first_ready c ws) e (leads c ws s)
    ]) refl

pub first_is_least : FirstIsLeast
first_is_least c ws h rest s e = of_found (rw e at (leads c ws s))
  where
    of_found : {c : List (ℕ × ℕ)} {ws rest : List HeldRow} {h : HeldRow} → Leads c ws (first_is h rest) → Least c ws h
    of_found (goes l t) = l

pub working_in_order : WorkingInOrder
working_in_order s cutoff time rows a sound e = (working_order s cutoff time rows a sound e).rises

-- ---- draining by the least

drains_first : (n : ℕ) → ((d : Drained) → length d.waiting ≤ n → Sorted work_less (rows_of d.waiting) → Drains d (drain n d))
    → (d : Drained) → length d.waiting ≤ suc n → Sorted work_less (rows_of d.waiting) → (p : FirstReady) → first_ready d.clock d.waiting ≡ p
    → Leads d.clock d.waiting p → Drains d (drain n (take_first p d))
unfolding take_first
drains_first n ih d len s none_ready e (waits f) = rw (drain_stuck n d e) (ended f)
drains_first n ih d len s (first_is k rest) e (goes m t) =
    let o : Sorted work_less (rows_of rest) = taken_sorted work_less (taken_rows t) s in
    (elim (eqb k.row.seq (suc (get d.clock k.row.author))) as
    (λ b. eqb k.row.seq (suc (get d.clock k.row.author)) ≡ b → Drains d (drain n (pick b (logging k rest d) (dropping rest d)))) [
      | true ↦ λ q. logs m t (eqb-true _ _ q) (ih (logging k rest d) (omega (arith, taken_length t)) o)
      | false ↦ λ q. drops m t (eqb-false _ _ q) (ih (dropping rest d) (omega (arith, taken_length t)) o)
    ]) refl

none_wait : (c : List (ℕ × ℕ)) (w : List HeldRow) → length w ≤ 0 → (h : HeldRow) → Memᴰ h w → ready c h.row ≡ false
none_wait c [] len h m = absurd (Memᴰ.not-nil m)
none_wait c (x ∷ w) len h m = absurd (omega arith)

drain_drains : (n : ℕ) (d : Drained) → length d.waiting ≤ n → Sorted work_less (rows_of d.waiting) → Drains d (drain n d)
unfolding drain
drain_drains zero d len s = ended (none_wait d.clock d.waiting len)
drain_drains (suc n) d len s =
    drains_first n (λ d l s. drain_drains n d l s) d len s (first_ready d.clock d.waiting) refl (leads d.clock d.waiting s)

pub settle_drains : SettleDrains
unfolding settle
settle_drains s a o = drain_drains _ (to_drain s a) (omega arith) o

-- ---- as many steps as there are rows

same_first : (n m : ℕ) → ((d : Drained) → length d.waiting ≤ n → length d.waiting ≤ m → drain n d ≡ drain m d)
    → (d : Drained) → length d.waiting ≤ suc n → length d.waiting ≤ suc m → (p : FirstReady) → first_ready d.clock d.waiting ≡ p
    → Picked d.clock d.waiting p → drain n (take_first p d) ≡ drain m (take_first p d)
unfolding take_first
same_first n m ih d h k none_ready e (stuck f) = rw (drain_stuck n d e, drain_stuck m d e)
same_first n m ih d h k (first_is x rest) e (took r t) =
    ih (take_first (first_is x rest) d) (rw (rest_waits d x rest) (omega (arith, taken_length t))) (rw (rest_waits d x rest) (omega (arith, taken_length t)))

none_first : (c : List (ℕ × ℕ)) (w : List HeldRow) → length w ≤ 0 → first_ready c w ≡ none_ready
unfolding first_ready
none_first c [] h = refl
none_first c (x ∷ w) h = absurd (omega arith)

drain_same : (n m : ℕ) (d : Drained) → length d.waiting ≤ n → length d.waiting ≤ m → drain n d ≡ drain m d
unfolding drain
drain_same zero m d h k = sym (drain_stuck m d (none_first d.clock d.waiting h))
drain_same (suc n) zero d h k = drain_stuck (suc n) d (none_first d.clock d.waiting k)
drain_same (suc n) (suc m) d h k =
    same_first n m (λ d h k. drain_same n m d h k) d h k (first_ready d.clock d.waiting) refl (picked d.clock d.waiting)

pub enough : Enough
enough n d h = drain_same n (length d.waiting) d h (le_refl (length d.waiting))

pub none_ready_lem : NoneReady
none_ready_lem d h m =
    (drained (λ c w l d. Unit) (λ c w l d h rest e t q k. nothing) (λ c w l d h rest e t q k. nothing) (length d.waiting) d (le_refl (length d.waiting)) nothing).1 h.row (rows_mem _ m)

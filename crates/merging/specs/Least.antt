-- Step 3 in the words of document 01, which speak of the least row and not of a list's order. Statements; their proofs stand in proofs/LeastReady.antt.
use Rattle.std.specs.Prelude.{ℕ, suc, ◌≤◌, ◌≡◌, true, false, length}
use mathlib.Core.List.{List, ◌∷◌, Memᴰ}
use Rattle.words.specs.Names.{Time, Clock}
use Rattle.error.specs.Answer.{done}
use Rattle.clock.specs.Entries.{get}
use Rattle.row.specs.Rows.{HeldRow, work_less}
use Rattle.row.specs.Reading.{BatchRow}
use Rattle.replicated_log.specs.Store.{Store, rules}
use Rattle.replicated_log.specs.Areas.{rows_of}
use Rattle.merging.specs.Merging.{unexpired, Admitted, starting, admit_all, ready, first_is, first_ready, Drained, to_drain, logging, dropping, drain, settle}
use Rattle.merging.specs.Offers.{Sorted}

-- ---- the first ready row

-- one of these rows, ready, and no ready one is less: 01: "Of the ready, the least by stamp, author, sequence goes first."
pub record Least (clock : Clock) (ws : List HeldRow) (h : HeldRow) : Type 0 where
  pub among : Memᴰ h ws
  pub is_ready : ready clock h.row ≡ true
  pub none_less : (k : HeldRow) → Memᴰ k ws → ready clock k.row ≡ true → work_less k.row h.row ≡ false

-- of working rows in order, `first_ready` takes the least of the ready ones
abbrev pub FirstIsLeast : Type 0
FirstIsLeast =
    (clock : Clock) (ws : List HeldRow) (h : HeldRow) (rest : List HeldRow) → Sorted work_less (rows_of ws)
    → first_ready clock ws ≡ first_is h rest → Least clock ws h

-- and working rows are in order: those of a store that keeps its rules, after any batch
abbrev pub WorkingInOrder : Type 0
WorkingInOrder =
    (s : Store) (cutoff time : Time) (rows : List BatchRow) (a : Admitted) → rules s ≡ true
    → admit_all s.clock time (starting (unexpired cutoff s.held)) rows ≡ done a → Sorted work_less (rows_of a.working)

-- ---- draining

-- `Taken r rest l`: l is rest with r somewhere in it
pub data Taken {A : Type 0} (r : A) : List A → List A → Type 0 where
  here : {l : List A} → Taken r l (r ∷ l)
  there : {x : A} {rest l : List A} → Taken r rest l → Taken r (x ∷ rest) (x ∷ l)

-- `Drains d e`: from d, step 3 goes on until no row is ready, and comes to e. 01: "If it is not its author's next it is dropped. Else the clock advances and it is
-- logged."
pub data Drains : Drained → Drained → Type 0 where
  ended : {d : Drained} → ((h : HeldRow) → Memᴰ h d.waiting → ready d.clock h.row ≡ false) → Drains d d
  logs : {d e : Drained} {h : HeldRow} {rest : List HeldRow} → Least d.clock d.waiting h → Taken h rest d.waiting
      → h.row.seq ≡ suc (get d.clock h.row.author) → Drains (logging h rest d) e → Drains d e
  drops : {d e : Drained} {h : HeldRow} {rest : List HeldRow} → Least d.clock d.waiting h → Taken h rest d.waiting
      → (h.row.seq ≡ suc (get d.clock h.row.author) → ⊥) → Drains (dropping rest d) e → Drains d e

-- what a merge drains is what step 3 says
abbrev pub SettleDrains : Type 0
SettleDrains = (s : Store) (a : Admitted) → Sorted work_less (rows_of a.working) → Drains (to_drain s a) (settle s a)

-- as many steps as there are working rows are enough: more change nothing
abbrev pub Enough : Type 0
Enough = (n : ℕ) (d : Drained) → length d.waiting ≤ n → drain n d ≡ drain (length d.waiting) d

-- and no row is ready behind them
abbrev pub NoneReady : Type 0
NoneReady =
    (d : Drained) (h : HeldRow) → Memᴰ h (drain (length d.waiting) d).waiting → ready (drain (length d.waiting) d).clock h.row ≡ false

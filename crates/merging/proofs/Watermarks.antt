-- In a store that starts empty and logs each author's rows one after the other, the authors of the watermarks are those of the clock; so there are as many.
use Prim.Native.Nat.{ℕ, suc}
use mathlib.Core.Path.{◌≡◌, refl, sym, ◌∙◌, ap}
use mathlib.Core.Logic.{inl, inr}
use mathlib.Core.List.{List, [], ◌∷◌, map}
use lib.Dec.{ltb, eqb}
use lib.ListN.{length, length-map}
use Rattle.words.specs.Choice.{pick}
use Rattle.words.proofs.Words.{test}
use Rattle.clock.specs.declared.stamp.Timestamp.{Timestamp}
use Rattle.clock.specs.Entries.{get, put}
use Rattle.row.specs.Rows.{Row}
use Rattle.replicated_log.specs.Store.{Mark, Store}
use Rattle.replicated_log.specs.Insertion.{raise, insert}
use Rattle.merging.specs.Merging.{Admitted, settle, commit}
use Rattle.merging.specs.Offers.{Accepted}
use Rattle.merging.proofs.Traces.{merge_went}
use Rattle.merging.proofs.ClockLaws.{observe_put}
use Rattle.merging.proofs.DrainInduction.{settled_store}
use Rattle.merging.proofs.Sealings.{row_sealed}
use Rattle.merging.proofs.StoreRuns.{Run, start, batch, floor, seal}

abbrev clock_authors : List (ℕ × ℕ) → List ℕ
clock_authors es = map (λ e. e.0) es

abbrev mark_authors : List Mark → List ℕ
mark_authors ms = map (λ m. m.author) ms

-- an author entered in its place
unfoldable entered : ℕ → List ℕ → List ℕ
entered a [] = a ∷ []
entered a (b ∷ bs) = pick (eqb b a) (a ∷ bs) (pick (ltb a b) (a ∷ b ∷ bs) (b ∷ entered a bs))

put_authors : (es : List (ℕ × ℕ)) (a n : ℕ) → clock_authors (put es a n) ≡ entered a (clock_authors es)
unfolding put entered
put_authors [] a n = refl
put_authors ((b, m) ∷ es) a n = elim (test (eqb b a)) [
  | inl h ↦ rw h
  | inr h ↦ elim (test (ltb a b)) [ inl k ↦ rw (h, k) | inr k ↦ rw (h, k) (ap (λ (l : List ℕ). b ∷ l) (put_authors es a n)) ]
]

raise_authors : (ms : List Mark) (a : ℕ) (t : Timestamp) → mark_authors (raise ms a t) ≡ entered a (mark_authors ms)
unfolding raise entered
raise_authors [] a t = refl
raise_authors (m ∷ ms) a t = elim (test (eqb m.author a)) [
  | inl h ↦ rw h
  | inr h ↦ elim (test (ltb a m.author)) [ inl k ↦ rw (h, k) | inr k ↦ rw (h, k) (ap (λ (l : List ℕ). m.author ∷ l) (raise_authors ms a t)) ]
]

-- the authors of the watermarks are those of the clock
abbrev pub Marked : Store → Type 0
Marked s = mark_authors s.marks ≡ clock_authors s.clock

pub marks_many : (s : Store) → Marked s → length s.marks ≡ length s.clock
marks_many s h = sym (length-map s.marks (λ m. m.author)) ∙ ap length h ∙ length-map s.clock (λ e. e.0)

insert_marked : (s : Store) (r : Row) → r.seq ≡ suc (get s.clock r.author) → Marked s → Marked (insert s r)
unfolding insert
insert_marked s r e h =
    raise_authors s.marks r.author r.stamp ∙ ap (entered r.author) h
    ∙ sym (put_authors s.clock r.author r.seq)
    ∙ ap clock_authors (sym (observe_put s.clock r.author r.seq e))

-- so they stay when a batch is drained
pub settle_marked : (s : Store) (a : Admitted) → Marked s → Marked (commit s (settle s a))
unfolding settle commit
settle_marked s a h =
    (settled_store Marked insert_marked
    (record { log = s.log; held = (settle s a).waiting; floor = s.floor; clock = s.clock; compacted = s.compacted; marks = s.marks })
    a h).1

pub run_marked : {o : List Row} {t : List Accepted} {s : Store} → Run o t s → Marked s
run_marked (start el eh ec em) = rw (em, ec) refl
run_marked (batch {s = s} cap l time rows m e run) =
    let w = merge_went cap l time s rows m e in
    rw w.store (settle_marked s w.admitted (run_marked run))
run_marked (floor x run) = run_marked run
run_marked (seal {s = s} cap r s' e next fresh run) = rw (← (row_sealed cap s r s' e).store) (insert_marked s r next (run_marked run))

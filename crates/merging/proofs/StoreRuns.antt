-- Calls on a store as values: accepted batches, floor settings and accepted sealings, from an empty store; a refused call leaves the store, and so does not
-- show. What holds after every such run whose offers are fair.
use Prim.Native.Nat.{ℕ, suc, ◌≤◌, ◌<◌}
use mathlib.Core.Path.{◌≡◌, refl, sym, ap}
use mathlib.Core.Logic.{inl, inr}
use mathlib.Core.Bool.{Bool, true, false, not}
use mathlib.Core.List.{List, [], ◌∷◌, ◌++◌, Memᴰ}
use native.Mathlib.Omega.{arith}
use lib.Dec.{eqb}
use borrow.Author.Tests.{eqb-true, eqb-false}
use Rattle.words.proofs.Words.{test}
use Rattle.error.specs.declared.Refusal.{Refusal}
use Rattle.error.specs.Answer.{done, refused, unless}
use Rattle.clock.specs.declared.stamp.Timestamp.{Timestamp}
use Rattle.clock.specs.Entries.{get, observe}
use Rattle.clock.proofs.RisingAuthors.{Rises}
use Rattle.clock.proofs.LexicographicOrder.{clash}
use Rattle.row.specs.Rows.{Row, HeldRow}
use Rattle.row.specs.Reading.{BatchRow}
use Rattle.replicated_log.specs.Store.{Store}
use Rattle.replicated_log.specs.Areas.{rows_of}
use Rattle.merging.specs.Batch.{Limits, validate, validate_all}
use Rattle.merging.specs.Merging.{ready, staying, Admitted, starting, admit_all, Drained, settle, commit, Merged, merge}
use Rattle.merging.specs.Calls.{with_floor}
use Rattle.merging.specs.Desk.{seal_row}
use Rattle.merging.specs.Offers.{batch_rows, Accepted, Spans, OneContent, count, ListedAfter, Sorted, Within}
use Rattle.merging.proofs.Traces.{not_refused, each_passes, insert_held, merge_went}
use Rattle.merging.proofs.CausalListings.{count_none, last_self, last_cases}
use Rattle.merging.proofs.RowLists.{goes_before, unexpired_all}
use Rattle.merging.proofs.DrainInduction.{Idle, taken_place, ready_seq, ready_deps, is_ready, settle_every, settled_store}
use Rattle.merging.proofs.Admission.{admit_every}
use Rattle.merging.proofs.Invariant.{Valid, AllValid, Inv, weaker, keeps_log, keeps_new, keeps_admits, settles}
use Rattle.merging.proofs.ClockLaws.{get_others, get_member}
use Rattle.merging.proofs.Sealings.{Seals, row_sealed}
use Rattle.replicated_log.specs.Insertion.{insert_row, insert, insert_all}

-- time and pending age of a batch
abbrev pub accepting : ℕ → Limits → Accepted
accepting time l = record { time = time; age = l.max_pending_age }

-- neither r nor a row depending on it or later by its author is among these
pub record Fresh (o : List Row) (r : Row) : Type 0 where
  pub not_it : Memᴰ r o → ⊥
  pub none_depends : (y : Row) (n : ℕ) → Memᴰ y o → Memᴰ (r.author, n) y.deps → r.seq ≤ n → ⊥
  pub none_later : (y : Row) → Memᴰ y o → y.author ≡ r.author → r.seq < y.seq → ⊥

-- `Run offers accepted s`: calls from an empty store that offer these rows in these accepted batches lead to s
pub data Run : List Row → List Accepted → Store → Type 0 where
  start : {s : Store} → s.log ≡ [] → s.held ≡ [] → s.clock ≡ [] → s.marks ≡ [] → Run [] [] s
  batch : {o : List Row} {t : List Accepted} {s : Store} (cap : ℕ) (l : Limits) (time : ℕ) (rows : List BatchRow) (m : Merged)
      → merge cap l time s rows ≡ done m → Run o t s → Run (o ++ batch_rows rows) (t ++ (accepting time l ∷ [])) m.store
  floor : {o : List Row} {t : List Accepted} {s : Store} (x : Timestamp) → Run o t s → Run o t (with_floor s x)
  seal : {o : List Row} {t : List Accepted} {s : Store} (cap : ℕ) (r : Row) (s' : Store) → seal_row cap s r ≡ done s'
      → r.seq ≡ suc (get s.clock r.author) → Fresh o r → Run o t s → Run (o ++ (r ∷ [])) t s'

-- a held row's arrival is the time of an accepted batch
abbrev pub Arrived : List Accepted → HeldRow → Type 0
Arrived t h = (x : Accepted) × Memᴰ x t × (x.time ≡ h.arrival)

-- of the offers `o` the rows `p` are admitted, and nothing is ready
pub record Ended (o p : List Row) (s : Store) : Type 0 where
  pub listing : List Row
  pub inv : Inv o p s.clock listing s.log (rows_of s.held)
  pub idle : Idle s.clock s.held

-- what holds after a run whose offers are fair
pub record Good (o : List Row) (t : List Accepted) (s : Store) : Type 0 where
  pub ended : Ended o o s
  pub arrivals : (h : HeldRow) → Memᴰ h s.held → Arrived t h

-- ---- refusals 5 and 6

zero_refused : (l : Limits) (time : ℕ) (b : BatchRow) {u : Unit} → b.row.seq ≡ 0 → validate l time b ≡ done u → ⊥
unfolding validate
zero_refused l time b z e = not_refused (rw z at e)

unless_refused : (t : Bool) (r f : Refusal) (u : Unit {0}) → unless t r (refused f) ≡ done u → ⊥
unless_refused true r f u e = not_refused e
unless_refused false r f u e = not_refused e

foreign_refused : (l : Limits) (time : ℕ) (b : BatchRow) {u : Unit} → eqb b.row.stamp.actor_id.0 b.row.author ≡ false → validate l time b ≡ done u → ⊥
unfolding validate
foreign_refused l time b f e =
    unless_refused (not (eqb b.row.seq 0)) _ _ _ (rw f at e)

valid_row : (l : Limits) (time : ℕ) (b : BatchRow) {u : Unit} → validate l time b ≡ done u → Valid b.row
valid_row l time b e =
    let above : b.row.seq ≡ 0 → ⊥ = λ z. zero_refused l time b z e in
    record {
      first = omega (arith, above);
      own = elim (test (eqb b.row.stamp.actor_id.0 b.row.author)) [ inl h ↦ eqb-true _ _ h | inr h ↦ absurd (foreign_refused l time b h e) ];
    }

valid_rows : (l : Limits) (time : ℕ) (rows : List BatchRow) {u : Unit} → validate_all l time rows ≡ done u → AllValid (batch_rows rows)
unfolding batch_rows
valid_rows l time rows e y m =
    let (b, k, q) = mathlib.Core.List.Memᴰ.of_map (λ b. b.row) rows m in
    rw (← q) (valid_row l time b (each_passes l time rows e b k).1)

-- so every offered row is
pub valid_offers : {o : List Row} {t : List Accepted} {s : Store} → Run o t s → AllValid o
valid_offers (start el eh ec em) y m = absurd (mathlib.Core.List.Memᴰ.not-nil m)
valid_offers (batch {o = o} {s = s} cap l time rows m e run) y k = elim (mathlib.Core.List.Memᴰ.append_cases o k) [
  | inl q ↦ valid_offers run y q
  | inr q ↦ valid_rows l time rows (merge_went cap l time s rows m e).valid y q
]
valid_offers (floor x run) y m = valid_offers run y m
valid_offers (seal {o = o} {s = s} cap r s' e next fresh run) y m =
    let seals = row_sealed cap s r s' e in
    elim (last_cases o r m) [ inl q ↦ rw q (record { first = seals.first; own = seals.own }) | inr k ↦ valid_offers run y k ]

pub batch_row_lem : (rows : List BatchRow) (b : BatchRow) → Memᴰ b rows → Memᴰ b.row (batch_rows rows)
unfolding batch_rows
batch_row_lem rows b m = mathlib.Core.List.Memᴰ.map (λ b. b.row) m

-- ---- the start

pub ended_start : (s : Store) → s.log ≡ [] → s.held ≡ [] → s.clock ≡ [] → Ended [] [] s
unfolding rows_of get count
ended_start s el eh ec =
    record {
      listing = [];
      inv = rw (el, eh, ec) (record {
        listing = ListedAfter.none;
        clock = λ a. sym (count_none a);
        rises = Rises.none;
        positive = λ a n m. absurd (mathlib.Core.List.Memᴰ.not-nil m);
        held = λ y m. m;
        all = λ y m. inl m;
        ahead = λ y m. absurd (mathlib.Core.List.Memᴰ.not-nil m);
        held_sorted = Sorted.none;
        log_sorted = Sorted.none;
        log_listed = λ y m. m;
        listed_log = λ y m. m;
        counted = λ a. refl;
      });
      idle = rw eh (λ y m. absurd (mathlib.Core.List.Memᴰ.not-nil m));
    }

-- ---- an accepted batch

-- the same under more offers, the old ones admitted
pub more_offers : {few many p : List Row} {c : List (ℕ × ℕ)} {ls g w : List Row} → Within few many → Inv few p c ls g w → Inv many p c ls g w
more_offers f i = weaker f (λ y m. m) i.held_sorted i.all i

-- whatever expires: what stays is held when the rows of the batch are admitted
module _ {o p : List Row} (one : OneContent o) (valid : AllValid o) (s : Store) (l : Limits) (time : ℕ) (rows : List BatchRow) (sub : Within (batch_rows rows) o)
    (ls : List Row) (i : Inv o p s.clock ls s.log (rows_of (staying l time s))) where
  pub ended_settled : (a : Admitted) → admit_all s.clock time (starting (staying l time s)) rows ≡ done a → Ended o (p ++ batch_rows rows) (commit s (settle s a))
  unfolding settle commit
  ended_settled a e =
      let working = keeps_admits o one valid s.clock time ls s.log rows (λ b k. sub b.row (batch_row_lem rows b k)) p _ a e i in
      let d : Drained = settle s a in
      let base : Store =
      record { log = s.log; held = d.waiting; floor = s.floor; clock = s.clock; compacted = s.compacted; marks = s.marks } in
      let ends = settles o one valid (p ++ batch_rows rows) base ls a working in
      let clock : (insert_all base (rows_of d.logged)).clock ≡ d.clock = (settled_store (λ s. Unit) (λ s r e u. u) base a tt).0 in
      let held : (insert_all base (rows_of d.logged)).held ≡ d.waiting = insert_held base (rows_of d.logged) in
      record {
        listing = ls ++ rows_of d.logged;
        inv = rw (clock, held) ends.0.inv;
        idle = rw (clock, held) ends.1;
      }

  pub ended_batch : (cap : ℕ) (m : Merged) → merge cap l time s rows ≡ done m → Ended o (p ++ batch_rows rows) m.store
  ended_batch cap m e =
      let w = merge_went cap l time s rows m e in
      rw w.store (ended_settled w.admitted w.admits)

module _ {o : List Row} {t : List Accepted} {s : Store} (l : Limits) (time : ℕ) (rows : List BatchRow) (G : Good o t s)
    (one : OneContent (o ++ batch_rows rows)) (valid : AllValid (o ++ batch_rows rows)) (spans : Spans (t ++ (accepting time l ∷ []))) where
  -- fair times: nothing expires
  kept : staying l time s ≡ s.held
  kept = unexpired_all _ s.held (λ h m.
      let (x, n, e) = G.arrivals h m in
      let now = last_self t (accepting time l) in
      omega (arith, spans (accepting time l) x (accepting time l) now (mathlib.Core.List.Memᴰ.append_left _ n) now))

  -- a held row arrived with this batch or before it
  still_arrived : (cap : ℕ) (m : Merged) → merge cap l time s rows ≡ done m → (h : HeldRow) → Memᴰ h m.store.held → Arrived (t ++ (accepting time l ∷ [])) h
  unfolding commit
  still_arrived cap m e =
      let w = merge_went cap l time s rows m e in
      let a : Admitted = w.admitted in
      let came = admit_every s.clock time (Arrived (t ++ (accepting time l ∷ []))) rows _ a (rw kept at w.admits)
      (λ b k. (accepting time l, last_self t (accepting time l), refl))
      (λ h k. let (x, n, q) = G.arrivals h k in (x, mathlib.Core.List.Memᴰ.append_left _ n, q)) in
      let arrivals = (settle_every (Arrived (t ++ (accepting time l ∷ []))) s a came).0 in
      rw (w.store, insert_held _ (rows_of (settle s a).logged)) arrivals

  good_batch : (cap : ℕ) (m : Merged) → merge cap l time s rows ≡ done m → Good (o ++ batch_rows rows) (t ++ (accepting time l ∷ [])) m.store
  good_batch cap m e =
      record {
        ended =
            ended_batch {p = o} one valid s l time rows (λ y k. mathlib.Core.List.Memᴰ.append_right o k) G.ended.listing
            (rw kept (more_offers (λ y k. mathlib.Core.List.Memᴰ.append_left (batch_rows rows) k) G.ended.inv)) cap m e;
        arrivals = still_arrived cap m e;
      }

-- ---- an accepted sealing

-- the row is entered among the held rows, and logged at once
module _ {o p : List Row} {c : List (ℕ × ℕ)} {ls g w : List Row} (r : Row) (one : OneContent (o ++ (r ∷ [])))
    (valid : AllValid (o ++ (r ∷ []))) (next : r.seq ≡ suc (get c r.author)) (causes : r.deps ≡ c)
    (not_it : Memᴰ r o → ⊥) (i : Inv o p c ls g w) where
  apart : (y : Row) → Memᴰ y w → r.author ≡ y.author → r.seq ≡ y.seq → ⊥
  apart y m e f = not_it (mathlib.Core.List.Memᴰ.cast (one r y (last_self o r) (mathlib.Core.List.Memᴰ.append_left (r ∷ []) (i.held y m)) e f) (i.held y m))

  met : ready c r ≡ true
  met = is_ready c r (omega arith) (λ a n m. omega (arith, get_member a n i.rises (rw causes at m)))

  pub keeps_seal : Inv (o ++ (r ∷ [])) (p ++ (r ∷ [])) (observe c r.author r.seq) (ls ++ (r ∷ [])) (insert_row r g) w
  keeps_seal =
      keeps_log (o ++ (r ∷ [])) one valid
      (keeps_new (o ++ (r ∷ [])) one valid (more_offers (λ y m. mathlib.Core.List.Memᴰ.append_left (r ∷ []) m) i) r (last_self o r) (omega arith) apart)
      r met (taken_place (goes_before r) r w) next

module _ {o : List Row} {t : List Accepted} {s : Store} (cap : ℕ) (r : Row) (s' : Store) (e : seal_row cap s r ≡ done s')
    (next : r.seq ≡ suc (get s.clock r.author)) (fresh : Fresh o r) (one : OneContent (o ++ (r ∷ []))) (valid : AllValid (o ++ (r ∷ []))) (G : Good o t s) where
  seals : Seals cap s r s'
  seals = row_sealed cap s r s' e

  i : Inv o o s.clock G.ended.listing s.log (rows_of s.held)
  i = G.ended.inv

  -- no held row is a later one of the author
  other_author : (y : Row) → Memᴰ y (rows_of s.held) → r.author ≡ y.author → ⊥
  other_author y m q =
      let yo : Memᴰ y o = i.held y m in
      let up : r.seq ≤ y.seq = omega (arith, i.ahead y m, i.clock y.author, ap (get s.clock) q) in
      let same : r.seq ≡ y.seq = omega (arith, fresh.none_later y yo (sym q)) in
      fresh.not_it (mathlib.Core.List.Memᴰ.cast (one r y (last_self o r) (mathlib.Core.List.Memᴰ.append_left (r ∷ []) yo) q same) yo)

  -- no held row becomes ready: none is the author's, and none depends on the row
  still_idle : (y : Row) → Memᴰ y (rows_of s.held) → ready (observe s.clock r.author r.seq) y ≡ true → ready s.clock y ≡ true
  still_idle y m rd =
      is_ready s.clock y
      (omega (arith, ready_seq _ y rd, get_others s.clock r.author r.seq next y.author (other_author y m)))
      (λ a n k. elim (test (eqb r.author a)) [
        | inl h ↦
            let q : r.author ≡ a = eqb-true _ _ h in
            omega (arith, fresh.none_depends y n (i.held y m) (rw (← q) at k), ap (get s.clock) q)
        | inr h ↦ omega (arith, ready_deps _ y rd a n k, get_others s.clock r.author r.seq next a (eqb-false _ _ h))
      ])

  good_seal : Good (o ++ (r ∷ [])) t s'
  unfolding insert
  good_seal =
      rw (← seals.store) (record {
        ended = record {
          listing = G.ended.listing ++ (r ∷ []);
          inv = keeps_seal r one valid next seals.causes fresh.not_it i;
          idle = λ y m. elim (test (ready (observe s.clock r.author r.seq) y)) [
            | inl h ↦ absurd (clash (still_idle y m h) (G.ended.idle y m))
            | inr h ↦ h
          ];
        };
        arrivals = G.arrivals;
      })

-- ---- every run

pub one_part : {few many : List Row} → Within few many → OneContent many → OneContent few
one_part f one r s m n = one r s (f r m) (f s n)

pub good : {o : List Row} {t : List Accepted} {s : Store} → Run o t s → OneContent o → Spans t → Good o t s
good (start {s = s} el eh ec em) one spans =
    record { ended = ended_start s el eh ec; arrivals = rw eh (λ h m. absurd (mathlib.Core.List.Memᴰ.not-nil m)) }
good (batch {o = o} {t = t} cap l time rows m e run) one spans =
    good_batch l time rows
    (good run (one_part (λ y k. mathlib.Core.List.Memᴰ.append_left (batch_rows rows) k) one)
    (λ x y z i j k. spans x y z (mathlib.Core.List.Memᴰ.append_left _ i) (mathlib.Core.List.Memᴰ.append_left _ j) (mathlib.Core.List.Memᴰ.append_left _ k)))
    one (valid_offers (batch cap l time rows m e run)) spans cap m e
good (floor x run) one spans =
    let G = good run one spans in
    record { ended = record { listing = G.ended.listing; inv = G.ended.inv; idle = G.ended.idle }; arrivals = G.arrivals }
good (seal {o = o} cap r s' e next fresh run) one spans =
    good_seal cap r s' e next fresh one (valid_offers (seal cap r s' e next fresh run))
    (good run (one_part (λ y k. mathlib.Core.List.Memᴰ.append_left (r ∷ []) k) one) spans)

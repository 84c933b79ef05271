-- 13 to 18: what steps 1 to 3 and the tests after them say of the merge.
use Prim.Native.Nat.{ℕ, ◌+◌, ◌-◌, ◌*◌, ◌≤◌, ◌<◌, ◌^◌}
use mathlib.Core.Path.{◌≡◌, refl, sym, ◌∙◌, ap}
use mathlib.Core.Bool.{◌&&◌}
use mathlib.Core.Logic.{inl, inr}
use mathlib.Core.List.{List, [], ◌∷◌}
use native.Mathlib.Nat.{le_refl}
use native.Mathlib.Omega.{arith}
use lib.Dec.{leb, ltb, eqb}
use lib.ListN.{length, take}
use Rattle.words.specs.Be.{get64, AllBytes, column}
use Rattle.words.proofs.Words.{test}
use Rattle.error.specs.declared.Refusal.{Refusal}
use Rattle.std.specs.declared.result.Result.TheVariants.{Ok, Err}
use Rattle.error.specs.Answer.{Answer, done, refused, and_then, got, nothing}
use Rattle.clock.specs.Entries.{observe}
use Rattle.clock.specs.Vector.{entries}
use Rattle.clock.specs.Area.{clock_at}
use Rattle.row.specs.Rows.{HeldRow}
use Rattle.row.specs.Slots.{slots_at}
use Rattle.row.specs.Reading.{BatchRow}
use Rattle.replicated_log.specs.Store.{Store, derive}
use Rattle.replicated_log.specs.Areas.{Areas, capacity, decode_store, rows_of}
use Rattle.replicated_log.specs.Inside.Units.{unit_of}
use Rattle.replicated_log.proofs.Tables.DerivedClock.{derive_append}
use Rattle.replicated_log.proofs.Store.Rules.{kept, Kept}
use Rattle.replicated_log.proofs.Store.Encoding.{reads, read_rules}
use Rattle.replicated_log.proofs.Calls.Queries.{Passed, read_passed}
use Rattle.replicated_log.proofs.Calls.Changes.{read_stored, fits_room}
use Rattle.replicated_log.proofs.Calls.Restoration.{all_clock}
use Rattle.merging.specs.Batch.{Limits, read_rows}
use Rattle.merging.specs.Merging.{unexpired, Admitted, admit_all, Drained, drain, fate, lines, quotas, Merged, commit, report, settle, finish, merge, starting}
use Rattle.merging.specs.Trace.{Fits}
use Rattle.merging.proofs.Traces.{then_done, not_refused}
use Rattle.merging.proofs.DrainInduction.{drained}
use Rattle.merging.proofs.RowLists.{rows_last}
use Rattle.merging.proofs.RulesKept.{merge_rules}
use Rattle.merging.proofs.BatchRows.{brought}
use Rattle.batch.specs.declared.MergeLimits.{MergeLimits}
use Rattle.batch.specs.Settings.{limits_of}
use Rattle.working.specs.Inside.References.{work_row, work_rows}
use Rattle.working.proofs.ReferenceRows.{row_time}
use Rattle.working.proofs.ScratchColumns.{length_cells}
use Rattle.quota.specs.Inside.Room.{rows_logged}
use Rattle.merge.specs.Inside.Decision.{Opened, SettleNeeds, SettledRows, JudgeNeeds, Judged, Accepts, NotMerged}
use Rattle.merge.specs.declared.deciding.Settled.{Settled}
use Rattle.merge.proofs.UsedSlots.{used_length, used_slot, used_refs, used_rows, used_slots}
use Rattle.merge.proofs.RisingReferences.{slots_rise, length_work, length_slots}
use Rattle.merge.proofs.WrittenAreas.{with_held, commit_is}
use Rattle.words.specs.Lists.{count_if}
use Rattle.replicated_log.specs.Insertion.{insert_all, fits}
use Rattle.merging.specs.Inside.RowStarts.{StartsAt}

-- ---- 14 to 18 in one answer

fits_held : (cap : ℕ) (s : Store) (hs : List HeldRow) → unit_of (fits cap (with_held s hs)) ≡ unit_of (fits cap s)
unfolding fits
fits_held cap s hs =
    elim (test (leb (length s.log) cap)) [
      | inr h ↦ rw h
      | inl h ↦ elim (test (leb (length s.clock) 32 && leb (length s.marks) 32)) [ inl k ↦ rw (h, k) | inr k ↦ rw (h, k) ]
    ]

unit_refused : {A : Type 0} (x : Answer A) (r : Refusal) → unit_of x ≡ refused r → x ≡ refused r
unit_refused (Ok y) r e = absurd (not_refused (sym e))
unit_refused (Err q) r e =
    let f : q ≡ r = cc in
    rw f

module _ (cap : ℕ) (l : Limits) (s : Store) (kept : List HeldRow) (a : Admitted) (d : Drained) where
  abbrev asked : Answer Unit
  asked = and_then (quotas l d.waiting) (λ u. unit_of (fits cap (commit s d)))

  pub finish_refused : (r : Refusal) → asked ≡ refused r → finish cap l s kept a d ≡ refused r
  unfolding finish
  finish_refused r e =
      (elim (quotas l d.waiting) as (λ q. and_then q (λ u. unit_of (fits cap (commit s d))) ≡ refused r
      → and_then {B = Merged} q (λ u. and_then {B = Merged} (fits cap (commit s d)) (λ s'. done (record { store = s'; report = report s kept a d; lines = lines s.floor d.logged }))) ≡ refused r) [
        | Ok u ↦ λ f. rw (unit_refused (fits cap (commit s d)) r f)
        | Err q ↦ λ f. let g : q ≡ r = cc in ap refused g
      ]) e

  pub finish_done : asked ≡ done nothing
      → (finish cap l s kept a d ≡ done (record { store = commit s d; report = report s kept a d; lines = lines s.floor d.logged })) × Fits cap (commit s d)
  unfolding finish
  finish_done e =
      let (u, q, e₁) = then_done (quotas l d.waiting) (λ u. unit_of (fits cap (commit s d))) e in
      let r = fits_room cap (commit s d) e₁ in
      (rw (q, r.is), record { log = r.log; clock = r.clock; marks = r.marks })

-- ---- the clock that rows are drained by is the log's with the logged rows

abbrev to_do : List (ℕ × ℕ) → List HeldRow → Drained
to_do c w = record { clock = c; waiting = w; logged = []; dropped = 0 }

drain_clock : (c : List (ℕ × ℕ)) (w : List HeldRow) → (drain (length w) (to_do c w)).clock ≡ derive c (rows_of (drain (length w) (to_do c w)).logged)
unfolding derive rows_of
drain_clock c w =
    (drained (λ d w l n. d ≡ derive c (rows_of l))
    (λ d w l n h rest r t q e. sym (ap (derive c) (rows_last l h) ∙ derive_append c (rows_of l) (h.row ∷ []) ∙ ap (λ (x : List (ℕ × ℕ)). observe x h.row.author h.row.seq) (sym e)))
    (λ d w l n h rest r t q e. e)
    (length w) (to_do c w) (le_refl (length w)) refl).0

-- rows do not depend on when they arrived
pub rows_time : (held batch : List ℕ) (time : ℕ) (ks : List ℕ) → rows_of (work_rows held batch 0 ks) ≡ rows_of (work_rows held batch time ks)
unfolding rows_of work_rows
rows_time held batch time [] = refl
rows_time held batch time (k ∷ ks) =
    let f : (work_row held batch 0 k).row ≡ (work_row held batch time k).row = sym (row_time held batch k 0) ∙ row_time held batch k time in
    rw (f, rows_time held batch time ks)

-- ---- the store, its batch and the used slots

pub oldest_is : (m : MergeLimits) (time : ℕ) {cutoff : ℕ} → cutoff ≡ time - m.max_pending_age_ms → cutoff ≡ time - (limits_of m).max_pending_age
unfolding limits_of
oldest_is m time e = e

module _ {a : Areas} {l : Limits} {time : ℕ} {batch scratch starts : List ℕ} {n count : ℕ} (o : Opened a l time batch scratch starts n count)
    {u : List ℕ} (e₀ : u ≡ take (704 * count) a.held) {cutoff : ℕ} (c : cutoff ≡ time - l.max_pending_age) where
  p : Passed a
  p = read_passed a o.store o.reads

  is : o.store ≡ decode_store a
  is = (reads a o.store o.reads).is

  k : Kept o.store
  k = kept o.store (read_rules a o.store o.reads)

  count_is : count ≡ get64 a.head 8
  unfolding decode_store
  count_is = o.counts ∙ ap (λ s. length s.held) is ∙ length_slots a.held 0 (get64 a.head 8)

  clock_is : entries (clock_at a.head 48) ≡ o.store.clock
  unfolding decode_store
  clock_is = ap (λ s. s.clock) (sym is)

  held_is : slots_at a.held 0 count ≡ o.store.held
  unfolding decode_store
  held_is = rw count_is (ap (λ s. s.held) (sym is))

  pub opened_long : 704 * count ≤ length a.held
  opened_long = omega (arith, o.counts, k.held_few, p.long.held)

  pub used_long : 704 * count ≡ length u
  used_long = sym (used_length a.held u count e₀ opened_long)

  used_held : slots_at u 0 count ≡ o.store.held
  used_held = used_slots a.held u count e₀ opened_long ∙ held_is

  pub settle_needs : SettleNeeds u batch a.head scratch count starts n
  settle_needs = record {
    few = omega (arith, o.counts, k.held_few);
    slots = λ j h. rw (used_slot a.held u count e₀ opened_long j h) (p.ok.held.slots j (rw count_is at h));
    begun = record { first = o.first; starts_are = o.starts_are; read = rw o.taken.from refl; room = o.starts_room };
    rows_few = o.taken.few;
    room = omega (arith, o.room);
    long = omega (arith, p.long.head);
    clock = p.ok.head.clock;
  }

  -- the rows that were admitted, from the store's clock and held rows
  begins : (x : Answer Admitted) → admit_all (entries (clock_at a.head 48)) time (starting (unexpired cutoff (slots_at u 0 count))) o.taken.rows ≡ x
      → admit_all o.store.clock time (starting (unexpired (time - l.max_pending_age) o.store.held)) o.taken.rows ≡ x
  begins x f = rw (clock_is, used_held, c) at f

  pub not_admitted : {r : Refusal}
      → ((time first : ℕ) (rows : List BatchRow) (end : ℕ) → StartsAt batch starts first n → read_rows batch first n ≡ got rows end
      → admit_all (entries (clock_at a.head 48)) time (starting (unexpired cutoff (slots_at u 0 count))) rows ≡ refused r)
      → NotMerged a l time batch r
  unfolding merge
  not_admitted f =
      (o.store, o.taken.rows, o.reads, o.taken.brings, rw (o.taken.valid, begins _ (f time o.first o.taken.rows o.taken.end o.starts_are o.taken.from)))

  module _ {t : List ℕ} {s : Settled}
      (f : (time first : ℕ) (rows : List BatchRow) (end : ℕ) → StartsAt batch starts first n → read_rows batch first n ≡ got rows end
      → SettledRows u batch a.head time t count cutoff rows s)
      (same : length t ≡ length scratch) where
    d : SettledRows u batch a.head time t count cutoff o.taken.rows s
    d = f time o.first o.taken.rows o.taken.end o.starts_are o.taken.from

    few : s.waiting + s.logged ≤ count + n
    few = omega (arith, d.total, o.taken.counted)

    pub judge_needs : JudgeNeeds a.log u batch a.head t s.waiting s.logged
    judge_needs = record {
      working = record { room = omega (arith, few, o.room); refs = d.refers.waiting_refs };
      waiting_few = omega (arith, few, o.counts, k.held_few, o.taken.few);
      stored = record { store = o.store; behind = _; rest = _; stored = read_stored a o.store o.reads };
      refs = d.refers.logged_refs;
      room = omega (arith, few, o.room);
      logged_few = omega (arith, few, o.counts, k.held_few, o.taken.few);
    }

    admits : admit_all o.store.clock time (starting (unexpired (time - l.max_pending_age) o.store.held)) o.taken.rows
        ≡ done d.admitted
    admits = begins _ d.admits

    settles : d.drained ≡ settle o.store d.admitted
    unfolding settle
    settles = rw clock_is at d.is

    logged_rows_lem : rows_logged u batch t s.logged ≡ rows_of d.drained.logged
    unfolding rows_logged
    logged_rows_lem = rows_time u batch time (column t 8 s.logged) ∙ ap rows_of d.refers.logged_are

    authors_told : s.authors ≡ length (insert_all o.store (rows_logged u batch t s.logged)).clock
    authors_told =
        let g : d.drained.clock ≡ derive o.store.clock (rows_of d.drained.logged) =
        rw d.is (drain_clock (entries (clock_at a.head 48)) d.admitted.working) ∙ ap (λ c. derive c (rows_of d.drained.logged)) clock_is in
        d.authors_are ∙ ap length (g ∙ sym (all_clock o.store (rows_of d.drained.logged))) ∙ ap (λ rs. length (insert_all o.store rs).clock) (sym logged_rows_lem)

    abbrev expect : Answer Unit
    expect = and_then (quotas l d.drained.waiting) (λ u. unit_of (fits (capacity a.log) (commit o.store d.drained)))

    module _ {answer : Answer Unit} (j : Judged a.log u batch a.head t l s.waiting s.logged s.authors answer) where
      told : answer ≡ expect
      told =
          let g : unit_of (fits (capacity a.log) (insert_all o.store (rows_logged u batch t s.logged))) ≡ unit_of (fits (capacity a.log) (commit o.store d.drained)) =
          rw (logged_rows_lem, commit_is o.store d.drained) (sym (fits_held (capacity a.log) (insert_all o.store (rows_of d.drained.logged)) d.drained.waiting)) in
          j.is time o.store _ _ (read_stored a o.store o.reads) authors_told ∙ rw (d.refers.waiting_are, g)

      merge_is : merge (capacity a.log) l time o.store o.taken.rows
          ≡ finish (capacity a.log) l o.store (unexpired (time - l.max_pending_age) o.store.held) d.admitted d.drained
      unfolding merge
      merge_is = rw (o.taken.valid, admits, settles)

      pub not_passed : {r : Refusal} → answer ≡ refused r → NotMerged a l time batch r
      not_passed {r} e =
          (o.store, o.taken.rows, o.reads, o.taken.brings, merge_is ∙ finish_refused (capacity a.log) l o.store _ d.admitted d.drained r (sym told ∙ e))

      module _ (e : answer ≡ done nothing) (now : time < 2 ^ 64) (bytes : AllBytes batch) where
        abbrev m : Merged
        m =
            record {
              store = commit o.store d.drained;
              report = report o.store (unexpired (time - l.max_pending_age) o.store.held) d.admitted d.drained;
              lines = lines o.store.floor d.drained.logged;
            }

        ends : (finish (capacity a.log) l o.store (unexpired (time - l.max_pending_age) o.store.held) d.admitted d.drained ≡ done m)
            × Fits (capacity a.log) (commit o.store d.drained)
        ends = finish_done (capacity a.log) l o.store _ d.admitted d.drained (sym told ∙ e)

        merges : merge (capacity a.log) l time o.store o.taken.rows ≡ done m
        merges = merge_is ∙ ends.0

        after : Kept m.store
        after =
            kept m.store
            (merge_rules (capacity a.log) l time o.store o.taken.rows m merges o.within now (brought batch bytes o.taken.rows o.taken.brings)
            (read_rules a o.store o.reads))

        held_after : m.store.held ≡ d.drained.waiting
        held_after = ap (λ s. s.held) (commit_is o.store d.drained)

        waiting_length : length d.drained.waiting ≡ s.waiting
        waiting_length = sym (ap length d.refers.waiting_are) ∙ length_work u batch time (column t 0 s.waiting) ∙ length_cells t 0 s.waiting

        expired_is : length o.store.held - length (unexpired (time - l.max_pending_age) o.store.held) ≡ s.expired
        expired_is = sym (d.expired_is ∙ rw (used_held, c, o.counts))

        pub accepts : Accepts a l time batch t
            (record { waiting = s.waiting; logged = s.logged; expired = s.expired; duplicates = s.duplicates; dropped = s.dropped })
        unfolding report
        accepts = record {
          store = o.store;
          rows = o.taken.rows;
          drained = d.drained;
          merged = m;
          reads = o.reads;
          brings = o.taken.brings;
          merges = merges;
          store_is = refl;
          lines_are = refl;
          told = λ i. record {
            applied = count_if (λ h. eqb (fate o.store.floor h) 0) d.drained.logged;
            stale = count_if (λ h. eqb (fate o.store.floor h) 1) d.drained.logged;
            rejected = count_if (λ h. ltb 1 (fate o.store.floor h)) d.drained.logged;
            duplicates = sym d.duplicates_are i;
            held = waiting_length i;
            expired = expired_is i;
            dropped = sym d.dropped_is i;
          };
          within = ends.1;
          refers =
              record {
                waiting_are = sym (used_rows a.held u count e₀ opened_long batch time (column t 0 s.waiting) d.refers.waiting_refs) ∙ d.refers.waiting_are;
                logged_are = sym (used_rows a.held u count e₀ opened_long batch time (column t 8 s.logged) d.refers.logged_refs) ∙ d.refers.logged_are;
                waiting_refs = used_refs a.held u count e₀ opened_long batch (column t 0 s.waiting) d.refers.waiting_refs;
                logged_refs = used_refs a.held u count e₀ opened_long batch (column t 8 s.logged) d.refers.logged_refs;
              };
          rise =
              slots_rise a.held u batch count e₀ opened_long (rw count_is p.ok.held.keys) time t s.waiting d.refers.waiting_refs
              (rw d.refers.waiting_are (rw held_after at after.keys));
          few = omega (arith, after.held_few, ap length held_after, waiting_length);
          total = omega (arith, few, o.counts, o.taken.counted);
          rows_few = omega (arith, o.taken.few, o.taken.counted);
        }

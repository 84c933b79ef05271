-- From the decision to what the call leaves.
use Prim.Native.Nat.{ℕ, ◌+◌, ◌*◌, ◌≤◌}
use mathlib.Core.Path.{◌≡◌, sym, ◌∙◌, ap}
use mathlib.Core.Bool.{true}
use mathlib.Core.List.{List}
use native.Mathlib.Omega.{arith}
use lib.ListN.{length, drop, replicate}
use Rattle.words.specs.Be.{column}
use Rattle.words.specs.Areas.{put_at}
use Rattle.error.specs.declared.Refusal.{Refusal}
use Rattle.std.specs.declared.result.Result.TheVariants.{Ok, Err}
use Rattle.error.specs.Answer.{Answer, done, refused, nothing, ends}
use Rattle.row.specs.Reading.{BatchRow}
use Rattle.replicated_log.specs.Store.{Store}
use Rattle.replicated_log.specs.Areas.{Areas, areas, capacity, read_store, write_store, decode_store, rows_of, floor_at}
use Rattle.replicated_log.specs.Inside.StoreChanges.{Stored, AllFit}
use Rattle.replicated_log.proofs.Store.Rules.{kept}
use Rattle.replicated_log.proofs.Store.Encoding.{reads, read_rules}
use Rattle.replicated_log.proofs.Calls.Queries.{read_passed, Passed}
use Rattle.replicated_log.proofs.Calls.Changes.{read_stored}
use Rattle.replicated_log.proofs.Calls.Restoration.{all_length}
use Rattle.merging.specs.Batch.{Limits, limits_ok, read_batch}
use Rattle.merging.specs.Merging.{quotas, commit, merge}
use Rattle.merging.specs.Calls.{Lent, room_for, batch_answer, batch_ends, batch_call}
use Rattle.working.specs.Inside.References.{work_rows}
use Rattle.quota.specs.Inside.Room.{rows_logged, Rooms}
use Rattle.commit.specs.declared.Fates.{Fates}
use Rattle.commit.specs.Inside.Logging.{AllLogged}
use Rattle.merge.specs.Inside.Decision.{Opened, Judged, Accepts, Merges, Decides, RowsBegin, StartsKnown, CommitNeeds, Commits, call_of}
use Rattle.merge.specs.Inside.Applying.{applied_of}
use Rattle.merge.specs.Reports.{report_of}
use Rattle.merge.specs.declared.MergeReport.{MergeReport}
use Rattle.merge.specs.declared.deciding.Decision.{Decision}
use Rattle.working.proofs.ScratchColumns.{length_cells}
use Rattle.merge.proofs.RisingReferences.{length_work}
use Rattle.merge.proofs.Preparation.{room_scratch, room_output}
use Rattle.merge.proofs.Judgement.{rows_time}
use Rattle.merge.proofs.WrittenAreas.{with_held, commit_is, batch_written}
use Rattle.replicated_log.specs.Insertion.{insert_all}

-- ---- 14 to 18

module _ {log held batch head t : List ℕ} {l : Limits} {waiting logged authors : ℕ} where
  pub quota_refused : {r : Refusal} → ((time : ℕ) → refused r ≡ quotas l (work_rows held batch time (column t 0 waiting)))
      → Judged log held batch head t l waiting logged authors (refused r)
  quota_refused q = record { is = λ time s z w d e. rw (← q time) }

-- ---- the decision

abbrev lent : Areas → List ℕ → List ℕ → Lent
lent a scratch output = record { areas = a; scratch = scratch; output = output }

module _ (a : Areas) (l : Limits) (time : ℕ) (batch scratch output : List ℕ) where
  answer_of_lem : (s : Store) (rows : List BatchRow) → limits_ok l ≡ true → read_store a ≡ done s → read_batch batch ≡ done rows
      → room_for (length s.held + length rows) scratch output ≡ true → batch_answer a (call_of l time batch scratch output) ≡ merge (capacity a.log) l time s rows
  unfolding batch_answer
  answer_of_lem s rows h e f g = rw (h, e, f, g)

  pub decides : (starts : List ℕ) (n count : ℕ) → Opened a l time batch scratch starts n count → room_for (count + n) scratch output ≡ true → (t : List ℕ) (r : Answer Decision)
      → Merges a l time batch t r → Decides a l time batch scratch output t r
  decides starts n count o f t (Ok d) m =
      let p : m.store ≡ o.store = cc (m.reads, o.reads) in
      let q : m.rows ≡ o.taken.rows = cc (m.brings, o.taken.brings) in
      let g : room_for (length m.store.held + length m.rows) scratch output ≡ true = rw (p, q, ← o.counts, o.taken.counted) f in
      record { accepts = m; answer = answer_of_lem m.store m.rows o.within m.reads m.brings g ∙ m.merges; room = g }
  decides starts n count o f t (Err r) (s, rows, e, b, m) =
      let p : s ≡ o.store = cc (e, o.reads) in
      let q : rows ≡ o.taken.rows = cc (b, o.taken.brings) in
      answer_of_lem s rows o.within e b (rw (p, q, ← o.counts, o.taken.counted) f) ∙ m

  -- where the rows of a batch start that was read
  pub begins : (starts : List ℕ) (n count : ℕ) → Opened a l time batch scratch starts n count → RowsBegin batch starts
  begins starts n count o =
      let t = o.taken in
      record {
        rows = t.rows;
        first = o.first;
        end = t.end;
        brings = t.brings;
        from = rw t.counted t.from;
        starts_are = rw t.counted o.starts_are;
        few = rw t.counted t.few;
        room = rw t.counted o.starts_room;
      }

  pub starts_known : (starts : List ℕ) (n count : ℕ) → Opened a l time batch scratch starts n count → (r : Answer Decision) → StartsKnown r batch starts
  starts_known starts n count o (Ok d) = begins starts n count o
  starts_known starts n count o (Err r) = tt

-- ---- what is written

module _ {a : Areas} {l : Limits} {time : ℕ} {batch t : List ℕ} {d : Decision} (m : Accepts a l time batch t d) where
  p : Passed a
  p = read_passed a m.store m.reads

  rows_are : rows_of (work_rows a.held batch 0 (column t 8 d.logged)) ≡ rows_of m.drained.logged
  rows_are = rows_time a.held batch time (column t 8 d.logged) ∙ ap rows_of m.refers.logged_are

  committed : commit m.store m.drained ≡ with_held (insert_all m.store (rows_of m.drained.logged)) m.drained.waiting
  committed = commit_is m.store m.drained

  all_fit : AllFit (capacity a.log) m.store (rows_of m.drained.logged)
  all_fit = record {
    log = omega (arith, m.within.log, ap (λ s. length s.log) committed, all_length m.store (rows_of m.drained.logged));
    clock = omega (arith, m.within.clock, ap (λ s. length s.clock) committed);
    marks = omega (arith, m.within.marks, ap (λ s. length s.marks) committed);
  }

  held_few : length m.store.held ≤ 64
  held_few = (kept m.store (read_rules a m.store m.reads)).held_few

  pub commit_needs : (scratch output : List ℕ) → length t ≡ length scratch → room_for (length m.store.held + length m.rows) scratch output ≡ true
      → CommitNeeds a.log a.held a.head batch t output d.waiting d.logged
  commit_needs scratch output same f =
      let r = room_scratch _ scratch output f in
      let q = room_output _ scratch output f in
      record {
        refs = m.refers.logged_refs;
        logged_few = omega (arith, m.total, m.rows_few, held_few);
        scratch_room = omega (arith, m.total, r, same);
        output_room = omega (arith, m.total, q);
        long = p.long.head;
        head_ok = p.ok.head;
        logs =
            record {
              cap = capacity a.log;
              store = m.store;
              behind = _;
              rest = _;
              stored = read_stored a m.store m.reads;
              fits = rw rows_are all_fit;
            };
        working = record { room = omega (arith, m.total, r, same); refs = m.refers.waiting_refs };
        few = m.few;
        held_long = p.long.held;
        rise = m.rise;
      }

  waiting_length : length m.drained.waiting ≡ d.waiting
  waiting_length = sym (ap length m.refers.waiting_are) ∙ length_work a.held batch time (column t 0 d.waiting) ∙ length_cells t 0 d.waiting

  floor_is : floor_at a.head 16 ≡ m.store.floor
  unfolding decode_store
  floor_is = ap (λ s. s.floor) (sym (reads a m.store m.reads).is)

  module _ (scratch output : List ℕ) (same : length t ≡ length scratch) (e : batch_answer a (call_of l time batch scratch output) ≡ done m.merged)
      (log held head output' : List ℕ) (r : Fates) (c : Commits a.log a.held a.head batch t output d.waiting d.logged time log held head output' r) where
    counts : AllLogged m.store.floor a.log a.head output log c.middle output' m.drained.logged r
    counts = rw (floor_is, m.refers.logged_are) at c.all_logged

    stored : Stored log c.middle (capacity a.log) (insert_all m.store (rows_of m.drained.logged)) (drop (704 * capacity a.log) a.log) (drop 2120 a.head)
    stored = counts.logs.is _ _ _ _ (read_stored a m.store m.reads) all_fit

    store_is : m.merged.store ≡ with_held (insert_all m.store (rows_of m.drained.logged)) m.drained.waiting
    store_is = m.store_is ∙ committed

    written : (log ≡ (write_store a m.merged.store).log) × (head ≡ (write_store a m.merged.store).head)
    written =
        let w = batch_written a m.store m.reads (rows_of m.drained.logged) m.drained.waiting log c.middle stored in
        (rw store_is w.0, c.head_is ∙ rw (store_is, ← waiting_length) w.1)

    held-written : held ≡ (write_store a m.merged.store).held
    unfolding write_store
    held-written = c.held_is ∙ rw (m.refers.waiting_are, store_is)

    pub batch_leaves : (zeros : List ℕ) → zeros ≡ replicate (length t) 0 → (q : MergeReport) → q.applied ≡ r.applied → q.stale ≡ r.stale → q.rejected ≡ r.rejected
        → q.duplicates ≡ d.duplicates → q.held ≡ d.waiting → q.expired ≡ d.expired → q.dropped ≡ d.dropped
        → ends (done (report_of q)) (lent (areas log held head) zeros output') ≡ batch_call a (call_of l time batch scratch output)
    unfolding batch_call batch_ends write_store
    batch_leaves zeros z q e₁ e₂ e₃ e₄ e₅ e₆ e₇ =
        let told : report_of q ≡ m.merged.report =
        (λ i. record {
          applied = (e₁ ∙ counts.applied) i;
          stale = (e₂ ∙ counts.stale) i;
          rejected = (e₃ ∙ counts.rejected) i;
          duplicates = e₄ i;
          held = e₅ i;
          expired = e₆ i;
          dropped = e₇ i;
        }) ∙ sym m.told in
        let clear : zeros ≡ replicate (length scratch) 0 = z ∙ rw same in
        let lines : output' ≡ put_at output 0 m.merged.lines = counts.lines_are ∙ rw m.lines_are in
        rw e (λ i. ends (done (told i)) (lent (areas (written.0 i) (held-written i) (written.1 i)) (clear i) (lines i)))

-- a refused call
pub batch_refused : (a : Areas) (l : Limits) (time : ℕ) (batch scratch output t zeros : List ℕ) (r : Refusal) (x : Answer MergeReport)
    → batch_answer a (call_of l time batch scratch output) ≡ refused r → x ≡ refused r → zeros ≡ replicate (length t) 0 → length t ≡ length scratch
    → ends (applied_of x) (lent (areas a.log a.held a.head) zeros output) ≡ batch_call a (call_of l time batch scratch output)
unfolding batch_call batch_ends
batch_refused a l time batch scratch output t zeros r x e f z same =
    let clear : zeros ≡ replicate (length scratch) 0 = z ∙ rw same in
    rw (e, f) (λ i. ends (refused r) (lent a (clear i) output))

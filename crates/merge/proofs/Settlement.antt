-- Steps 1 to 3 joined: expiry, admission, draining.
use Prim.Native.Nat.{ℕ, ◌+◌, ◌-◌, ◌*◌, ◌≤◌}
use mathlib.Core.Path.{◌≡◌, refl, sym, ◌∙◌, ap}
use mathlib.Core.Bool.{true}
use mathlib.Core.List.{List, []}
use native.Mathlib.Omega.{arith}
use lib.ListN.{length}
use Rattle.error.specs.declared.Refusal.{Refusal}
use Rattle.error.specs.Answer.{Answer, done, refused, got}
use Rattle.clock.specs.Vector.{entries, sound}
use Rattle.clock.specs.Area.{clock_at}
use Rattle.row.specs.Slots.{slots_at}
use Rattle.row.specs.Reading.{BatchRow}
use Rattle.merging.specs.Batch.{read_rows}
use Rattle.merging.specs.Merging.{unexpired, admit_all, starting}
use Rattle.merging.proofs.BatchRows.{read_length}
use Rattle.working.specs.Inside.References.{work_rows}
use Rattle.working.specs.Inside.Scratch.{Working, Unexpired, Begun, admitting_of, AdmitsAll, Drains}
use Rattle.working.specs.declared.Admitting.{Admitting}
use Rattle.working.specs.declared.Draining.{Draining}
use Rattle.working.proofs.ReferenceRows.{read_of}
use Rattle.working.proofs.ScratchColumns.{length_cells}
use Rattle.merge.specs.Inside.Decision.{SettleNeeds, Settles}
use Rattle.merge.proofs.RisingReferences.{length_work, length_slots}
use Rattle.words.specs.Be.{column}
use Rattle.merging.specs.Inside.RowStarts.{StartsAt}

module _ {held batch head s : List ℕ} {count : ℕ} {starts : List ℕ} {n : ℕ} (needs : SettleNeeds held batch head s count starts n) {cutoff : ℕ} {t : List ℕ} {kept : ℕ}
    (u : (b : List ℕ) (time : ℕ) → Unexpired held b time cutoff (slots_at held 0 count) t kept) where
  pub kept_few : kept ≤ count
  kept_few = omega (arith, (u [] 0).few, length_slots held 0 count)

  pub admit_needs : length t ≡ length s
      → Working held batch t kept × Begun batch starts n × (kept ≤ 64) × (n ≤ 64) × (16 * (kept + n) ≤ length t) × (568 ≤ length head)
      × (sound (clock_at head 48) ≡ true)
  admit_needs l =
      ((u batch 0).working, needs.begun, omega (arith, kept_few, needs.few), needs.rows_few, omega (arith, kept_few, needs.room), needs.long, needs.clock)

  kept_length : (time : ℕ) → length (unexpired cutoff (slots_at held 0 count)) ≡ kept
  kept_length time = sym (ap length (u batch time).rows_are) ∙ length_work held batch time (column t 0 kept) ∙ length_cells t 0 kept

  abbrev Admits : (v : List ℕ) → Answer Admitting → Type 0
  Admits v r =
      (time first : ℕ) (bs : List BatchRow) (end : ℕ) → StartsAt batch starts first n → read_rows batch first n ≡ got bs end
      → AdmitsAll (entries (clock_at head 48)) held batch time t v kept bs r

  module _ {v : List ℕ} {r : Answer Admitting} (ad : Admits v r) where
    answered : (time first : ℕ) (bs : List BatchRow) (end : ℕ) → StartsAt batch starts first n → read_rows batch first n ≡ got bs end
        → admitting_of held batch time v r ≡ admit_all (entries (clock_at head 48)) time (starting (unexpired cutoff (slots_at held 0 count))) bs
    answered time first bs end a e =
        (ad time first bs end a e).answer
        ∙ ap (λ hs. admit_all (entries (clock_at head 48)) time (starting hs) bs) (u batch time).rows_are

  module _ {v : List ℕ} where
    pub settle_refused : {f : Refusal} → Admits v (refused f) → Settles held batch head v count cutoff starts n (refused f)
    settle_refused ad = λ time first bs end a g. sym (answered ad time first bs end a g)

    module _ {m : Admitting} (ad : Admits v (done m)) where
      refs : (time first : ℕ) (bs : List BatchRow) (end : ℕ) → StartsAt batch starts first n → read_rows batch first n ≡ got bs end → Working held batch v m.working × (m.working ≤ kept + length bs)
      refs time first bs end a g = (ad time first bs end a g).refs

      most : Working held batch v m.working × (m.working ≤ kept + n)
      most =
          let b = needs.begun in
          let (bs, end, g) = read_of (read_rows batch b.first n) b.read in
          let (w, l) = refs 0 b.first bs end b.starts_are g in
          (w, omega (arith, read_length batch n b.first bs end g))

      pub drain_needs : Working held batch v m.working × (m.working ≤ 128) × (568 ≤ length head) × (sound (clock_at head 48) ≡ true)
      drain_needs = (most.0, omega (arith, most.1, kept_few, needs.few, needs.rows_few), needs.long, needs.clock)

      pub settle_rows : {x : List ℕ} {d : Draining} → ((time : ℕ) → Drains (entries (clock_at head 48)) held batch time v x m.working d)
          → Settles held batch head x count cutoff starts n (done (record { waiting = d.waiting; logged = d.logged; expired = count - kept; duplicates = m.duplicates; dropped = d.dropped; authors = d.authors }))
      settle_rows {x} {d} dr =
          λ time first bs end a g.
          let q = dr time in
          let w : length (work_rows held batch time (column v 0 m.working)) ≡ m.working =
          length_work held batch time (column v 0 m.working) ∙ length_cells v 0 m.working in
          record {
            admitted = record { working = work_rows held batch time (column v 0 m.working); duplicates = m.duplicates };
            admits = sym (answered ad time first bs end a g);
            drained = q.drained;
            is = rw w q.is;
            refers =
                record {
                  waiting_are = q.waiting;
                  logged_are = q.logged;
                  waiting_refs = q.waiting_refs;
                  logged_refs = q.logged_refs;
                };
            expired_is = ap (λ (k : ℕ). count - k) (sym (kept_length time));
            duplicates_are = refl;
            dropped_is = q.dropped;
            authors_are = q.authors;
            total = omega (arith, q.total, (refs time first bs end a g).1, kept_few);
          }

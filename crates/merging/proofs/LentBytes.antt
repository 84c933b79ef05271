-- What refused calls, floor settings and sealings leave (specs/LentBytes).
use mathlib.Core.Path.{◌≡◌, refl, sym, ◌∙◌, ap}
use Rattle.words.specs.Areas.{put_at}
use Rattle.clock.specs.Hybrid.{now_call}
use Rattle.row.specs.Rows.{Row}
use Rattle.std.specs.declared.result.Result.TheVariants.{Ok, Err}
use Rattle.error.specs.Answer.{Answer, done, refused, and_then, nothing}
use Rattle.replicated_log.specs.Store.{Store}
use Rattle.replicated_log.specs.Areas.{capacity, read_store, write_store, leave}
use Rattle.replicated_log.specs.Insertion.{insert}
use Rattle.merging.specs.Merging.{Merged}
use Rattle.merging.specs.Calls.{batch_answer, batch_ends, batch_call, with_floor, set_floor_call}
use Rattle.merging.specs.Delta.{delta_ends, delta_call}
use Rattle.merging.specs.Desk.{prepare_answer, prepare_ends, prepare_call, seal_answer, seal_call}
use Rattle.merging.specs.LentBytes.{Unchanged, RefusedLeaves, FloorRefusedLeaves, FloorLeaves, PrepareRefusedLeaves, SealRefusedLeaves, SealedInto, SealLeaves}
use Rattle.merging.proofs.Traces.{not_refused, ends_by}
use Rattle.merging.proofs.Sealings.{row_sealed, seal_answered}

pub refused_leaves : RefusedLeaves
unfolding batch_call batch_ends delta_call delta_ends put_at
refused_leaves a j c r = by_answer (batch_answer a c)
  where
    by_answer : (x : Answer Merged) → (ends_by a j c x).answer ≡ refused r → Unchanged a j c (ends_by a j c x).left
    by_answer (Err f) e = record { areas_kept = refl; output_kept = refl; scratch_zero = refl; hybrid_kept = refl }
    by_answer (Ok m) e = absurd (not_refused (sym e))

pub floor_refused_leaves : FloorRefusedLeaves
unfolding set_floor_call
floor_refused_leaves a t r = by_answer (read_store a)
  where
    by_answer : (x : Answer Store) → (leave a (and_then x (λ s. done (nothing, with_floor s t)))).answer ≡ refused r
        → (leave a (and_then x (λ s. done (nothing, with_floor s t)))).left ≡ a
    by_answer (Err f) e = refl
    by_answer (Ok s) e = absurd (not_refused (sym e))

pub floor_leaves : FloorLeaves
unfolding set_floor_call
floor_leaves a s t e =
    record { store = with_floor s t; writes = rw e; log = refl; held = refl; clock = refl; compacted = refl; marks = refl }

pub prepare_refused_leaves : PrepareRefusedLeaves
unfolding prepare_call prepare_ends
prepare_refused_leaves c r = by_answer (prepare_answer c)
  where
    by_answer : (x : Answer Row) → (prepare_ends c.hybrid (now_call c.hybrid c.time).left c.output x).answer ≡ refused r
        → (prepare_ends c.hybrid (now_call c.hybrid c.time).left c.output x).left ≡ record { hybrid = c.hybrid; output = c.output }
    by_answer (Err f) e = refl
    by_answer (Ok s) e = absurd (not_refused (sym e))

pub seal_refused_leaves : SealRefusedLeaves
unfolding seal_call
seal_refused_leaves a bytes signature r = by_answer (seal_answer a bytes signature)
  where
    by_answer : (x : Answer (Unit × Store)) → (leave a x).answer ≡ refused r → (leave a x).left ≡ a
    by_answer (Err f) e = refl
    by_answer (Ok s) e = absurd (not_refused (sym e))

pub seal_leaves : SealLeaves
unfolding seal_call insert
seal_leaves a s bytes signature holds = by_answer (seal_answer a bytes signature) refl
  where
    by_answer : (x : Answer (Unit × Store)) → seal_answer a bytes signature ≡ x → (leave a x).answer ≡ done nothing → SealedInto a s bytes signature
    by_answer (Err f) e k = absurd (not_refused k)
    by_answer (Ok (u, t)) e k =
        let w = seal_answered a bytes signature u t e in
        let p : w.store ≡ s = cc (w.reads, holds) in
        let i : insert s w.row ≡ t = rw p at (row_sealed (capacity a.log) w.store w.row t w.seals).store in
        record {
          row = w.row;
          reads = w.brings;
          writes = ap (λ (x : Answer (Unit × Store)). (leave a x).left) e ∙ ap (write_store a) (sym i);
          held = refl;
          floor = refl;
          compacted = refl;
        }

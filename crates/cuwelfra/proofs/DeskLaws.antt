-- The exported answer to preparing, from that of the call inside.
use mathlib.Core.Path.{◌≡◌, sym, ◌∙◌, ap}
use lib.ListN.{replicate}
use Rattle.error.specs.declared.Told.{Told}
use Rattle.std.specs.declared.result.Result.TheVariants.{Ok, Err}
use Rattle.error.specs.Answer.{Answer, done, refused, accepted, ends}
use Rattle.error.specs.declared.Ends.{Ends}
use Rattle.error.specs.declared.Refusal.{Refusal}
use Rattle.error.specs.Numbers.{told_of}
use Rattle.words.specs.Areas.{pad}
use Rattle.replicated_log.proofs.Calls.Changes.{clashing}
use Rattle.merging.proofs.Traces.{done_same}
use Rattle.clock.specs.declared.hybrid.HybridClock.{HybridClock}
use Rattle.clock.specs.Vector.{authors_of, numbers_of}
use Rattle.row.specs.Rows.{Row}
use Rattle.row.specs.Values.{deps_by}
use Rattle.engine.specs.declared.Prepared.{Prepared}
use Rattle.engine.specs.Answers.{prepared_row, prepared_by}
use Rattle.cuwelfra.specs.Desks.{row_told}
use Rattle.cuwelfra.specs.declared.desk.PreparedTold.{PreparedTold}

-- the struct that the code makes of a row
abbrev pub told_with : Told → Prepared → HybridClock → PreparedTold
told_with told p hybrid =
    record {
      told = told;
      wall_time = p.op.timestamp.wall_time;
      logical_counter = p.op.timestamp.logical_counter;
      actor_id = p.op.timestamp.actor_id.0;
      sequence = p.op.seq;
      deps = p.op.deps.count;
      dep_authors = p.op.deps.authors;
      dep_numbers = p.op.deps.numbers;
      len = p.len;
      last_wall = hybrid.last_wall;
      last_counter = hybrid.last_counter;
    }

-- and of a refusal
abbrev pub none_with : Told → HybridClock → PreparedTold
none_with told hybrid =
    record {
      told = told;
      wall_time = 0;
      logical_counter = 0;
      actor_id = 0;
      sequence = 0;
      deps = 0;
      dep_authors = replicate 16 0;
      dep_numbers = replicate 16 0;
      len = 0;
      last_wall = hybrid.last_wall;
      last_counter = hybrid.last_counter;
    }

module _ (e : Ends Prepared HybridClock) (told : Told) where
  pub row_told_lem : (p : Prepared) → e.answer ≡ done p → told ≡ accepted
      → (answer : Answer Row) (hybrid : HybridClock) → e ≡ ends (prepared_by answer) hybrid → told_with told p e.left ≡ row_told answer hybrid
  unfolding deps_by authors_of numbers_of
  row_told_lem p f q (Ok r) hybrid d =
      let n : p ≡ prepared_row r = done_same (sym f ∙ ap (λ (x : Ends Prepared HybridClock). x.answer) d) in
      λ i. told_with (q i) (n i) (d i).left
  row_told_lem p f q (Err k) hybrid d = absurd (clashing p k (sym f ∙ ap (λ (x : Ends Prepared HybridClock). x.answer) d))

  pub none_told : (k : Refusal) → e.answer ≡ refused k → told ≡ told_of k
      → (answer : Answer Row) (hybrid : HybridClock) → e ≡ ends (prepared_by answer) hybrid → none_with told e.left ≡ row_told answer hybrid
  unfolding pad
  none_told k f q (Ok r) hybrid d = absurd (clashing (prepared_row r) k (sym (sym f ∙ ap (λ (x : Ends Prepared HybridClock). x.answer) d)))
  none_told k f q (Err g) hybrid d =
      let s : refused {A = Prepared} k ≡ refused g = sym f ∙ ap (λ (x : Ends Prepared HybridClock). x.answer) d in
      let z : k ≡ g = cc in
      λ i. none_with ((q ∙ ap told_of z) i) (d i).left

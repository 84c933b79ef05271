-- The answer of the exported preparing call as numbers: zeros in a refusal, but for the hybrid clock, which then comes back as it was.
use Rattle.std.specs.Prelude.{[], length}
use Rattle.words.specs.Names.{Area}
use Rattle.words.specs.Sizes.{most_deps}
use Rattle.words.specs.Areas.{pad}
use Rattle.error.specs.Numbers.{told_of}
use Rattle.std.specs.declared.result.Result.TheVariants.{Ok, Err}
use Rattle.error.specs.Answer.{Answer, accepted}
use Rattle.error.specs.declared.Ends.{Ends}
use Rattle.clock.specs.declared.hybrid.HybridClock.{HybridClock}
use Rattle.clock.specs.Vector.{authors_of, numbers_of}
use Rattle.row.specs.Rows.{Row}
use Rattle.row.specs.Wire.{unsigned_bytes}
use Rattle.merging.specs.Desk.{PrepareLeft}
use Rattle.cuwelfra.specs.declared.desk.PreparedTold.{PreparedTold}

-- stamp, sequence, dependencies (places behind their count are zero), how many bytes are to be signed, and the hybrid clock
abbrev pub row_told : Answer Row → HybridClock → PreparedTold
row_told (Ok r) hybrid =
    record {
      told = accepted;
      wall_time = r.stamp.wall_time;
      logical_counter = r.stamp.logical_counter;
      actor_id = r.stamp.actor_id.0;
      sequence = r.seq;
      deps = length r.deps;
      dep_authors = pad most_deps (authors_of r.deps);
      dep_numbers = pad most_deps (numbers_of r.deps);
      len = length (unsigned_bytes r);
      last_wall = hybrid.last_wall;
      last_counter = hybrid.last_counter;
    }
row_told (Err f) hybrid =
    record {
      told = told_of f;
      wall_time = 0;
      logical_counter = 0;
      actor_id = 0;
      sequence = 0;
      deps = 0;
      dep_authors = pad most_deps [];
      dep_numbers = pad most_deps [];
      len = 0;
      last_wall = hybrid.last_wall;
      last_counter = hybrid.last_counter;
    }

-- the struct, and the output
abbrev pub prepared_told : Ends Row PrepareLeft → PreparedTold × Area
prepared_told e = (row_told e.answer e.left.hybrid, e.left.output)

-- What the functions inside the writer promise. Inside: need not be believed.
use Rattle.std.specs.Prelude.{ℕ, ◌∷◌}
use Rattle.words.specs.Names.{Area, Position, Clock}
use Rattle.std.specs.declared.result.Result.TheVariants.{Ok, Err}
use Rattle.error.specs.Answer.{Answer, refused, ends}
use Rattle.error.specs.declared.Ends.{Ends}
use Rattle.codec.specs.Writing.{write_call}
use Rattle.row.specs.Wire.{deps_bytes}
use Rattle.replicated_log.specs.Calls.{read_clock}

-- a tag and a clock to the start of an output; a refusal leaves the output
abbrev pub write_clock : Area → (tag : ℕ) → Answer Clock → Ends Position Area
write_clock out tag (Ok es) = write_call out 0 (tag ∷ deps_bytes es)
write_clock out tag (Err r) = ends (refused r) out

-- the clock of a clock area: 2 and 1
unfoldable pub encode_clock : (out : Area) (tag : ℕ) (clock : Area) → Ends Position Area
encode_clock out tag clock = write_clock out tag (read_clock clock)

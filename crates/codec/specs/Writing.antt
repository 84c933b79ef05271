-- The Rust's Writer on a lent output and a position: src/codec.rs, `impl Writer`.
use Rattle.std.specs.Prelude.{◌+◌, ◌++◌, length, leb}
use Rattle.words.specs.Names.{Bytes, Area, Position}
use Rattle.words.specs.Choice.{pick}
use Rattle.words.specs.Areas.{put_at}
use Rattle.error.specs.declared.Refusal.TheVariants.{ShortArea}
use Rattle.error.specs.Answer.{done, refused, ends}
use Rattle.error.specs.declared.Ends.{Ends}
use Rattle.codec.specs.Leb128.{shortest}

-- bytes, length first
unfoldable pub sized : Bytes → Bytes
sized bytes = shortest (length bytes) ++ bytes

-- writing vs at `at`: the position past it, or 2 where the output is short, which is left as lent
unfoldable pub write_call : Area → Position → Bytes → Ends Position Area
write_call out at vs =
    pick (leb (at + length vs) (length out)) (ends (done (at + length vs)) (put_at out at vs)) (ends (refused ShortArea) out)

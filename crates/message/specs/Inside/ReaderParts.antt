-- What the functions inside the reader of a message promise. Inside: need not be believed.
use Rattle.std.specs.Prelude.{ℕ, ◌*◌, ◌≤◌, ◌≡◌, List, [], length}
use Rattle.words.specs.Names.{Bytes, Position, Clock}
use Rattle.words.specs.Sizes.{slot_size}
use Rattle.std.specs.declared.result.Result.TheVariants.{Ok, Err}
use Rattle.error.specs.Answer.{Answer, done, refused, and_then, Got, got, bad, after}
use Rattle.clock.specs.declared.vector.VectorClock.{VectorClock}
use Rattle.clock.specs.Vector.{clock_of}
use Rattle.row.specs.Rows.{Row}
use Rattle.row.specs.Values.{row_of}
use Rattle.row.specs.declared.StampedOperation.{StampedOperation}
use Rattle.message.specs.Messages.{Message, hello, delta, ack, ping, pong}
use Rattle.message.specs.Reading.{get_rows, read_message}
use Rattle.message.specs.declared.reader.Body.{Body}
use Rattle.message.specs.declared.reader.Body.TheVariants as body

-- a clock as it is held
unfoldable pub clock_by : Got Clock → Got VectorClock
clock_by g = after g (λ es next. got (clock_of es) next)

-- what a reading of a signed row stands for
abbrev pub signed_read_of : Bytes → Got StampedOperation → Got Row
signed_read_of src (Ok (o, next)) = got (row_of src o) next
signed_read_of src (Err r) = bad r

-- the position past rows that are not kept
unfoldable pub checked : Got (List Row) → Answer Position
checked (Ok (rs, next)) = done next
checked (Err r) = refused r

-- n rows follow
pub record Readable (s : Bytes) (at : Position) (n : ℕ) : Type 0 where
  pub rows : List Row
  pub end : Position
  pub is : get_rows s n at ≡ got rows end

abbrev pub rows_in : Got (List Row) → List Row
rows_in (Ok (rs, next)) = rs
rows_in (Err r) = []

-- what the code holds of a message
abbrev pub body_of : Message → Body
body_of (hello es) = body.Hello (clock_of es)
body_of (delta rs) = body.Delta (length rs)
body_of (ack es) = body.Ack (clock_of es)
body_of (ping n) = body.Ping n
body_of (pong n) = body.Pong n

unfoldable pub body_by : Got Message → Got Body
body_by g = after g (λ m next. got (body_of m) next)

unfoldable pub closed_by : Answer Message → Answer Body
closed_by a = and_then a (λ m. done (body_of m))

-- s is a Delta, whose slots have room in so many bytes
pub record IsDelta (s : Bytes) (room : ℕ) : Type 0 where
  pub rows : List Row
  pub is : read_message s ≡ done (delta rows)
  pub fits : slot_size * length rows ≤ room

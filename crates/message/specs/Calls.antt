-- The calls that write and read messages. A clock goes in a clock area, rows go in slots of logged rows, one behind the other.
use Rattle.std.specs.Prelude.{ℕ, ◌*◌, ◌≡◌, List, length, leb}
use Rattle.words.specs.Names.{Bytes, Area, Position}
use Rattle.words.specs.Sizes.{most_batch, clock_size, slot_size}
use Rattle.words.specs.Areas.{put_at}
use Rattle.error.specs.declared.Refusal.TheVariants.{UnsoundStore, ShortArea, OverCapacity}
use Rattle.std.specs.declared.result.Result.TheVariants.{Ok, Err}
use Rattle.error.specs.Answer.{Answer, done, refused, and_then, unless, ends}
use Rattle.error.specs.declared.Ends.{Ends}
use Rattle.clock.specs.Vector.{clock_of}
use Rattle.clock.specs.Area.{clock_bytes}
use Rattle.codec.specs.Writing.{write_call}
use Rattle.row.specs.Rows.{Row}
use Rattle.row.specs.Slots.{encode_slots, slots_at}
use Rattle.replicated_log.specs.Areas.{logged_rows, rows_of}
use Rattle.replicated_log.specs.Calls.{read_clock, slots_ok}
use Rattle.message.specs.Messages.{Message, hello, delta, ack, ping, pong, message_bytes}
use Rattle.message.specs.Reading.{read_message, Frame, read_frame}
use Rattle.message.specs.declared.Kind.{Kind}
use Rattle.message.specs.declared.Kind.TheVariants as kind
use Rattle.message.specs.declared.FrameRead.{FrameRead}

-- ---- writing

-- a message to the start of an output: last 2; a refusal leaves the output
abbrev pub write_message : Area → Answer Message → Ends Position Area
write_message out (Ok m) = write_call out 0 (message_bytes m)
write_message out (Err r) = ends (refused r) out

-- encode_hello: 2 and 1 for the clock area
unfoldable pub encode_hello : (out clock : Area) → Ends Position Area
encode_hello out clock = write_message out (and_then (read_clock clock) (λ es. done (hello es)))

unfoldable pub encode_ack : (out clock : Area) → Ends Position Area
encode_ack out clock = write_message out (and_then (read_clock clock) (λ es. done (ack es)))

unfoldable pub encode_ping : (out : Area) (nonce : ℕ) → Ends Position Area
encode_ping out nonce = write_message out (done (ping nonce))

unfoldable pub encode_pong : (out : Area) (nonce : ℕ) → Ends Position Area
encode_pong out nonce = write_message out (done (pong nonce))

-- the rows of `count` slots: 2, 1, then 4 where they are too many for one message
unfoldable pub lent_rows : (rows : Area) (count : ℕ) → Answer (List Row)
lent_rows rows count =
    unless (leb (slot_size * count) (length rows)) ShortArea
    (unless (slots_ok rows 0 count) UnsoundStore
    (unless (leb count most_batch) OverCapacity
    (done (rows_of (slots_at rows 0 count)))))

unfoldable pub encode_delta : (out rows : Area) (count : ℕ) → Ends Position Area
encode_delta out rows count = write_message out (and_then (lent_rows rows count) (λ rs. done (delta rs)))

-- ---- reading

-- how many slots a message takes
abbrev pub row_count : Message → ℕ
row_count (hello es) = 0
row_count (delta rs) = length rs
row_count (ack es) = 0
row_count (ping n) = 0
row_count (pong n) = 0

-- 2 for the clock area, whatever the message; the body's refusals; last 2 for the rows of a Delta
unfoldable pub message_call : (body : Bytes) (clock rows : Area) → Answer Message
message_call body clock rows =
    unless (leb clock_size (length clock)) ShortArea
    (and_then (read_message body) (λ m.
    unless (leb (slot_size * row_count m) (length rows)) ShortArea (done m)))

-- what is written: only what the message holds, from the area's start; a refusal leaves both areas
abbrev pub clock_left : (clock : Area) → Answer Message → Area
clock_left clock (Ok (hello es)) = put_at clock 0 (clock_bytes (clock_of es))
clock_left clock (Ok (delta rs)) = clock
clock_left clock (Ok (ack es)) = put_at clock 0 (clock_bytes (clock_of es))
clock_left clock (Ok (ping n)) = clock
clock_left clock (Ok (pong n)) = clock
clock_left clock (Err r) = clock

abbrev pub rows_left : (rows : Area) → Answer Message → Area
rows_left rows (Ok (hello es)) = rows
rows_left rows (Ok (delta rs)) = put_at rows 0 (encode_slots (logged_rows rs))
rows_left rows (Ok (ack es)) = rows
rows_left rows (Ok (ping n)) = rows
rows_left rows (Ok (pong n)) = rows
rows_left rows (Err r) = rows

-- what the code's answer holds of a message
abbrev pub kind_of : Message → Kind
kind_of (hello es) = kind.Hello
kind_of (delta rs) = kind.Delta (length rs)
kind_of (ack es) = kind.Ack
kind_of (ping n) = kind.Ping n
kind_of (pong n) = kind.Pong n

abbrev pub message_answer : Answer Message → Answer Kind
message_answer (Ok m) = done (kind_of m)
message_answer (Err r) = refused r

pub record ReadsMessage (body : Bytes) (clock rows : Area) (r : Answer Kind) (clock' rows' : Area) : Type 0 where
  pub answer : r ≡ message_answer (message_call body clock rows)
  pub clock_area_lem : clock' ≡ clock_left clock (message_call body clock rows)
  pub rows_area : rows' ≡ rows_left rows (message_call body clock rows)

-- ---- reading a frame

-- 2 for the clock area; the refusals of the envelope and of the body; last 2 for the rows of a Delta
unfoldable pub frame_call : (frame : Bytes) (clock rows : Area) → Answer Frame
frame_call s clock rows =
    unless (leb clock_size (length clock)) ShortArea
    (and_then (read_frame s) (λ f.
    unless (leb (slot_size * row_count f.message) (length rows)) ShortArea (done f)))

abbrev pub message_in : Answer Frame → Answer Message
message_in f = and_then f (λ x. done x.message)

abbrev pub frame_answer : Answer Frame → Answer FrameRead
frame_answer (Ok f) = done (record { envelope = f.envelope; kind = kind_of f.message })
frame_answer (Err r) = refused r

pub record ReadsFrame (s : Bytes) (clock rows : Area) (r : Answer FrameRead) (clock' rows' : Area) : Type 0 where
  pub answer : r ≡ frame_answer (frame_call s clock rows)
  pub clock_area_lem : clock' ≡ clock_left clock (message_in (frame_call s clock rows))
  pub rows_area : rows' ≡ rows_left rows (message_in (frame_call s clock rows))

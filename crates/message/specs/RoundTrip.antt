-- 02: "What the writer makes of a message within our capacities, the reader turns into that message again." Statements; their proofs stand in
-- proofs/RoundTrip.antt.
use Rattle.std.specs.Prelude.{ℕ, ◌*◌, ◌^◌, ◌≤◌, ◌<◌, ◌≡◌, true, List, length}
use Rattle.words.specs.Names.{Bytes, Area, Clock}
use Rattle.words.specs.Sizes.{clock_size, slot_size}
use Rattle.words.specs.Be.{AllBytes}
use Rattle.error.specs.Answer.{done}
use Rattle.codec.specs.Reading.{part_of}
use Rattle.codec.specs.Envelopes.{max_signature, envelope}
use Rattle.codec.specs.declared.Envelope.{Envelope}
use Rattle.row.specs.Rows.{Row}
use Rattle.replicated_log.specs.Store.{clock_ok}
use Rattle.replicated_log.specs.Calls.{read_clock}
use Rattle.message.specs.Messages.{Message, hello, delta, ack, message_ok, message_bytes}
use Rattle.message.specs.Reading.{read_message, read_frame}
use Rattle.message.specs.Calls.{lent_rows, row_count, message_call, clock_left, rows_left}

-- alone
abbrev pub MessageBack : Type 0
MessageBack = (m : Message) → message_ok m ≡ true → read_message (message_bytes m) ≡ done m

-- inside an envelope, which comes back too
abbrev pub FrameBack : Type 0
FrameBack =
    (m : Message) (sender : ℕ) (sig : Bytes) → message_ok m ≡ true → sender < 2 ^ 64 → length sig ≤ max_signature
    → (e : Envelope) × (read_frame (envelope sender (message_bytes m) sig) ≡ done (record { envelope = e; message = m })) × (e.sender.0 ≡ sender)
    × (part_of (envelope sender (message_bytes m) sig) e.body ≡ message_bytes m) × (part_of (envelope sender (message_bytes m) sig) e.sig ≡ sig)

-- so the calls: in areas that are long enough
abbrev pub CallsBack : Type 0
CallsBack =
    (m : Message) (clock rows : Area) → message_ok m ≡ true → clock_size ≤ length clock → slot_size * row_count m ≤ length rows
    → message_call (message_bytes m) clock rows ≡ done m

-- what is read of bytes is within our capacities
abbrev pub ReadWithin : Type 0
ReadWithin = (s : Bytes) (m : Message) → AllBytes s → read_message s ≡ done m → message_ok m ≡ true

-- so that it can be written, and comes back, however it was spelled
abbrev pub ReadAgain : Type 0
ReadAgain = (s : Bytes) (m : Message) → AllBytes s → read_message s ≡ done m → read_message (message_bytes m) ≡ done m

-- what a reading leaves in the areas is the message: the writers take the clock and the rows from them
abbrev pub ClockHeld : Type 0
ClockHeld = (clock : Area) (es : Clock) → clock_ok es ≡ true → clock_size ≤ length clock
    → (read_clock (clock_left clock (done (hello es))) ≡ done es) × (read_clock (clock_left clock (done (ack es))) ≡ done es)

abbrev pub RowsHeld : Type 0
RowsHeld = (rows : Area) (rs : List Row) → message_ok (delta rs) ≡ true → slot_size * length rs ≤ length rows
    → lent_rows (rows_left rows (done (delta rs))) (length rs) ≡ done rs

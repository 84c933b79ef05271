-- The answers of the exported message calls as numbers: behind `told` a refusal has zeros.
use Rattle.std.specs.Prelude.{ℕ, length}
use Rattle.words.specs.Names.{Bytes, Area}
use Rattle.error.specs.Numbers.{told_of}
use Rattle.std.specs.declared.result.Result.TheVariants.{Ok, Err}
use Rattle.error.specs.Answer.{Answer, accepted}
use Rattle.message.specs.Messages.{Message, hello, delta, ack, ping, pong}
use Rattle.message.specs.Reading.{Frame}
use Rattle.message.specs.Calls.{message_call, clock_left, rows_left, frame_call, message_in}
use Rattle.cuwelfra.specs.declared.messages.MessageTold.{MessageTold}
use Rattle.cuwelfra.specs.declared.messages.FrameTold.{FrameTold}

-- the tag that a message is written with
abbrev pub tag_of : Message → ℕ
tag_of (hello es) = 0
tag_of (delta rs) = 1
tag_of (ack es) = 2
tag_of (ping n) = 3
tag_of (pong n) = 4

-- how many rows a Delta has, and the nonce of Ping and Pong
abbrev pub number_of : Message → ℕ
number_of (hello es) = 0
number_of (delta rs) = length rs
number_of (ack es) = 0
number_of (ping n) = n
number_of (pong n) = n

abbrev pub message_told : Answer Message → MessageTold
message_told (Ok m) = record { told = accepted; tag = tag_of m; number = number_of m }
message_told (Err r) = record { told = told_of r; tag = 0; number = 0 }

abbrev pub frame_told : Answer Frame → FrameTold
frame_told (Ok f) =
    record {
      told = accepted;
      sender = f.envelope.sender.0;
      body_at = f.envelope.body.start;
      body_len = f.envelope.body.len;
      sig_at = f.envelope.sig.start;
      sig_len = f.envelope.sig.len;
      tag = tag_of f.message;
      number = number_of f.message;
    }
frame_told (Err r) =
    record { told = told_of r; sender = 0; body_at = 0; body_len = 0; sig_at = 0; sig_len = 0; tag = 0; number = 0 }

-- how reading a message ends: the answer, the clock area, the rows' area
abbrev pub message_ends : (body : Bytes) (clock rows : Area) → MessageTold × Area × Area
message_ends body clock rows =
    (message_told (message_call body clock rows), clock_left clock (message_call body clock rows), rows_left rows (message_call body clock rows))

abbrev pub frame_ends : (frame : Bytes) (clock rows : Area) → FrameTold × Area × Area
frame_ends frame clock rows =
    (frame_told (frame_call frame clock rows), clock_left clock (message_in (frame_call frame clock rows)), rows_left rows (message_in (frame_call frame clock rows)))

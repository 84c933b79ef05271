-- A message's body as it is read, `BinaryCodec::decode` of src/codec.rs: the fields in their order, the first fault refuses.
use Rattle.std.specs.Prelude.{ℕ, zero, suc, ◌+◌, ◌^◌, List, [], ◌∷◌, leb, eqb}
use Rattle.words.specs.Names.{Author, Seq, Bytes, Position, Clock}
use Rattle.words.specs.Sizes.{most_authors, most_batch, most_deps, most_payload, most_signature}
use Rattle.words.specs.Choice.{pick}
use Rattle.error.specs.declared.Refusal.TheVariants.{OverCapacity, InvalidTag}
use Rattle.error.specs.Answer.{Answer, done, and_then, Got, got, bad, after, need}
use Rattle.clock.specs.Entries.{enter}
use Rattle.codec.specs.Reading.{get_u8, get_varint, get_count, part_of}
use Rattle.codec.specs.declared.Part.{Part}
use Rattle.codec.specs.Envelopes.{max_signature, read_envelope, closed}
use Rattle.codec.specs.declared.Envelope.{Envelope}
use Rattle.row.specs.Rows.{Row}
use Rattle.row.specs.Reading.{get_head}
use Rattle.row.specs.declared.reader.Head.{Head}
use Rattle.message.specs.Messages.{Message, hello, delta, ack, ping, pong}

-- rs: "MAX_DEPS: usize = 4096", of dependencies and clocks
abbrev pub max_deps : ℕ
max_deps = 4096

-- rs: "MAX_OPS_PER_MESSAGE: usize = 4096"
abbrev pub max_ops : ℕ
max_ops = 4096

-- rs: "MAX_PAYLOAD: usize = 1 << 20"
abbrev pub max_payload : ℕ
max_payload = 2 ^ 20

-- 02: "4 at our capacities (at one field after those)": a count by the reader's rules, 22 to 24 and 30, then 4 where it is above `ours`
unfoldable pub count_within : (most ours : ℕ) → Bytes → Position → Got ℕ
count_within most ours s at = after (get_count s at most) (λ n next. need (leb n ours) OverCapacity (got n next))

-- Reader::bytes: such a length, and as many bytes
unfoldable pub bytes_within : (most ours : ℕ) → Bytes → Position → Got Part
bytes_within most ours s at = after (count_within most ours s at) (λ n next. got (record { start = next; len = n }) (next + n))

-- ---- clocks

-- an author and its number
unfoldable pub get_pair : Bytes → Position → Got (Author × Seq)
get_pair s at =
    after (get_varint s at) (λ author at.
    after (get_varint s at) (λ number at.
    got (author, number) at))

-- n pairs entered into es, in whatever order: of an author that comes twice the greatest number counts
unfoldable pub get_pairs : Bytes → Clock → (n : ℕ) → Position → Got Clock
get_pairs s es zero at = got es at
get_pairs s es (suc n) at = after (get_pair s at) (λ p at. get_pairs s (enter es p.0 p.1) n at)

-- Reader::clock, but that 0 is entered too. 02: "the reader turns into that message again"
unfoldable pub get_clock : (ours : ℕ) → Bytes → Position → Got Clock
get_clock ours s at = after (count_within max_deps ours s at) (λ n at. get_pairs s [] n at)

-- ---- rows

-- the row of what was read
abbrev pub signed_row : Bytes → Head → Clock → (payload signature : Part) → Row
signed_row s head deps payload signature =
    record {
      stamp = head.timestamp;
      author = head.actor.0;
      seq = head.seq;
      deps = deps;
      payload = part_of s payload;
      signature = part_of s signature;
    }

-- Reader::signed_op
unfoldable pub get_signed : Bytes → Position → Got Row
get_signed s at =
    after (get_head s at) (λ head at.
    after (get_clock most_deps s at) (λ deps at.
    after (bytes_within max_payload most_payload s at) (λ payload at.
    after (bytes_within max_signature most_signature s at) (λ signature at.
    got (signed_row s head deps payload signature) at))))

-- n of them
unfoldable pub get_rows : Bytes → (n : ℕ) → Position → Got (List Row)
get_rows s zero at = got [] at
get_rows s (suc n) at =
    after (get_signed s at) (λ row at.
    after (get_rows s n at) (λ rows at.
    got (row ∷ rows) at))

-- ---- messages

-- a message of what was read
abbrev pub message_by : {A : Type 0} → (A → Message) → Got A → Got Message
message_by make g = after g (λ a next. got (make a) next)

-- what follows the tag. 02: "29 when the tag is none of the five, directly after the tag byte is read"
unfoldable pub get_body : (tag : ℕ) → Bytes → Position → Got Message
get_body tag s at =
    pick (eqb tag 0) (message_by hello (get_clock most_authors s at))
    (pick (eqb tag 1) (message_by delta (after (count_within max_ops most_batch s at) (λ n at. get_rows s n at)))
    (pick (eqb tag 2) (message_by ack (get_clock most_authors s at))
    (pick (eqb tag 3) (message_by ping (get_varint s at))
    (pick (eqb tag 4) (message_by pong (get_varint s at))
    (bad (InvalidTag tag))))))

-- the body that fills all of s
unfoldable pub read_message : Bytes → Answer Message
read_message s = closed s (after (get_u8 s 0) (λ tag at. get_body tag s at))

-- ---- 02: "inside an `Envelope`"

pub record Frame : Type 0 where
  pub envelope : Envelope
  pub message : Message

-- the envelope's refusals first, then those of the body, of which no byte of the frame behind it is part
unfoldable pub read_frame : Bytes → Answer Frame
read_frame s =
    and_then (read_envelope s) (λ e.
    and_then (read_message (part_of s e.body)) (λ m.
    done (record { envelope = e; message = m })))

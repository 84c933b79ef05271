-- The messages of src/sync.rs, and the bytes that `BinaryCodec` of src/codec.rs makes of them. 02: "Tags and layouts come from that file."
use Rattle.std.specs.Prelude.{ℕ, ◌^◌, Bool, ◌&&◌, List, [], ◌∷◌, ◌++◌, length, ltb, leb}
use Rattle.words.specs.Names.{Bytes, Clock}
use Rattle.words.specs.Sizes.{most_batch}
use Rattle.words.specs.Lists.{all}
use Rattle.codec.specs.Leb128.{shortest}
use Rattle.row.specs.Rows.{Row, row_ok}
use Rattle.row.specs.Wire.{deps_bytes, signed_bytes}
use Rattle.replicated_log.specs.Store.{clock_ok}

-- 02: "Hello, Delta, Ack, Ping and Pong": the Rust's Message without the snapshots
pub data Message : Type 0 where
  hello : Clock → Message
  delta : List Row → Message
  ack : Clock → Message
  ping : ℕ → Message
  pong : ℕ → Message

-- ---- 02: "a message within our capacities"

-- a clock of at most 32 authors, which rise, an entry of number 0 like any other; as many rows as a batch takes
unfoldable pub message_ok : Message → Bool
message_ok (hello es) = clock_ok es
message_ok (delta rs) = leb (length rs) most_batch && all row_ok rs
message_ok (ack es) = clock_ok es
message_ok (ping n) = ltb n (2 ^ 64)
message_ok (pong n) = ltb n (2 ^ 64)

-- ---- BinaryCodec::encode

-- signed rows one behind the other
unfoldable pub rows_bytes : List Row → Bytes
rows_bytes [] = []
rows_bytes (r ∷ rs) = signed_bytes r ++ rows_bytes rs

-- the tag, then what the message holds; Writer::clock writes a clock as it writes dependencies
unfoldable pub message_bytes : Message → Bytes
message_bytes (hello es) = 0 ∷ deps_bytes es
message_bytes (delta rs) = 1 ∷ (shortest (length rs) ++ rows_bytes rs)
message_bytes (ack es) = 2 ∷ deps_bytes es
message_bytes (ping n) = 3 ∷ shortest n
message_bytes (pong n) = 4 ∷ shortest n

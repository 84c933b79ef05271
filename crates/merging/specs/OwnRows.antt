-- What is proved of the rows that a desk makes. Statements; their proofs stand in proofs/OwnRows.antt.
use Rattle.std.specs.Prelude.{◌≤◌, ◌<◌, ◌^◌, ◌≡◌, length, take}
use mathlib.Core.List.{List, Memᴰ}
use Rattle.words.specs.Names.{Seq, Bytes, Position}
use Rattle.words.specs.Sizes.{most_signature}
use Rattle.words.specs.Be.{AllBytes}
use Rattle.error.specs.declared.Refusal.{Refusal}
use Rattle.error.specs.Answer.{done, refused, got, after}
use Rattle.clock.specs.Entries.{get}
use Rattle.codec.specs.Reading.{part_of}
use Rattle.row.specs.Rows.{Row}
use Rattle.row.specs.Reading.{read_part, read_closing, read_row}
use Rattle.row.specs.Unsigned.{read_unsigned}
use Rattle.row.specs.Wire.{unsigned_bytes}
use Rattle.replicated_log.specs.Store.{Store}
use Rattle.replicated_log.specs.Areas.{Areas, read_store}
use Rattle.merging.specs.Desk.{PrepareCall, prepare_call, signed, read_sealed, seal_call}
use Rattle.merging.specs.Offers.{Call, MayStand}

-- a preparing call that can be made: a byte is below 256, and the numbers that go into the row fit their widths
pub record CanPrepare (c : PrepareCall) : Type 0 where
  pub author : c.author < 2 ^ 64
  pub time : c.time < 2 ^ 64
  pub payload : AllBytes c.payload
  pub clock : AllBytes c.clock
  pub actor : c.hybrid.actor.0 < 2 ^ 64
  pub wall : c.hybrid.last_wall < 2 ^ 64
  pub counter : c.hybrid.last_counter < 2 ^ 32

-- the bytes to sign, as they stand in the output
abbrev pub bytes_to_sign : PrepareCall → Row → Bytes
bytes_to_sign c r = take (length (unsigned_bytes r)) (prepare_call c).left.output

-- 02: "Sealing takes these bytes": what preparing wrote, sealing reads as the very row that was prepared
abbrev pub SealsPrepared : Type 0
SealsPrepared =
    (c : PrepareCall) (r : Row) (signature : Bytes) → CanPrepare c → (prepare_call c).answer ≡ done r → length signature ≤ most_signature
    → read_sealed (bytes_to_sign c r) signature ≡ done (signed r signature)

-- 02: "read as a batch reads a row": a batch's row is these bytes, then its signature and its closing bytes
abbrev pub ReadAlike : Type 0
ReadAlike =
    (s : Bytes) (at : Position) → read_row s at
    ≡ after (read_unsigned s at) (λ r at.
    after (read_part s at most_signature) (λ signature at.
    after (read_closing s at) (λ closing at.
    got (record { row = signed r (part_of s signature); closing = closing }) at)))

-- the converse of `MayStand`, so that it asks no more than the ticket: what an accepted preparing wrote, sealed under the ticket's words and nothing more, may stand
abbrev pub OwnMayStand : Type 0
OwnMayStand =
    (a : Areas) (before : List Row) (c : PrepareCall) (r : Row) (s : Store) (signature : Bytes) → CanPrepare c → (prepare_call c).answer ≡ done r → read_store a ≡ done s
    → (Memᴰ (signed r signature) before → ⊥)
    → ((y : Row) (n : Seq) → Memᴰ y before → Memᴰ (r.author, n) y.deps → r.seq ≤ n → ⊥)
    → ((y : Row) → Memᴰ y before → y.author ≡ r.author → r.seq < y.seq → ⊥)
    → c.issued ≡ get s.clock c.author
    → MayStand a before (Call.seal (bytes_to_sign c r) signature)

-- 02: "or a refused one": whatever it is
abbrev pub RefusedMayStand : Type 0
RefusedMayStand =
    (a : Areas) (before : List Row) (bytes signature : Bytes) (f : Refusal) → (seal_call a bytes signature).answer ≡ refused f
    → MayStand a before (Call.seal bytes signature)

-- 02: "The figures equal those of the real chunks for every log and peer clock, an oversized row and a chunk above 64 rows included". Statements; their
-- proofs stand in proofs/RealChunks.antt. Only the last asks anything of the rows: that a store is read.
use Rattle.std.specs.Prelude.{ℕ, ◌≤◌, ◌≡◌, true, List, [], ◌∷◌, ◌++◌, length, take}
use Rattle.words.specs.Names.{Area, Author, Bytes, Clock}
use Rattle.words.specs.Sizes.{most_batch}
use Rattle.words.specs.Be.{bes}
use Rattle.words.specs.Areas.{put_at}
use Rattle.error.specs.Answer.{done, ends}
use Rattle.codec.specs.Writing.{write_call}
use Rattle.codec.specs.Envelopes.{envelope}
use Rattle.row.specs.Rows.{Row}
use Rattle.replicated_log.specs.Store.{Store}
use Rattle.replicated_log.specs.Areas.{Areas, read_store}
use Rattle.message.specs.Messages as message
use Rattle.message.specs.Messages.{message_ok, message_bytes}
use Rattle.message.specs.Calls.{lent_rows, encode_delta}
use Rattle.sync.specs.Delta.{delta_rows, chunk_ops, chunk_call}
use Rattle.sync.specs.Sizes.{Figures, cut, figures_of, delta_sizes, sizes_answer}

-- ---- the rows

unfoldable pub rows_of_each : List Figures → List ℕ
rows_of_each [] = []
rows_of_each (f ∷ fs) = f.rows ∷ rows_of_each fs

-- the rows in each chunk are those that chunk_ops counts
abbrev pub RowsCounted : Type 0
RowsCounted = (rows : List Row) (per_chunk bytes : ℕ) (sender : Author) (sig_len : ℕ)
    → rows_of_each (delta_sizes rows per_chunk bytes sender sig_len) ≡ chunk_ops rows per_chunk bytes

-- so the calls: on one store, peer's clock and limits chunk_ops lists the rows that delta_sizes tells
abbrev pub SameChunks : Type 0
SameChunks =
    (a : Areas) (peer : Area) (per_chunk bytes : ℕ) (sender : Author) (sig_len : ℕ) (output listed left : Area) (fs : List Figures) (n : ℕ)
    → sizes_answer a peer per_chunk bytes sender sig_len output ≡ done fs → chunk_call a peer per_chunk bytes listed ≡ ends (done n) left
    → (n ≡ length fs) × (left ≡ put_at listed 0 (bes (rows_of_each fs)))

unfoldable pub joined : List (List Row) → List Row
joined [] = []
joined (c ∷ cs) = c ++ joined cs

-- the chunks in order are the rows: none is left out, none stands twice
abbrev pub ChunksJoined : Type 0
ChunksJoined = (rows : List Row) (per_chunk bytes : ℕ) → joined (cut (chunk_ops rows per_chunk bytes) rows) ≡ rows

-- ---- the bytes

-- those of the real envelope around the real message, whatever signature of that length it has. 02: "where our writer would refuse a chunk, the layout
-- gives its bytes"
abbrev pub RealFrame : Type 0
RealFrame = (rows : List Row) (sender : Author) (sig : Bytes)
    → (figures_of sender (length sig) rows).bytes ≡ length (envelope sender (message_bytes (message.delta rows)) sig)

-- so the calls: where encode_delta writes `len` bytes of these rows, and encode_envelope `sent` bytes around them
abbrev pub RealCalls : Type 0
RealCalls =
    (rows : List Row) (sender : Author) (sig : Bytes) (slots out body frame left : Area) (count len sent : ℕ)
    → lent_rows slots count ≡ done rows → encode_delta out slots count ≡ ends (done len) body
    → write_call frame 0 (envelope sender (take len body) sig) ≡ ends (done sent) left
    → (figures_of sender (length sig) rows).bytes ≡ sent

-- our writer refuses no chunk of a store for its rows: one of at most 64 rows is a message within our capacities, which comes back as crate message says
abbrev pub ChunkOk : Type 0
ChunkOk =
    (a : Areas) (s : Store) (es : Clock) (per_chunk bytes : ℕ) (chunk : List Row) (before after : List (List Row)) → read_store a ≡ done s
    → cut (chunk_ops (delta_rows es s.log) per_chunk bytes) (delta_rows es s.log) ≡ before ++ (chunk ∷ after) → length chunk ≤ most_batch
    → message_ok (message.delta chunk) ≡ true

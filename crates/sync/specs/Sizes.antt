-- How much a delta sends: the rows and the bytes of each chunk.
use Rattle.std.specs.Prelude.{ℕ, ◌*◌, List, [], ◌∷◌, length, take, drop, replicate, leb}
use Rattle.words.specs.Names.{Area, Author}
use Rattle.words.specs.Sizes.{word_size}
use Rattle.words.specs.Be.{bes}
use Rattle.words.specs.Areas.{put_at}
use Rattle.error.specs.declared.Refusal.TheVariants.{ShortArea, OverCapacity}
use Rattle.std.specs.declared.result.Result.TheVariants.{Ok, Err}
use Rattle.error.specs.Answer.{Answer, done, refused, unless, ends}
use Rattle.error.specs.declared.Ends.{Ends}
use Rattle.codec.specs.Envelopes.{max_signature, envelope}
use Rattle.row.specs.Rows.{Row}
use Rattle.replicated_log.specs.Areas.{Areas}
use Rattle.message.specs.Messages as message
use Rattle.message.specs.Messages.{message_bytes}
use Rattle.sync.specs.Delta.{delta_rows, chunk_ops, over_peer}

-- ---- the chunks themselves

-- rows cut into chunks of these numbers of rows
unfoldable pub cut : (counts : List ℕ) → List Row → List (List Row)
cut [] rows = []
cut (n ∷ ns) rows = take n rows ∷ cut ns (drop n rows)

-- ---- what each of them sends

pub record Figures : Type 0 where
  pub rows : ℕ
  pub bytes : ℕ

-- 02: "the exact bytes of each Delta body with its envelope for a named sender and signature length": which bytes the signature has does not matter, as
-- `RealFrame` says
unfoldable pub figures_of : (sender : Author) (sig_len : ℕ) → List Row → Figures
figures_of sender sig_len rows =
    record { rows = length rows; bytes = length (envelope sender (message_bytes (message.delta rows)) (replicate sig_len 0)) }

unfoldable pub figures_of_each : (sender : Author) (sig_len : ℕ) → List (List Row) → List Figures
figures_of_each sender sig_len [] = []
figures_of_each sender sig_len (c ∷ cs) = figures_of sender sig_len c ∷ figures_of_each sender sig_len cs

-- 02: "the number of chunks, the rows in each": as many as chunk_ops counts for these rows
unfoldable pub delta_sizes : List Row → (per_chunk bytes : ℕ) (sender : Author) (sig_len : ℕ) → List Figures
delta_sizes rows per_chunk bytes sender sig_len = figures_of_each sender sig_len (cut (chunk_ops rows per_chunk bytes) rows)

-- ---- the call

-- 02: "rows and bytes big-endian"
unfoldable pub numbers : List Figures → List ℕ
numbers [] = []
numbers (f ∷ fs) = f.rows ∷ f.bytes ∷ numbers fs

-- 02: "The figures go to an output of 16 bytes a chunk .. a shorter one is 2"
unfoldable pub fitting : (output : Area) → List Figures → Answer (List Figures)
fitting output fs = unless (leb (2 * word_size * length fs) (length output)) ShortArea (done fs)

-- 02: "A signature length above 1,024 is 4, first."
unfoldable pub sizes_answer : Areas → (peer : Area) (per_chunk bytes : ℕ) (sender : Author) (sig_len : ℕ) (output : Area) → Answer (List Figures)
sizes_answer a peer per_chunk bytes sender sig_len output =
    unless (leb sig_len max_signature) OverCapacity
    (over_peer a peer (λ s es. fitting output (delta_sizes (delta_rows es s.log) per_chunk bytes sender sig_len)))

-- the answer is how many chunks there are. 02: "and later bytes stay"; a refusal leaves the output
abbrev pub table : (output : Area) → Answer (List Figures) → Ends ℕ Area
table output (Ok fs) = ends (done (length fs)) (put_at output 0 (bes (numbers fs)))
table output (Err r) = ends (refused r) output

unfoldable pub sizes_call : Areas → (peer : Area) (per_chunk bytes : ℕ) (sender : Author) (sig_len : ℕ) (output : Area) → Ends ℕ Area
sizes_call a peer per_chunk bytes sender sig_len output = table output (sizes_answer a peer per_chunk bytes sender sig_len output)

-- The figures are those of the real chunks.
use Prim.Native.Nat.{ℕ, ◌+◌, ◌*◌}
use mathlib.Core.Path.{◌≡◌, refl, sym, ◌∙◌, ap}
use mathlib.Core.Bool.{Bool, true, false}
use mathlib.Core.List.{List, [], ◌∷◌, ◌++◌}
use mathlib.Core.Logic.{inl, inr}
use native.Mathlib.Omega.{arith}
use lib.Dec.{leb}
use lib.ListN.{length, take, drop, replicate, length-replicate}
use lib.Seq.{take_at, drop_at}
use borrow.Author.Tests.{le-leb}
use Rattle.words.specs.Names.{Clock}
use Rattle.words.specs.Lists.{all}
use Rattle.words.specs.Be.{bes}
use Rattle.words.specs.Areas.{put_at}
use Rattle.std.proofs.lemmas.Bool.{cases_Bool}
use Rattle.words.proofs.Conjunction.{and_both}
use Rattle.error.specs.declared.Refusal.TheVariants.{ShortArea, OverCapacity}
use Rattle.error.specs.Answer.{done, refused, unless, ends}
use Rattle.error.specs.declared.Ends.{Ends}
use Rattle.codec.specs.Writing.{write_call}
use Rattle.codec.specs.Envelopes.{envelope}
use Rattle.codec.proofs.WriterLaws.{length_envelope}
use Rattle.row.specs.Rows.{Row, row_ok}
use Rattle.replicated_log.specs.Store.{Store}
use Rattle.replicated_log.specs.Areas.{Areas, read_store}
use Rattle.replicated_log.specs.Calls.{read_clock, unseen}
use Rattle.replicated_log.proofs.Store.Encoding.{reads}
use Rattle.replicated_log.proofs.Store.Rules.{all_nil, all_cons, all_head, all_tail}
use Rattle.replicated_log.proofs.Calls.Queries.{read_passed}
use Rattle.message.specs.Messages.{delta, message_ok, message_bytes}
use Rattle.message.specs.Calls.{encode_delta}
use Rattle.sync.specs.Delta.{delta_rows, chunk_ops, list, over_peer, list_call, chunk_call}
use Rattle.sync.specs.Chunks.{Chunked, no_chunks, next_chunk}
use Rattle.sync.specs.Sizes.{Figures, cut, figures_of, figures_of_each, delta_sizes, fitting, sizes_answer}
use Rattle.sync.specs.RealChunks.{rows_of_each, RowsCounted, SameChunks, joined, ChunksJoined, RealFrame, RealCalls, ChunkOk}
use Rattle.sync.proofs.CallTests.{went, passes}
use Rattle.sync.proofs.SizeCalls.{length_sizes}
use Rattle.sync.proofs.DeltaTheorems.{chunks_are}

done_is : {A : Type 0} {x y : A} → done x ≡ done y → x ≡ y
done_is e = cc

take_put : (s vs : List ℕ) → take (length vs) (put_at s 0 vs) ≡ vs
unfolding put_at
take_put s vs = take_at vs (drop (0 + length vs) s) (length vs) refl

-- ---- the rows
counts : {most bytes : ℕ} (sender sig_len : ℕ) {ns : List ℕ} {rows : List Row} → Chunked most bytes ns rows → rows_of_each (figures_of_each sender sig_len (cut ns rows)) ≡ ns
unfolding rows_of_each figures_of_each figures_of cut
counts sender sig_len no_chunks = refl
counts sender sig_len (next_chunk {n} chunk rest e l p h k c) = rw (e, take_at chunk rest n l, drop_at chunk rest n l, l) (ap (λ (t : List ℕ). n ∷ t) (counts sender sig_len c))

pub rows_counted : RowsCounted
unfolding delta_sizes
rows_counted rows per_chunk bytes sender sig_len = counts sender sig_len (chunks_are rows per_chunk bytes)

-- what a call that lists numbers has listed
listed_are : (output left : List ℕ) (b : Bool) (ns : List ℕ) (n : ℕ) → list output (unless b ShortArea (done ns)) ≡ ends (done n) left
    → (n ≡ length ns) × (left ≡ put_at output 0 (bes ns))
listed_are output left true ns n e = (sym (done_is (ap (λ (x : Ends ℕ (List ℕ)). x.answer) e)), sym (ap (λ (x : Ends ℕ (List ℕ)). x.left) e))
listed_are output left false ns n e = absurd (let z : refused ShortArea ≡ done n = ap (λ (x : Ends ℕ (List ℕ)). x.answer) e in let y : ◌≡◌ {A = ℕ} 0 1 = cc in omega arith)

-- s and es are what both calls read
both_read : (a : Areas) (peer : List ℕ) (per_chunk bytes sender sig_len : ℕ) (listed left : List ℕ) (fs : List Figures) (n : ℕ) (s : Store) (es : Clock)
    → leb 520 (length peer) ≡ true → read_store a ≡ done s → read_clock peer ≡ done es → delta_sizes (delta_rows es s.log) per_chunk bytes sender sig_len ≡ fs
    → chunk_call a peer per_chunk bytes listed ≡ ends (done n) left → (n ≡ length fs) × (left ≡ put_at listed 0 (bes (rows_of_each fs)))
unfolding chunk_call list_call over_peer
both_read a peer per_chunk bytes sender sig_len listed left fs n s es l r c e f =
    let rows = delta_rows es s.log in
    let g = listed_are listed left (leb (8 * length s.log) (length listed)) (chunk_ops rows per_chunk bytes) n (rw (l, r, c) at f) in
    (g.0 ∙ rw (← e) (sym (length_sizes rows per_chunk bytes sender sig_len)), g.1 ∙ rw (← e, rows_counted rows per_chunk bytes sender sig_len))

pub same_chunks : SameChunks
unfolding sizes_answer over_peer fitting
same_chunks a peer per_chunk bytes sender sig_len output listed left fs n e f =
    let p = passes (leb sig_len 1024) OverCapacity _ fs e in
    let l = passes (leb 520 (length peer)) ShortArea _ fs p.1 in
    let w = went (read_store a) _ fs l.1 in
    let c = went (read_clock peer) _ fs w.on in
    let sent = delta_sizes (delta_rows c.value w.value.log) per_chunk bytes sender sig_len in
    let r = passes (leb (16 * length sent) (length output)) ShortArea _ fs c.on in
    both_read a peer per_chunk bytes sender sig_len listed left fs n w.value c.value l.0 w.is c.is (done_is r.1) f

join : {most bytes : ℕ} {ns : List ℕ} {rows : List Row} → Chunked most bytes ns rows → joined (cut ns rows) ≡ rows
unfolding joined cut
join no_chunks = refl
join (next_chunk chunk rest e l p h k c) = rw (e, take_at chunk rest _ l, drop_at chunk rest _ l) (ap (λ (t : List Row). chunk ++ t) (join c))

pub chunks_joined : ChunksJoined
chunks_joined rows per_chunk bytes = join (chunks_are rows per_chunk bytes)

-- ---- the bytes
pub real_frame : RealFrame
unfolding figures_of
real_frame rows sender sig =
    length_envelope sender (message_bytes (delta rows)) (replicate (length sig) 0)
    ∙ rw (length-replicate {A = ℕ} (length sig) 0) (sym (length_envelope sender (message_bytes (delta rows)) sig))

-- what a call that writes has written
written_are : (out left vs : List ℕ) (n : ℕ) → write_call out 0 vs ≡ ends (done n) left → (n ≡ length vs) × (left ≡ put_at out 0 vs)
unfolding write_call
written_are out left vs n e = elim (cases_Bool (leb (0 + length vs) (length out))) [
  | inl h ↦
      let f : ends (done (0 + length vs)) (put_at out 0 vs) ≡ ends (done n) left = rw h at e in
      let g : 0 + length vs ≡ n = done_is (ap (λ (x : Ends ℕ (List ℕ)). x.answer) f) in
      (omega arith, sym (ap (λ (x : Ends ℕ (List ℕ)). x.left) f))
  | inr h ↦
      let f : ends (refused ShortArea) out ≡ ends (done n) left = rw h at e in
      absurd (let z : refused ShortArea ≡ done n = ap (λ (x : Ends ℕ (List ℕ)). x.answer) f in let y : ◌≡◌ {A = ℕ} 0 1 = cc in omega arith)
]

pub real_calls : RealCalls
unfolding encode_delta
real_calls rows sender sig slots out body frame left count len sent e f g =
    let vs = message_bytes (delta rows) in
    let w = written_are out body vs len (rw e at f) in
    let t : take len body ≡ vs = rw (w.1, w.0) (take_put out vs) in
    real_frame rows sender sig ∙ sym (written_are frame left (envelope sender vs sig) sent (rw t at g)).0

-- ---- the messages
seen_ok : (es : List (ℕ × ℕ)) (rows : List Row) → all row_ok rows ≡ true → all row_ok (delta_rows es rows) ≡ true
unfolding delta_rows
seen_ok es [] h = h
seen_ok es (r ∷ rows) h = elim (cases_Bool (unseen es r)) [
  | inl e ↦ rw e (all_cons row_ok r (delta_rows es rows) (all_head row_ok r rows h) (seen_ok es rows (all_tail row_ok r rows h)))
  | inr e ↦ rw e (seen_ok es rows (all_tail row_ok r rows h))
]

all_split : (x y : List Row) → all row_ok (x ++ y) ≡ true → (all row_ok x ≡ true) × (all row_ok y ≡ true)
all_split [] y h = (all_nil row_ok, h)
all_split (r ∷ x) y h =
    let i = all_split x y (all_tail row_ok r (x ++ y) h) in
    (all_cons row_ok r x (all_head row_ok r (x ++ y) h) i.0, i.1)

-- a chunk's rows are among those of all
among : (before after : List (List Row)) (chunk : List Row) → all row_ok (joined (before ++ (chunk ∷ after))) ≡ true → all row_ok chunk ≡ true
unfolding joined
among [] after chunk h = (all_split chunk (joined after) h).0
among (c ∷ before) after chunk h = among before after chunk (all_split c (joined (before ++ (chunk ∷ after))) h).1

pub chunk_ok : ChunkOk
unfolding message_ok
chunk_ok a s es per_chunk bytes chunk before after e f h =
    let rows = delta_rows es s.log in
    let k : all row_ok s.log ≡ true = rw (reads a s e).is (read_passed a s e).kept.rows in
    let j : joined (before ++ (chunk ∷ after)) ≡ rows = rw (← f) (chunks_joined rows per_chunk bytes) in
    and_both (leb (length chunk) 64) (all row_ok chunk) (le-leb (length chunk) 64 h) (among before after chunk (rw j (seen_ok es s.log k)))

-- The tests of delta_sizes, and its whole call.
use Prim.Native.Nat.{ℕ, ◌*◌, ◌≤◌, ◌<◌}
use mathlib.Core.Path.{◌≡◌, sym, ◌∙◌}
use mathlib.Core.Bool.{Bool, true, false}
use mathlib.Core.List.{List, []}
use native.Mathlib.Omega.{arith}
use lib.Dec.{leb}
use lib.ListN.{length}
use borrow.Author.Tests.{leb-true, le-leb, lt-leb}
use Rattle.words.specs.Be.{bes}
use Rattle.words.specs.Areas.{put_at}
use Rattle.error.specs.declared.Refusal.{Refusal}
use Rattle.error.specs.declared.Refusal.TheVariants.{ShortArea, OverCapacity}
use Rattle.error.specs.Answer.{done, refused, ends}
use Rattle.clock.specs.declared.vector.VectorClock.{VectorClock}
use Rattle.clock.specs.Vector.{entries}
use Rattle.clock.specs.Area.{clock_at}
use Rattle.row.specs.Rows.{Row}
use Rattle.replicated_log.specs.Areas.{Areas, decode_store}
use Rattle.replicated_log.specs.Inside.StoreChanges.{rows_in}
use Rattle.sync.specs.Delta.{delta_rows, at_least_one, chunks, chunk_ops}
use Rattle.sync.specs.Chunks.{sizes}
use Rattle.sync.specs.Sizes.{cut, delta_sizes, numbers, fitting, sizes_answer, sizes_call}
use Rattle.sync.specs.Inside.DeltaSteps.{count_call, Puts}
use Rattle.sync.specs.Inside.SizeSteps.{to_come}
use Rattle.sync.proofs.CallTests.{Counted, over_stops, over_goes}
use Rattle.sync.proofs.SizeLoops.{length_each, length_cut, length_come}

-- as many figures as chunks
pub length_sizes : (rows : List Row) (per bytes sender sig_len : ℕ) → length (delta_sizes rows per bytes sender sig_len) ≡ length (chunk_ops rows per bytes)
unfolding delta_sizes
length_sizes rows per bytes sender sig_len =
    length_each sender sig_len (cut (chunk_ops rows per bytes) rows) ∙ length_cut (chunk_ops rows per bytes) rows

-- the room that has_room found
pub room_found : (need room : ℕ) (b : Bool) → b ≡ leb need room → b ≡ true → need ≤ room
room_found need room b f t = leb-true need room (sym f ∙ t)

module _ (a : Areas) (peer output left : List ℕ) (per bytes sender sig_len : ℕ) where
  pub sizes_capacity : 1024 < sig_len → left ≡ output → ends (refused OverCapacity) left ≡ sizes_call a peer per bytes sender sig_len output
  unfolding sizes_call sizes_answer
  sizes_capacity h o = rw (lt-leb sig_len 1024 h) (λ i. ends (refused OverCapacity) (o i))

  module _ (h : sig_len ≤ 1024) where
    pub sizes_refused : (q : Refusal) → refused q ≡ count_call a peer → left ≡ output → ends (refused q) left ≡ sizes_call a peer per bytes sender sig_len output
    unfolding sizes_call sizes_answer
    sizes_refused q e o = rw (le-leb sig_len 1024 h, over_stops a peer _ q e) (λ i. ends (refused q) (o i))

    module _ (n most : ℕ) (c : VectorClock) (k : Counted a peer n) (e : c ≡ clock_at peer 0) (q : most ≡ at_least_one per) where
      abbrev rows : List Row
      rows = delta_rows (entries c) (rows_in a.log n)

      goes : sizes_answer a peer per bytes sender sig_len output ≡ fitting output (delta_sizes rows per bytes sender sig_len)
      unfolding sizes_answer decode_store
      goes = rw (le-leb sig_len 1024 h, over_goes a peer (λ s es. fitting output (delta_sizes (delta_rows es s.log) per bytes sender sig_len)) n k, e, k.count)

      many : length (delta_sizes rows per bytes sender sig_len) ≡ length (chunks most bytes 0 0 rows)
      unfolding chunk_ops
      many = length_sizes rows per bytes sender sig_len ∙ rw q

      module _ (b : Bool) (f : b ≡ leb (16 * length (chunks most bytes 0 0 rows)) (length output)) where
        pub sizes_short : b ≡ false → left ≡ output → ends (refused ShortArea) left ≡ sizes_call a peer per bytes sender sig_len output
        unfolding sizes_call fitting
        sizes_short t o = rw (goes, many, ← f, t) (λ i. ends (refused ShortArea) (o i))

        pub sizes_done : (m : ℕ) → b ≡ true → Puts output (to_come most bytes sender sig_len [] rows) (2 * m) left
            → ends (done m) left ≡ sizes_call a peer per bytes sender sig_len output
        unfolding sizes_call fitting delta_sizes chunk_ops sizes
        sizes_done m t p =
            let z : m ≡ length (chunks most bytes 0 0 rows) = omega (arith, p.count, length_come most bytes sender sig_len rows) in
            let w : m ≡ length (delta_sizes rows per bytes sender sig_len) = z ∙ sym many in
            let l : leb (16 * length (delta_sizes rows per bytes sender sig_len)) (length output) ≡ true = rw many (sym f ∙ t) in
            let o : left ≡ put_at output 0 (bes (numbers (delta_sizes rows per bytes sender sig_len))) = rw (← q) p.output_is in
            rw (goes, l) (λ i. ends (done (w i)) (o i))

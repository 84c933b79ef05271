-- One turn of the loop that writes what each chunk sends.
use Prim.Native.Nat.{ℕ, ◌+◌, ◌*◌, ◌/◌, ◌≤◌, ◌<◌}
use mathlib.Core.Path.{◌≡◌, refl, sym, ◌∙◌, ap}
use mathlib.Core.Bool.{true, false}
use mathlib.Core.List.{List, [], ◌∷◌, ◌++◌, append_assoc, append-nil}
use mathlib.Core.Logic.{inl, inr}
use native.Mathlib.Omega.{arith}
use lib.Dec.{leb}
use lib.ListN.{length, take, drop, replicate, length-append, length-drop, length-replicate}
use lib.Seq.{take_at, drop_at, length-take-le}
use borrow.Author.Tests.{le-leb, lt-leb}
use Rattle.words.specs.Be.{bes}
use Rattle.words.specs.Areas.{put_at}
use Rattle.std.proofs.lemmas.Bool.{cases_Bool}
use Rattle.words.proofs.Words.{lt_or_le}
use Rattle.codec.specs.Leb128.{shortest}
use Rattle.codec.specs.Inside.EnvelopeParts.{sized_length, envelope_length}
use Rattle.codec.proofs.WriterLaws.{length_envelope}
use Rattle.row.specs.Rows.{Row, HeldRow}
use Rattle.row.specs.Slots.{slot_at, decode_held}
use Rattle.row.specs.Values.{row_of, OpFits}
use Rattle.row.specs.Wire.{signed_bytes}
use Rattle.row.specs.Inside.SlotParts.{held_of}
use Rattle.row.specs.Inside.WireLengths.{unsigned_len, signed_len}
use Rattle.row.specs.declared.Held.{Held}
use Rattle.row.proofs.WireLengths.{length_signed}
use Rattle.replicated_log.specs.Calls.{unseen}
use Rattle.replicated_log.specs.Inside.StoreTests.{row_at}
use Rattle.replicated_log.specs.Inside.StoreChanges.{rows_in}
use Rattle.replicated_log.proofs.Calls.Restoration.{length_rows_in}
use Rattle.message.specs.Messages.{delta, rows_bytes, message_bytes}
use Rattle.message.proofs.DeltaWrites.{bytes_append}
use Rattle.sync.specs.Delta.{delta_rows, row_size, chunks}
use Rattle.sync.specs.Chunks.{sizes}
use Rattle.sync.specs.Sizes.{Figures, cut, figures_of, figures_of_each, numbers}
use Rattle.sync.specs.Inside.DeltaSteps.{Puts, starts_next}
use Rattle.sync.specs.Inside.SizeSteps.{RowSizes, delta_length, to_come}
use Rattle.sync.proofs.NumberList.{Listing, listing_start, listing_puts, listing_room, listing_on, listing_end}
use Rattle.sync.proofs.DeltaLoops.{size_is, next_some, chunks_next, chunks_same, chunks_none, chunks_last, lacking_from, lacking_start, lacking_skip, lacking_next, lacking_end}
use Rattle.sync.proofs.DeltaTheorems.{sizes_append, sizes_one}

-- ---- how many numbers there are
length_numbers : (fs : List Figures) → length (numbers fs) ≡ 2 * length fs
unfolding numbers
length_numbers [] = refl
length_numbers (f ∷ fs) = omega (arith, length_numbers fs)

pub length_each : (sender sig_len : ℕ) (cs : List (List Row)) → length (figures_of_each sender sig_len cs) ≡ length cs
unfolding figures_of_each
length_each sender sig_len [] = refl
length_each sender sig_len (c ∷ cs) = omega (arith, length_each sender sig_len cs)

pub length_cut : (ns : List ℕ) (rows : List Row) → length (cut ns rows) ≡ length ns
unfolding cut
length_cut [] rows = refl
length_cut (n ∷ ns) rows = omega (arith, length_cut ns (drop n rows))

pub length_come : (most bytes sender sig_len : ℕ) (rows : List Row) → length (to_come most bytes sender sig_len [] rows) ≡ 2 * length (chunks most bytes 0 0 rows)
unfolding sizes
length_come most bytes sender sig_len rows =
    let ns = chunks most bytes 0 0 rows in
    length_numbers (figures_of_each sender sig_len (cut ns rows)) ∙ rw (length_each sender sig_len (cut ns rows), length_cut ns rows)

-- ---- the bytes of rows
bytes_more : (rows : List Row) (r : Row) → length (rows_bytes (rows ++ (r ∷ []))) ≡ length (rows_bytes rows) + length (rows_bytes (r ∷ []))
bytes_more rows r = ap length (bytes_append rows (r ∷ [])) ∙ length-append (rows_bytes rows) (rows_bytes (r ∷ []))

bytes_one : (r : Row) → length (rows_bytes (r ∷ [])) ≡ length (signed_bytes r)
unfolding rows_bytes
bytes_one r = rw (append-nil (signed_bytes r))

-- what a row adds, from the lengths that the code found
pub row_is : (s : List ℕ) (at : ℕ) (h : Held) (len v bytes : ℕ) → held_of s h ≡ decode_held (slot_at s at) → OpFits s h.op
    → ((src : List ℕ) → OpFits src h.op → len ≡ unsigned_len (row_of src h.op)) → len ≤ 646
    → v ≡ sized_length h.op.signature.len → v ≤ h.op.signature.len + 10 → bytes ≡ len + v
    → RowSizes (row_at s at) (len + h.op.signature.len + 16) bytes
unfolding signed_len row_of held_of
row_is s at h len v bytes e f g l y m w =
    let r : row_of s h.op ≡ row_at s at = ap (λ (x : HeldRow). x.row) e in
    let k : length (take h.op.signature.len (drop h.op.signature.start s)) ≡ h.op.signature.len =
    length-take-le _ _ (simp length-drop (omega (arith, f.signature_in))) in
    let q = size_is s at h len e f g l in
    record {
      size_is = q.0;
      size_few = q.1;
      bytes_is = w ∙ rw (← r, length_signed (row_of s h.op), ← g s f, k, y);
      bytes_few = omega (arith, f.signature);
    }

-- ---- a chunk's frame
pub frame_is : (sender sig_len : ℕ) (c : List Row)
    → (figures_of sender sig_len c).bytes ≡ envelope_length sender (delta_length (length c) (length (rows_bytes c))) sig_len
unfolding figures_of delta_length message_bytes
frame_is sender sig_len c =
    let l : length (message_bytes (delta c)) ≡ 1 + length (shortest (length c)) + length (rows_bytes c) = simp length-append (omega arith) in
    length_envelope sender (message_bytes (delta c)) (replicate sig_len 0) ∙ rw (l, length-replicate {A = ℕ} sig_len 0)

-- the sum that frame_len makes of the lengths of count, body, sender and signature
pub frame_sum : (sender n row_bytes sig_len l body m x y : ℕ) → l ≡ length (shortest n) → body ≡ 1 + l + row_bytes → m ≡ length (shortest sender) → x ≡ sized_length body
    → y ≡ sized_length sig_len → m + x + y ≡ envelope_length sender (delta_length n row_bytes) sig_len
unfolding envelope_length delta_length
frame_sum sender n row_bytes sig_len l body m x y e b f g h = rw (f, g, h, b, e) (omega arith)

-- ---- one row more
module _ (most bytes sender sig_len : ℕ) (current : List Row) where
  come_next : (r : Row) (rs : List Row) → true ≡ starts_next most bytes (length current) (sizes current + row_size r)
      → to_come most bytes sender sig_len current (r ∷ rs) ≡ (length current ∷ (figures_of sender sig_len current).bytes ∷ []) ++ to_come most bytes sender sig_len (r ∷ []) rs
  unfolding numbers figures_of_each figures_of cut
  come_next r rs e =
      rw (
        chunks_next most bytes (length current) (sizes current) r rs e,
        take_at current (r ∷ rs) (length current) refl,
        drop_at current (r ∷ rs) (length current) refl,
        sizes_one r,
      )

  come_same : (r : Row) (rs : List Row) → false ≡ starts_next most bytes (length current) (sizes current + row_size r)
      → to_come most bytes sender sig_len current (r ∷ rs) ≡ to_come most bytes sender sig_len (current ++ (r ∷ [])) rs
  come_same r rs e =
      let z : sizes (current ++ (r ∷ [])) ≡ sizes current + row_size r = omega (arith, sizes_append current (r ∷ []), sizes_one r) in
      rw (chunks_same most bytes (length current) (sizes current) r rs e, length-append current (r ∷ []), z, append_assoc current (r ∷ []) rs)

  come_none : length current ≡ 0 → to_come most bytes sender sig_len current [] ≡ []
  unfolding numbers figures_of_each cut
  come_none e = rw (chunks_none most bytes (length current) (sizes current) e)

  come_last : (length current ≡ 0 → ⊥) → to_come most bytes sender sig_len current [] ≡ (length current ∷ (figures_of sender sig_len current).bytes ∷ []) ++ []
  unfolding numbers figures_of_each figures_of cut
  come_last e = rw (chunks_last most bytes (length current) (sizes current) e, take_at current [] (length current) refl)

-- ---- the loop
-- k chunks are written, and the current one has `count` rows of `size`, which have `len` bytes in a Delta
pub record Sizing (s : List ℕ) (n : ℕ) (es : List (ℕ × ℕ)) (most bytes sender sig_len : ℕ) (out₀ out : List ℕ) (i k count size len : ℕ) : Type 0 where
  pub current : List Row
  pub count_is : count ≡ length current
  pub size_is : size ≡ sizes current
  pub len_is : len ≡ length (rows_bytes current)
  pub listing :
      Listing out₀ out (to_come most bytes sender sig_len [] (delta_rows es (rows_in s n))) (to_come most bytes sender sig_len current (lacking_from s n es i)) (2 * k)
  pub behind : k + count ≤ i
  pub small : size ≤ 726 * i
  pub short : len ≤ 912 * i
  pub within : i ≤ n

module _ (s : List ℕ) (n : ℕ) (es : List (ℕ × ℕ)) (most bytes sender sig_len : ℕ) where
  pub sizing_start : (out : List ℕ) → Sizing s n es most bytes sender sig_len out out 0 0 0 0 0
  unfolding sizes rows_bytes
  sizing_start out =
      record {
        current = [];
        count_is = refl;
        size_is = refl;
        len_is = refl;
        listing = listing_on (listing_start out _) _ (rw (lacking_start s n es));
        behind = omega arith;
        small = omega arith;
        short = omega arith;
        within = omega arith;
      }

  module _ (out₀ out : List ℕ) (i k count size len : ℕ) (g : Sizing s n es most bytes sender sig_len out₀ out i k count size len) where
    pub sizing_skip : i < n → false ≡ unseen es (row_at s (704 * i)) → Sizing s n es most bytes sender sig_len out₀ out (i + 1) k count size len
    sizing_skip h e =
        record {
          current = g.current;
          count_is = g.count_is;
          size_is = g.size_is;
          len_is = g.len_is;
          listing = listing_on g.listing _ (ap (to_come most bytes sender sig_len g.current) (lacking_skip s n es i h e));
          behind = omega (arith, g.behind);
          small = omega (arith, g.small);
          short = omega (arith, g.short);
          within = omega arith;
        }

    frame : (figures_of sender sig_len g.current).bytes ≡ envelope_length sender (delta_length count len) sig_len
    frame = frame_is sender sig_len g.current ∙ rw (g.count_is, g.len_is)

    -- the current chunk ends, v being its bytes
    module _ (v : ℕ) (w : v ≡ envelope_length sender (delta_length count len) sig_len) (l : 16 * length (chunks most bytes 0 0 (delta_rows es (rows_in s n))) ≤ length out₀) where
      module _ (rest : List ℕ) (e : to_come most bytes sender sig_len g.current (lacking_from s n es i) ≡ (count ∷ v ∷ []) ++ rest) where
        room_for : 8 * (2 * k + 2) ≤ length out₀
        room_for = listing_room g.listing rest (count ∷ v ∷ []) e (omega (arith, length_come most bytes sender sig_len (delta_rows es (rows_in s n))))

        room_at : 16 * k + 16 ≤ length out
        room_at = omega (arith, g.listing.same, room_for)

        put_at_lem : (t : List ℕ) → t ≡ put_at out (16 * k) (bes (count ∷ v ∷ [])) → Listing out₀ t (to_come most bytes sender sig_len [] (delta_rows es (rows_in s n))) rest (2 * (k + 1))
        put_at_lem t p =
            let y : 16 * k ≡ 8 * (2 * k) = omega arith in
            let z : 2 * k + 2 ≡ 2 * (k + 1) = omega arith in
            rw (← z) (listing_puts g.listing t rest (count ∷ v ∷ []) e room_for (rw y at p))

      -- at a row that starts the next
      module _ (h : i < n) (e : true ≡ unseen es (row_at s (704 * i))) (row more : ℕ) (z : RowSizes (row_at s (704 * i)) row more) (x : true ≡ starts_next most bytes count (size + row)) where
        ends_before : to_come most bytes sender sig_len g.current (lacking_from s n es i) ≡ (count ∷ v ∷ []) ++ to_come most bytes sender sig_len (row_at s (704 * i) ∷ []) (lacking_from s n es (i + 1))
        ends_before =
            ap (to_come most bytes sender sig_len g.current) (lacking_next s n es i h e)
            ∙ come_next most bytes sender sig_len g.current _ _ (rw (g.count_is, g.size_is, z.size_is) at x)
            ∙ rw (frame, ← g.count_is, ← w)

        pub sizing_room : 16 * k + 16 ≤ length out
        sizing_room = room_at _ ends_before

        pub sizing_put : (t : List ℕ) → t ≡ put_at out (16 * k) (bes (count ∷ v ∷ [])) → Sizing s n es most bytes sender sig_len out₀ t (i + 1) (k + 1) 1 row more
        sizing_put t p =
            let c : 0 < count = next_some most bytes count (size + row) x in
            record {
              current = row_at s (704 * i) ∷ [];
              count_is = refl;
              size_is = z.size_is ∙ sym (sizes_one _);
              len_is = z.bytes_is ∙ sym (bytes_one _);
              listing = put_at_lem _ ends_before t p;
              behind = omega (arith, g.behind);
              small = omega (arith, z.size_few);
              short = omega (arith, z.bytes_few);
              within = omega arith;
            }

      -- behind the last row
      module _ (h : n ≤ i) (e : count ≡ 0 → ⊥) where
        ends_last : to_come most bytes sender sig_len g.current (lacking_from s n es i) ≡ (count ∷ v ∷ []) ++ []
        ends_last =
            ap (to_come most bytes sender sig_len g.current) (lacking_end s n es i h)
            ∙ come_last most bytes sender sig_len g.current (λ q. e (g.count_is ∙ q))
            ∙ rw (frame, ← g.count_is, ← w)

        pub last_room : 16 * k + 16 ≤ length out
        last_room = room_at [] ends_last

        pub sizing_last : (t : List ℕ) → t ≡ put_at out (16 * k) (bes (count ∷ v ∷ [])) → Puts out₀ (to_come most bytes sender sig_len [] (delta_rows es (rows_in s n))) (2 * (k + 1)) t
        sizing_last t p = listing_end (put_at_lem [] ends_last t p) refl

    pub sizing_none : n ≤ i → count ≡ 0 → Puts out₀ (to_come most bytes sender sig_len [] (delta_rows es (rows_in s n))) (2 * k) out
    sizing_none h e =
        listing_end g.listing
        (ap (to_come most bytes sender sig_len g.current) (lacking_end s n es i h) ∙ come_none most bytes sender sig_len g.current (sym g.count_is ∙ e))

    module _ (h : i < n) (e : true ≡ unseen es (row_at s (704 * i))) (row more : ℕ) (z : RowSizes (row_at s (704 * i)) row more) where
      pub sizing_grow : false ≡ starts_next most bytes count (size + row) → Sizing s n es most bytes sender sig_len out₀ out (i + 1) k (count + 1) (size + row) (len + more)
      sizing_grow x =
          let r = row_at s (704 * i) in
          record {
            current = g.current ++ (r ∷ []);
            count_is = simp length-append (omega (arith, g.count_is));
            size_is = omega (arith, g.size_is, z.size_is, sizes_append g.current (r ∷ []), sizes_one r);
            len_is = omega (arith, g.len_is, z.bytes_is, bytes_more g.current r, bytes_one r);
            listing =
                listing_on g.listing _
                (ap (to_come most bytes sender sig_len g.current) (lacking_next s n es i h e)
                ∙ come_same most bytes sender sig_len g.current _ _ (rw (g.count_is, g.size_is, z.size_is) at x));
            behind = omega (arith, g.behind);
            small = omega (arith, g.small, z.size_few);
            short = omega (arith, g.short, z.bytes_few);
            within = omega arith;
          }

-- ---- the room
chunks_few : (most bytes n size : ℕ) (rows : List Row) → length (chunks most bytes n size rows) ≤ n + length rows
chunks_few most bytes n size [] = elim (lt_or_le 0 n) [
  | inl h ↦ rw (chunks_last most bytes n size (λ e. omega arith)) (omega arith)
  | inr h ↦ rw (chunks_none most bytes n size (omega arith)) (omega arith)
]
chunks_few most bytes n size (r ∷ rows) = elim (cases_Bool (starts_next most bytes n (size + row_size r))) [
  | inl e ↦
      let p : 0 < n = next_some most bytes n (size + row_size r) (sym e) in
      rw (chunks_next most bytes n size r rows (sym e)) (omega (arith, chunks_few most bytes 1 (row_size r) rows))
  | inr e ↦ rw (chunks_same most bytes n size r rows (sym e)) (omega (arith, chunks_few most bytes (n + 1) (size + row_size r) rows))
]

lacking_few : (es : List (ℕ × ℕ)) (rows : List Row) → length (delta_rows es rows) ≤ length rows
unfolding delta_rows
lacking_few es [] = omega arith
lacking_few es (r ∷ rows) = elim (cases_Bool (unseen es r)) [ inl e ↦ rw e (omega (arith, lacking_few es rows)) | inr e ↦ rw e (omega (arith, lacking_few es rows)) ]

module _ (s : List ℕ) (n : ℕ) (es : List (ℕ × ℕ)) (most bytes room : ℕ) where
  abbrev many : ℕ
  many = length (chunks most bytes 0 0 (delta_rows es (rows_in s n)))

  pub row_room : n ≤ room / 16 → true ≡ leb (16 * many) room
  row_room h =
      sym
      (le-leb (16 * many) room
      (omega (arith, chunks_few most bytes 0 0 (delta_rows es (rows_in s n)), lacking_few es (rows_in s n), length_rows_in s n)))

  -- q is what the code tests the chunks against
  pub chunk_room : (k q : ℕ) → k ≡ many → q ≡ room / 16 → leb k q ≡ leb (16 * many) room
  chunk_room k q e f = elim (lt_or_le q k) [
    | inl h ↦ lt-leb k q h ∙ sym (lt-leb (16 * many) room (omega arith))
    | inr h ↦ le-leb k q h ∙ sym (le-leb (16 * many) room (omega arith))
  ]

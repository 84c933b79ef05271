-- The rows of a Delta, counted and written turn by turn.
use Prim.Native.Nat.{ℕ, ◌+◌, ◌*◌, ◌/◌, ◌≤◌, ◌<◌}
use mathlib.Core.Path.{◌≡◌, refl, sym, ◌∙◌, ap}
use mathlib.Core.Bool.{Bool, true, false}
use mathlib.Core.List.{List, [], ◌∷◌, ◌++◌, append_assoc, append-nil}
use native.Mathlib.Omega.{arith}
use lib.ListN.{length, length-append}
use borrow.Author.Tests.{le-leb, lt-leb}
use Rattle.words.proofs.Puts.{put_nil}
use Rattle.error.specs.declared.Refusal.TheVariants.{ShortArea, UnsoundStore, OverCapacity}
use Rattle.error.specs.Answer.{refused, ends}
use Rattle.error.specs.declared.Ends.{Ends}
use Rattle.codec.specs.Leb128.{shortest}
use Rattle.codec.specs.Writing.{write_call}
use Rattle.codec.specs.Inside.EnvelopeParts.{Stored}
use Rattle.codec.proofs.WriterLaws.{first_room, rest_room, stored_then, stored_length}
use Rattle.row.specs.Rows.{Row, HeldRow}
use Rattle.row.specs.Slots.{slot_at, slots_at, decode_held}
use Rattle.row.specs.Values.{row_of, OpFits}
use Rattle.row.specs.Wire.{signed_bytes}
use Rattle.row.specs.Inside.SlotParts.{held_of}
use Rattle.row.specs.Inside.WireLengths.{signed_len}
use Rattle.row.specs.declared.Held.{Held}
use Rattle.row.proofs.WireLengths.{length_signed}
use Rattle.replicated_log.specs.Areas.{rows_of}
use Rattle.replicated_log.specs.Calls.{slots_ok}
use Rattle.replicated_log.specs.Inside.StoreChanges.{rows_in}
use Rattle.replicated_log.proofs.Calls.Restoration.{rows_from, rows_next, rows_split, length_rows_in}
use Rattle.message.specs.Messages.{delta, rows_bytes, message_bytes}
use Rattle.message.specs.Calls.{lent_rows, encode_delta}
use Rattle.message.proofs.TaggedWrites.{tag_room, behind_room, tagged}

-- ---- the bytes of the first rows
pub bytes_append : (rs qs : List Row) → rows_bytes (rs ++ qs) ≡ rows_bytes rs ++ rows_bytes qs
unfolding rows_bytes
bytes_append [] qs = refl
bytes_append (r ∷ rs) qs = rw (bytes_append rs qs) (sym (append_assoc (signed_bytes r) (rows_bytes rs) (rows_bytes qs)))

abbrev row_at : List ℕ → ℕ → Row
row_at s i = (decode_held (slot_at s (704 * i))).row

bytes_next : (s : List ℕ) (i : ℕ) → rows_bytes (rows_in s (i + 1)) ≡ rows_bytes (rows_in s i) ++ signed_bytes (row_at s i)
unfolding rows_bytes
bytes_next s i =
    ap rows_bytes (rows_next s i) ∙ bytes_append (rows_in s i) (row_at s i ∷ []) ∙ ap (λ (l : List ℕ). rows_bytes (rows_in s i) ++ l) (append-nil (signed_bytes (row_at s i)))

first_few : (s : List ℕ) (n i : ℕ) → i ≤ n → length (rows_bytes (rows_in s i)) ≤ length (rows_bytes (rows_in s n))
first_few s n i h =
    let e : length (rows_bytes (rows_in s n)) ≡ length (rows_bytes (rows_in s i)) + length (rows_bytes (rows_from s n i)) =
    ap (λ (l : List Row). length (rows_bytes l)) (rows_split s n i h) ∙ ap length (bytes_append (rows_in s i) (rows_from s n i)) ∙ length-append (rows_bytes (rows_in s i)) (rows_bytes (rows_from s n i)) in
    omega arith

-- the row of a slot that was read
row_read : (s : List ℕ) (h : Held) {r : HeldRow} → held_of s h ≡ r → row_of s h.op ≡ r.row
unfolding held_of
row_read s h e = ap (λ (h : HeldRow). h.row) e

-- ---- counting
pub record Counted (s : List ℕ) (len i : ℕ) : Type 0 where
  pub same : len ≡ length (rows_bytes (rows_in s i))
  pub few : len ≤ 912 * i

pub counted_none : (s : List ℕ) → Counted s 0 0
unfolding rows_bytes rows_of slots_at
counted_none s = record { same = refl; few = omega arith }

module _ {s : List ℕ} {len i : ℕ} (g : Counted s len i) where
  pub counted_more : (h : Held) {l : ℕ} → held_of s h ≡ decode_held (slot_at s (704 * i)) → OpFits s h.op
      → ((src : List ℕ) → OpFits src h.op → l ≡ signed_len (row_of src h.op)) → l ≤ 912 → Counted s (len + l) (i + 1)
  counted_more h {l} e f p q =
      let a : l ≡ length (signed_bytes (row_at s i)) = p s f ∙ sym (length_signed (row_of s h.op)) ∙ ap (λ (r : Row). length (signed_bytes r)) (row_read s h e) in
      let b : length (rows_bytes (rows_in s (i + 1))) ≡ length (rows_bytes (rows_in s i)) + length (signed_bytes (row_at s i)) =
      ap length (bytes_next s i) ∙ length-append (rows_bytes (rows_in s i)) (signed_bytes (row_at s i)) in
      record { same = omega (arith, g.same); few = omega (arith, g.few) }

-- ---- writing
pub record Going (s : List ℕ) (at : ℕ) (rows : List ℕ) (n : ℕ) (t : List ℕ) (next i : ℕ) : Type 0 where
  pub room : at + length (rows_bytes (rows_in rows n)) ≤ length s
  pub same : length t ≡ length s
  pub stored : Stored s at (rows_bytes (rows_in rows i)) next t

pub start : (s : List ℕ) (at : ℕ) (rows : List ℕ) (n : ℕ) → at + length (rows_bytes (rows_in rows n)) ≤ length s → Going s at rows n s at 0
unfolding rows_bytes rows_of slots_at
start s at rows n r = record { room = r; same = refl; stored = record { past = omega arith; output = put_nil s at } }

module _ {s : List ℕ} {at : ℕ} {rows : List ℕ} {n : ℕ} {t : List ℕ} {next i : ℕ} (g : Going s at rows n t next i) where
  module _ (h : Held) (k : i < n) (e : held_of rows h ≡ decode_held (slot_at rows (704 * i))) where
    more : rows_bytes (rows_in rows (i + 1)) ≡ rows_bytes (rows_in rows i) ++ signed_bytes (row_of rows h.op)
    more = rw (row_read rows h e) (bytes_next rows i)

    more_room : at + length (rows_bytes (rows_in rows i) ++ signed_bytes (row_of rows h.op)) ≤ length s
    more_room = rw (← more) (omega (arith, g.room, first_few rows n (i + 1) (omega arith)))

    pub row_room : next + length (signed_bytes (row_of rows h.op)) ≤ length t
    row_room = rest_room (signed_bytes (row_of rows h.op)) g.stored more_room

    pub again : {end : ℕ} {u : List ℕ} → Stored t next (signed_bytes (row_of rows h.op)) end u → Going s at rows n u end (i + 1)
    again d =
        let a = stored_then g.stored d more_room in
        record { room = g.room; same = stored_length a more_room; stored = rw more a }

-- ---- the message
module _ (rows : List ℕ) (n : ℕ) where
  delta_is : message_bytes (delta (rows_in rows n)) ≡ 1 ∷ (shortest n ++ rows_bytes (rows_in rows n))
  unfolding message_bytes
  delta_is = rw (length_rows_in rows n)

  pub delta_length_lem : {a b : ℕ} → a ≡ length (shortest n) → b ≡ length (rows_bytes (rows_in rows n)) → 1 + a + b ≡ length (message_bytes (delta (rows_in rows n)))
  delta_length_lem p q = rw delta_is (omega (arith, length-append (shortest n) (rows_bytes (rows_in rows n))))

  module _ (s : List ℕ) (h : length (message_bytes (delta (rows_in rows n))) ≤ length s) where
    whole : 0 + length (1 ∷ (shortest n ++ rows_bytes (rows_in rows n))) ≤ length s
    whole = let e = ap length delta_is in omega arith

    pub delta_room : 1 ≤ length s
    delta_room = tag_room s 1 (shortest n ++ rows_bytes (rows_in rows n)) whole

    module _ {at : ℕ} {t : List ℕ} (d : Stored s 0 (1 ∷ []) at t) where
      rest : at + length (shortest n ++ rows_bytes (rows_in rows n)) ≤ length t
      rest = behind_room s 1 (shortest n ++ rows_bytes (rows_in rows n)) whole d

      pub count_room : at + length (shortest n) ≤ length t
      count_room = first_room (shortest n) (rows_bytes (rows_in rows n)) at (length t) rest

      module _ {next : ℕ} {u : List ℕ} (e : Stored t at (shortest n) next u) where
        pub rows_room : next + length (rows_bytes (rows_in rows n)) ≤ length u
        rows_room = rest_room (rows_bytes (rows_in rows n)) e rest

        pub delta_stored : {end : ℕ} {w : List ℕ} → Stored u next (rows_bytes (rows_in rows n)) end w → Stored s 0 (message_bytes (delta (rows_in rows n))) end w
        delta_stored f = rw delta_is (tagged s 1 (shortest n ++ rows_bytes (rows_in rows n)) whole d (stored_then e f rest))

-- ---- what refuses, and what is written
pub slots_within : {len count : ℕ} → count ≤ len / 704 → 704 * count ≤ len
slots_within h = omega arith

module _ (out rows : List ℕ) (count : ℕ) where
  pub delta_short : length rows / 704 < count → ends (refused ShortArea) out ≡ encode_delta out rows count
  unfolding encode_delta lent_rows
  delta_short h = rw (lt-leb (704 * count) (length rows) (omega arith))

  module _ (h : count ≤ length rows / 704) {b : Bool} (k : b ≡ slots_ok rows 0 count) where
    pub delta_unsound : b ≡ false → ends (refused UnsoundStore) out ≡ encode_delta out rows count
    unfolding encode_delta lent_rows
    delta_unsound f = rw (le-leb (704 * count) (length rows) (slots_within h), ← k, f)

    module _ (f : b ≡ true) where
      pub delta_many : 64 < count → ends (refused OverCapacity) out ≡ encode_delta out rows count
      unfolding encode_delta lent_rows
      delta_many l = rw (le-leb (704 * count) (length rows) (slots_within h), ← k, f, lt-leb count 64 l)

      pub delta_written : {w : Ends ℕ (List ℕ)} → count ≤ 64 → w ≡ write_call out 0 (message_bytes (delta (rows_in rows count))) → w ≡ encode_delta out rows count
      unfolding encode_delta lent_rows
      delta_written l e = rw (le-leb (704 * count) (length rows) (slots_within h), ← k, f, le-leb count 64 l) e

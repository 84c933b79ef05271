-- One slot of an area written: it is there, and every other slot and what lies behind them is as it was.
use Prim.Native.Nat.{ℕ, ◌+◌, ◌-◌, ◌*◌, ◌≤◌, ◌<◌}
use mathlib.Core.Path.{◌≡◌, refl, sym, ◌∙◌, ap}
use mathlib.Core.Logic.{inl, inr}
use mathlib.Core.List.{List, ◌++◌, append_assoc}
use native.Mathlib.Omega.{arith}
use lib.ListN.{length, take, drop, length-append, length-drop, take-append-drop}
use lib.Seq.{length-take-le, take_at, drop_at, drop-drop, take-append-le, drop-append-le}
use borrow.Rule.Slice.PartMut.{put_mid}
use Rattle.words.specs.Areas.{put_at}
use Rattle.words.proofs.Words.{lt_or_le}
use Rattle.words.proofs.Puts.{length_put}
use Rattle.row.specs.Slots.{slot_at, encode_held}
use Rattle.row.specs.Reading.{read_row}
use Rattle.row.specs.Calls.{ReadsRow}
use Rattle.row.specs.declared.RowRead.{RowRead}
use Rattle.row.proofs.Operations.{slot_put, fits_length}
use Rattle.error.specs.Answer.{got}
use Rattle.working.specs.Inside.References.{arrived_by}
use Rattle.commit.specs.Inside.HeldSlots.{SlotSet, arriving}
use Rattle.std.specs.List.{copy_within}
use Rattle.row.specs.Inside.SlotParts.{held_of}

-- ---- bytes put into an area
part_front : (x y : List ℕ) (b m : ℕ) → b + m ≤ length x → take m (drop b (x ++ y)) ≡ take m (drop b x)
part_front x y b m h =
    rw (drop-append-le b x y (omega arith)) (take-append-le m (drop b x) y (simp length-drop (omega arith)))

module _ (s vs : List ℕ) (a : ℕ) (h : a + length vs ≤ length s) where
  parted : put_at s a vs ≡ take a s ++ (vs ++ drop (a + length vs) s)
  unfolding put_at
  parted = append_assoc (take a s) vs (drop (a + length vs) s)

  lower : length (take a s) ≡ a
  lower = length-take-le a s (omega arith)

  put_here : take (length vs) (drop a (put_at s a vs)) ≡ vs
  put_here = rw (parted, drop_at (take a s) (vs ++ drop (a + length vs) s) a lower) (take_at vs _ (length vs) refl)

  put_low : (b m : ℕ) → b + m ≤ a → take m (drop b (put_at s a vs)) ≡ take m (drop b s)
  put_low b m l =
      rw parted
      (part_front (take a s) (vs ++ drop (a + length vs) s) b m (omega (arith, lower))
      ∙ sym (part_front (take a s) (drop a s) b m (omega (arith, lower)))
      ∙ ap (λ (x : List ℕ). take m (drop b x)) (take-append-drop a s))

  put_past : drop (a + length vs) (put_at s a vs) ≡ drop (a + length vs) s
  unfolding put_at
  put_past = drop_at (take a s ++ vs) (drop (a + length vs) s) (a + length vs) (simp length-append (omega (arith, lower)))

  put_high : (b : ℕ) → a + length vs ≤ b → drop b (put_at s a vs) ≡ drop b s
  put_high b l =
      let e : b ≡ a + length vs + (b - (a + length vs)) = omega arith in
      rw (e, ← drop-drop (b - (a + length vs)) (a + length vs) (put_at s a vs), put_past)
      (drop-drop (b - (a + length vs)) (a + length vs) s)

pub slot_set : (s vs : List ℕ) (p : ℕ) → p < 64 → 45056 ≤ length s → length vs ≡ 704 → SlotSet s (put_at s (704 * p) vs) p vs
slot_set s vs p h k l =
    let r : 704 * p + length vs ≤ length s = omega arith in
    record {
      same = length_put s vs (704 * p) r;
      here = ap (λ (n : ℕ). take n (drop (704 * p) (put_at s (704 * p) vs))) (sym l) ∙ put_here s vs (704 * p) r;
      else = λ q n. elim (lt_or_le q p) [
        | inl o ↦ put_low s vs (704 * p) r (704 * q) 704 (omega arith)
        | inr o ↦ ap (take 704) (put_high s vs (704 * p) r (704 * q) (omega arith))
      ];
      behind = put_high s vs (704 * p) r 45056 (omega arith);
    }

-- ---- a slot of the area itself
whole : (s : List ℕ) (p : ℕ) → p < 64 → 45056 ≤ length s → length (slot_at s (704 * p)) ≡ 704
whole s p h k = length-take-le 704 (drop (704 * p) s) (simp length-drop (omega arith))

-- the part that is lent for a slot
pub slot_lent : (s : List ℕ) (p : ℕ) → p < 64 → 45056 ≤ length s → length (take (704 * p + 704 - 704 * p) (drop (704 * p) s)) ≡ 704
slot_lent s p h k =
    let b : 704 * p + 704 - 704 * p ≡ 704 = omega arith in
    rw b (whole s p h k)

pub slot_same : (s : List ℕ) (from to : ℕ) → to ≡ from → SlotSet s s to (slot_at s (704 * from))
slot_same s from to e = rw e record { same = refl; here = refl; else = λ q n. refl; behind = refl }

module _ (s t : List ℕ) (from to : ℕ) (f : from < 64) (o : to < 64) (k : 45056 ≤ length s) where
  size : length (slot_at s (704 * from)) ≡ 704
  size = whole s from f k

  slot_put_in : t ≡ put_at s (704 * to) (slot_at s (704 * from)) → SlotSet s t to (slot_at s (704 * from))
  slot_put_in e = rw e (slot_set s (slot_at s (704 * from)) to o k size)

  pub slot_copied : t ≡ copy_within s (704 * from) (704 * from + 704) (704 * to) → SlotSet s t to (slot_at s (704 * from))
  unfolding put_at
  slot_copied e =
      let b : 704 * from + 704 - 704 * from ≡ 704 = omega arith in
      slot_put_in (e ∙ rw (b, size))

-- ---- a row of the batch
module _ (batch : List ℕ) (at : ℕ) (r : RowRead) (next : ℕ) (e : ReadsRow batch at (got r next)) where
  pub row_arrives : (time : ℕ) → held_of batch (arriving r time) ≡ arrived_by time (read_row batch at)
  unfolding held_of
  row_arrives time = rw (← e.is)

  pub slot_written : (s u w : List ℕ) (p time : ℕ) → p < 64 → 45056 ≤ length s → u ≡ s → w ≡ encode_held (held_of batch (arriving r time))
      → SlotSet s (put_mid (704 * p) (704 * p + 704 - 704 * p) u w) p (encode_held (arrived_by time (read_row batch at)))
  slot_written s u w p time h k a b =
      rw (slot_put u w s batch (arriving r time) (704 * p) a b (e.fits r next refl), ← row_arrives time)
      (slot_set s (encode_held (held_of batch (arriving r time))) p h k (fits_length batch (arriving r time) (e.fits r next refl)))

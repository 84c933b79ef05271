-- References to held slots rise, since both the held rows and the working rows do.
use Prim.Native.Nat.{ℕ, zero, suc, ◌+◌, ◌*◌, ◌≤◌, ◌<◌}
use mathlib.Core.Path.{◌≡◌, refl, sym, ◌∙◌, ap}
use mathlib.Core.Bool.{true}
use mathlib.Core.Logic.{inl, inr}
use mathlib.Core.List.{List, [], ◌∷◌}
use native.Mathlib.Omega.{arith}
use lib.ListN.{length, take, get_or}
use Rattle.words.proofs.Words.{lt_or_le}
use Rattle.words.specs.Be.{get64, column}
use Rattle.words.proofs.Conjunction.{and_left, and_right}
use Rattle.row.specs.Rows.{HeldRow, work_less}
use Rattle.row.specs.Slots.{slot_at, decode_held, slots_at}
use Rattle.replicated_log.specs.Store.{below_next, held_rise}
use Rattle.merging.proofs.RowOrders.{work_trans, work_irrefl}
use Rattle.working.specs.Inside.References.{ref_ok, refs_ok, work_row, work_rows}
use Rattle.working.proofs.ReferenceRows.{ok_held, work_held}
use Rattle.working.proofs.ScratchColumns.{refs_of, ref_there, length_cells, cells_at}
use Rattle.commit.specs.Inside.HeldSlots.{SlotsRise}
use Rattle.merge.proofs.UsedSlots.{used_slot, used_only}

-- the i-th row of a list of held rows
unfoldable pub row_at : List HeldRow → ℕ → HeldRow
row_at [] i = decode_held []
row_at (h ∷ hs) zero = h
row_at (h ∷ hs) (suc i) = row_at hs i

-- rows that rise from one to the next rise
rise_head : (h : HeldRow) (hs : List HeldRow) → held_rise (h ∷ hs) ≡ true → (j : ℕ) → j < length hs → work_less h.row (row_at hs j).row ≡ true
unfolding held_rise below_next row_at
rise_head h [] r j l = absurd (omega arith)
rise_head h (k ∷ hs) r zero l = and_left _ _ r
rise_head h (k ∷ hs) r (suc j) l =
    work_trans h.row k.row (row_at hs j).row (and_left _ _ r) (rise_head k hs (and_right (work_less h.row k.row) _ r) j (omega arith))

pub rise_at : (hs : List HeldRow) → held_rise hs ≡ true → (i j : ℕ) → i < j → j < length hs → work_less (row_at hs i).row (row_at hs j).row ≡ true
unfolding held_rise row_at
rise_at [] r i j l m = absurd (omega arith)
rise_at (h ∷ hs) r zero (suc j) l m = rise_head h hs r j (omega arith)
rise_at (h ∷ hs) r (suc i) (suc j) l m = rise_at hs (and_right (below_next h hs) _ r) i j (omega arith) (omega arith)
rise_at (h ∷ hs) r i zero l m = absurd (omega arith)

work_at : (held batch : List ℕ) (time : ℕ) (ks : List ℕ) (i : ℕ) → i < length ks → row_at (work_rows held batch time ks) i ≡ work_row held batch time (get_or ks i 0)
unfolding work_rows row_at
work_at held batch time [] i l = absurd (omega arith)
work_at held batch time (k ∷ ks) zero l = refl
work_at held batch time (k ∷ ks) (suc i) l = work_at held batch time ks i (omega arith)

pub length_work : (held batch : List ℕ) (time : ℕ) (ks : List ℕ) → length (work_rows held batch time ks) ≡ length ks
unfolding work_rows
length_work held batch time [] = refl
length_work held batch time (k ∷ ks) = ap suc (length_work held batch time ks)

slots_at_lem : (s : List ℕ) (at n i : ℕ) → i < n → row_at (slots_at s at n) i ≡ decode_held (slot_at s (at + 704 * i))
unfolding slots_at row_at
slots_at_lem s at zero i l = absurd (omega arith)
slots_at_lem s at (suc n) zero l =
    let f : at ≡ at + 704 * 0 = omega arith in
    ap (λ (x : ℕ). decode_held (slot_at s x)) f
slots_at_lem s at (suc n) (suc i) l =
    let f : at + 704 + 704 * i ≡ at + 704 * suc i = omega arith in
    slots_at_lem s (at + 704) n i (omega arith) ∙ ap (λ (x : ℕ). decode_held (slot_at s x)) f

pub length_slots : (s : List ℕ) (at n : ℕ) → length (slots_at s at n) ≡ n
unfolding slots_at
length_slots s at zero = refl
length_slots s at (suc n) = ap suc (length_slots s (at + 704) n)

module _ (held u batch : List ℕ) (count : ℕ) (e : u ≡ take (704 * count) held) (long : 704 * count ≤ length held)
    (held-rise : held_rise (slots_at held 0 count) ≡ true) where
  module _ (time : ℕ) (t : List ℕ) (n : ℕ) (refs : refs_ok u batch (column t 0 n) ≡ true) (rise : held_rise (work_rows u batch time (column t 0 n)) ≡ true) where
    row_of : (i : ℕ) → i < n → get64 t (16 * i) < 64 → row_at (work_rows u batch time (column t 0 n)) i ≡ row_at (slots_at held 0 count) (get64 t (16 * i))
    row_of i l h =
        let k : ℕ = get64 t (16 * i) in
        let o : ref_ok u batch k ≡ true = ref_there u batch t n i k (refs_of u batch (column t 0 n) refs) l refl in
        let c : k < count = used_only held u count e long k (ok_held u batch k h o) in
        let q : get_or (column t 0 n) i 0 ≡ k = cells_at t 0 n i l ∙ ap (get64 t) (omega arith) in
        let z : 0 + 704 * k ≡ 704 * k = omega arith in
        work_at u batch time (column t 0 n) i (omega (arith, length_cells t 0 n)) ∙ rw q (work_held u batch k time h)
        ∙ ap decode_held (used_slot held u count e long k c) ∙ sym (slots_at_lem held 0 count k c ∙ ap (λ (x : ℕ). decode_held (slot_at held x)) z)

    in_range : (i : ℕ) → i < n → get64 t (16 * i) < 64 → get64 t (16 * i) < count
    in_range i l h =
        let k : ℕ = get64 t (16 * i) in
        used_only held u count e long k (ok_held u batch k h (ref_there u batch t n i k (refs_of u batch (column t 0 n) refs) l refl))

    below : (i j : ℕ) → i < j → j < n → get64 t (16 * i) < 64 → get64 t (16 * j) < 64
        → work_less (row_at (slots_at held 0 count) (get64 t (16 * i))).row (row_at (slots_at held 0 count) (get64 t (16 * j))).row ≡ true
    below i j l m hi hj =
        rw (← row_of i (omega arith) hi, ← row_of j m hj)
        (rise_at (work_rows u batch time (column t 0 n)) rise i j l (omega (arith, length_work u batch time (column t 0 n), length_cells t 0 n)))

    pub slots_rise : SlotsRise t n
    slots_rise = record {
      rise = λ i j l m hi hj.
          let p : ℕ = get64 t (16 * i) in
          let q : ℕ = get64 t (16 * j) in
          let lt = below i j l m hi hj in
          elim (lt_or_le p q) [
            | inl o ↦ o
            | inr o ↦ elim (lt_or_le q p) [
              | inl b ↦ absurd (work_irrefl _ (work_trans _ _ _ lt
                  (rise_at (slots_at held 0 count) held-rise q p b (omega (arith, length_slots held 0 count, in_range i (omega arith) hi)))))
              | inr b ↦
                  let f : p ≡ q = omega arith in
                  absurd (work_irrefl _ (rw f at lt))
            ]
          ];
    }

-- The slots that are used of the held area: references to them are references into the whole.
use Prim.Native.Nat.{ℕ, zero, suc, ◌+◌, ◌*◌, ◌≤◌, ◌<◌}
use mathlib.Core.Path.{◌≡◌, refl, sym, ◌∙◌, ap}
use mathlib.Core.Bool.{true}
use mathlib.Core.Logic.{inl, inr}
use mathlib.Core.List.{List, ◌++◌}
use native.Mathlib.Omega.{arith}
use lib.ListN.{length, take, drop, length-take, length-drop, take-append-drop}
use lib.Seq.{take-append-le, drop-append-le, length-take-le}
use Rattle.words.proofs.Words.{lt_or_le}
use Rattle.row.specs.Slots.{slot_at, slot_ok, decode_held, slots_at}
use Rattle.row.proofs.CanonicalSlot.{slot_length}
use Rattle.working.specs.Inside.References.{ref_ok, refs_ok, work_row, work_rows}
use Rattle.working.proofs.ReferenceRows.{ok_held, ok_batch, held_ok_lem, batch_ok, work_held, work_batch}
use Rattle.working.proofs.ScratchColumns.{Refs, refs_of, of_refs}

module _ (held u : List ℕ) (count : ℕ) (e : u ≡ take (704 * count) held) (long : 704 * count ≤ length held) where
  pub used_length : length u ≡ 704 * count
  used_length = rw e (length-take-le (704 * count) held long)

  -- a slot that is used
  pub used_slot : (k : ℕ) → k < count → slot_at u (704 * k) ≡ slot_at held (704 * k)
  used_slot k h =
      let f : held ≡ u ++ drop (704 * count) held = rw e (sym (take-append-drop (704 * count) held)) in
      let g : drop (704 * k) held ≡ drop (704 * k) u ++ drop (704 * count) held =
      ap (drop (704 * k)) f ∙ drop-append-le (704 * k) u _ (omega (arith, used_length)) in
      sym (ap (take 704) g ∙ take-append-le 704 (drop (704 * k) u) _ (omega (arith, used_length, length-drop (704 * k) u)))

  -- no other slot is there
  pub used_only : (k : ℕ) → slot_ok (slot_at u (704 * k)) ≡ true → k < count
  used_only k h = elim (lt_or_le k count) [
    | inl l ↦ l
    | inr l ↦ absurd (omega (arith, slot_length (slot_at u (704 * k)) h, length-take 704 (drop (704 * k) u), length-drop (704 * k) u, used_length))
  ]

  module _ (batch : List ℕ) where
    pub used_ref : (k : ℕ) → ref_ok u batch k ≡ true → ref_ok held batch k ≡ true
    used_ref k h = elim (lt_or_le k 64) [
      | inl l ↦
          let o = ok_held u batch k l h in
          held_ok_lem held batch k l (rw (used_slot k (used_only k o)) at o)
      | inr l ↦ batch_ok held batch k l (ok_batch u batch k l h)
    ]

    pub used_row : (time k : ℕ) → ref_ok u batch k ≡ true → work_row u batch time k ≡ work_row held batch time k
    used_row time k h = elim (lt_or_le k 64) [
      | inl l ↦
          let o = ok_held u batch k l h in
          work_held u batch k time l ∙ ap decode_held (used_slot k (used_only k o)) ∙ sym (work_held held batch k time l)
      | inr l ↦ work_batch u batch k time l ∙ sym (work_batch held batch k time l)
    ]

    refs_used : {ks : List ℕ} → Refs u batch ks → Refs held batch ks
    refs_used Refs.none = Refs.none
    refs_used (Refs.more o r) = Refs.more (used_ref _ o) (refs_used r)

    pub used_refs : (ks : List ℕ) → refs_ok u batch ks ≡ true → refs_ok held batch ks ≡ true
    used_refs ks h = of_refs (refs_used (refs_of u batch ks h))

    rows_used : (time : ℕ) {ks : List ℕ} → Refs u batch ks → work_rows u batch time ks ≡ work_rows held batch time ks
    unfolding work_rows
    rows_used time Refs.none = refl
    rows_used time (Refs.more o r) = rw (used_row time _ o, rows_used time r)

    pub used_rows : (time : ℕ) (ks : List ℕ) → refs_ok u batch ks ≡ true → work_rows u batch time ks ≡ work_rows held batch time ks
    used_rows time ks h = rows_used time (refs_of u batch ks h)

  slots_used : (n at : ℕ) → at + n ≤ count → slots_at u (704 * at) n ≡ slots_at held (704 * at) n
  unfolding slots_at
  slots_used zero at h = refl
  slots_used (suc n) at h =
      let f : 704 * at + 704 ≡ 704 * (at + 1) = omega arith in
      rw (f, used_slot at (omega arith), slots_used n (at + 1) (omega arith))

  -- the rows of the used slots are the held rows
  pub used_slots : slots_at u 0 count ≡ slots_at held 0 count
  used_slots = slots_used count 0 (omega arith)

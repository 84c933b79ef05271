-- The order of working rows and the order of the log: strict, transitive, and total where it is asked.
use Prim.Native.Nat.{◌<◌}
use mathlib.Core.Path.{◌≡◌, refl, ◌∙◌}
use mathlib.Core.Logic.{◌⊎◌, inl, inr}
use mathlib.Core.Bool.{true, false}
use native.Mathlib.Omega.{arith}
use borrow.Author.Tests.{leb-true, le-leb}
use Rattle.words.proofs.Words.{test}
use Rattle.clock.specs.Order.{stamp_key, stamp_less}
use Rattle.clock.proofs.LexicographicOrder.{clash, less_irreflexive, less_transitive, less_total, stamp_irreflexive, stamp_transitive, stamp_total}
use Rattle.row.specs.Rows.{Row, work_key, work_less}
use Rattle.merging.specs.Offers.{log_less}

-- ---- working rows

pub work_trans : (a b c : Row) → work_less a b ≡ true → work_less b c ≡ true → work_less a c ≡ true
unfolding work_less
work_trans a b c = less_transitive (work_key a) (work_key b) (work_key c)

pub work_irrefl : (a : Row) → work_less a a ≡ true → ⊥
unfolding work_less
work_irrefl a t = clash t (less_irreflexive (work_key a))

-- rows of another author or sequence are ordered one way or the other
pub work_total : (a b : Row) → (a.author ≡ b.author → a.seq ≡ b.seq → ⊥) → work_less a b ≡ false → work_less b a ≡ true
unfolding work_less work_key stamp_key
work_total a b differ f = elim (test (work_less b a)) [
  | inl t ↦ t
  | inr g ↦
      let e : work_key a ≡ work_key b = less_total (work_key a) (work_key b) refl f g in
      absurd (differ (cc) (cc))
]

-- ---- the log

pub log_below : (r s : Row) → stamp_less r.stamp s.stamp ≡ true → log_less r s ≡ true
unfolding log_less
log_below r s h = rw h

pub log_level : (r s : Row) → r.stamp ≡ s.stamp → s.seq < r.seq → log_less r s ≡ true
unfolding log_less
log_level r s e h = rw (e, stamp_irreflexive s.stamp) (omega (arith, le-leb))

pub log_cases : (r s : Row) → log_less r s ≡ true → (stamp_less r.stamp s.stamp ≡ true) ⊎ ((r.stamp ≡ s.stamp) × (s.seq < r.seq))
unfolding log_less
log_cases r s t = elim (test (stamp_less r.stamp s.stamp)) [
  | inl h ↦ inl h
  | inr h ↦ elim (test (stamp_less s.stamp r.stamp)) [
    | inl k ↦ absurd (clash (rw (h, k) at t) refl)
    | inr k ↦
        let u = rw (h, k) at t in
        inr (stamp_total r.stamp s.stamp h k, omega (arith, leb-true))
  ]
]

pub log_trans : (a b c : Row) → log_less a b ≡ true → log_less b c ≡ true → log_less a c ≡ true
log_trans a b c t u = elim (log_cases a b t) [
  | inl h ↦ elim (log_cases b c u) [
    | inl k ↦ log_below a c (stamp_transitive a.stamp b.stamp c.stamp h k)
    | inr k ↦ log_below a c (rw k.0 at h)
  ]
  | inr h ↦ elim (log_cases b c u) [
    | inl k ↦ log_below a c (rw (← h.0) at k)
    | inr k ↦ log_level a c (h.0 ∙ k.0) (omega arith)
  ]
]

pub log_irrefl : (a : Row) → log_less a a ≡ true → ⊥
log_irrefl a t = elim (log_cases a a t) [ inl h ↦ clash h (stamp_irreflexive a.stamp) | inr h ↦ omega arith ]

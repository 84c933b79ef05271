-- Sending as the Rust arranges it (specs/SendRule): a later physical time, the next counter, no counter left.
use Prim.Native.Nat.{ℕ, ◌+◌, ◌<◌, ◌≤◌}
use mathlib.Core.Path.{◌≡◌, refl, sym}
use mathlib.Core.Logic.{inl, inr}
use native.Mathlib.Omega.{arith}
use lib.Dec.{ltb}
use borrow.Author.Tests.{ltb-true, ltb-false}
use Rattle.words.proofs.Words.{test}
use Rattle.error.specs.declared.Refusal.TheVariants.{CounterOverflow}
use Rattle.error.specs.Answer.{done, ends, refused}
use Rattle.clock.specs.Hybrid.{hlc_of, stamp_of_event, moved_to, now_call}
use Rattle.clock.specs.SendRule.{now_as_rust, SendsByLines, SendsAsRust}
use Rattle.clock.specs.Hlc.{send_event, send_l, send_c}
use Rattle.clock.specs.declared.hybrid.HybridClock.{HybridClock}
use Rattle.clock.proofs.HybridLaws.{max_left, max_right, wall_stayed, wall_moved, now_moved, now_over}

module _ (j : HybridClock) (pt : ℕ) where
  pub now_later : j.last_wall < pt → now_call j pt ≡ record { answer = done (stamp_of_event j (record { l = pt; c = 0 })); left = moved_to j (record { l = pt; c = 0 }) }
  now_later h =
      now_moved j pt pt 0 (sym (max_right j.last_wall pt h)) (sym (wall_moved (hlc_of j) pt (λ e. omega arith))) (omega arith)

  module _ (h : pt ≤ j.last_wall) where
    pub now_next : j.last_counter < 4294967295
        → now_call j pt ≡ record { answer = done (stamp_of_event j (record { l = j.last_wall; c = j.last_counter + 1 })); left = moved_to j (record { l = j.last_wall; c = j.last_counter + 1 }) }
    now_next k =
        now_moved j pt j.last_wall (j.last_counter + 1) (sym (max_left j.last_wall pt h)) (sym (wall_stayed (hlc_of j) j.last_wall refl))
        (omega arith)

    pub now_spent : 4294967295 ≤ j.last_counter → now_call j pt ≡ ends (refused CounterOverflow) j
    now_spent k =
        now_over j pt j.last_wall (j.last_counter + 1) (sym (max_left j.last_wall pt h)) (sym (wall_stayed (hlc_of j) j.last_wall refl))
        (omega arith)

pub now_full : (j : HybridClock) (pt : ℕ) → pt ≤ j.last_wall → j.last_counter ≡ 4294967295 → now_call j pt ≡ record { answer = refused CounterOverflow; left = j }
now_full j pt h k = now_spent j pt h (omega arith)

pub sends_by_lines : SendsByLines
unfolding send_event send_l send_c
sends_by_lines j pt = refl

pub sends_as_rust : SendsAsRust
unfolding now_as_rust
sends_as_rust j pt = elim (test (ltb j.last_wall pt)) [
  | inl e ↦ rw e (now_later j pt (ltb-true _ _ e))
  | inr e ↦
      let h : pt ≤ j.last_wall = ltb-false _ _ e in
      elim (test (ltb j.last_counter 4294967295)) [
        | inl f ↦ rw (e, f) (now_next j pt h (ltb-true _ _ f))
        | inr f ↦ rw (e, f) (now_spent j pt h (ltb-false _ _ f))
      ]
]

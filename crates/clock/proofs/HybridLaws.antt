-- What each answer of a hybrid clock's calls comes to, a law for each outcome.
use Prim.Native.Nat.{ℕ, ◌+◌, ◌<◌, ◌≤◌, max, min}
use mathlib.Core.Path.{◌≡◌, sym, ap, ◌∙◌}
use native.Mathlib.Omega.{arith}
use lib.Dec.{ltb}
use borrow.Author.Tests.{ltb-true, ltb-false, lt-ltb, le-ltb, le-leb, lt-leb, eq-eqb, ne_eqb}
use mathlib.Core.Logic.{inl, inr}
use Rattle.words.proofs.Words.{test}
use Rattle.error.specs.declared.Refusal.TheVariants.{CounterOverflow, RemoteAhead}
use Rattle.error.specs.Answer.{done, refused, nothing}
use Rattle.clock.specs.Hlc.{Hlc, greater, send_c, send_event, receive_l, receive_c, receive_event}
use Rattle.clock.specs.Hybrid.{hlc_of, stamp_hlc, moved_to, stamped_at, issue_at, now_call, receive_at, update_call}
use Rattle.clock.specs.declared.stamp.Timestamp.{Timestamp}
use Rattle.clock.specs.declared.hybrid.HybridClock.{HybridClock}
use Rattle.words.specs.Choice.{saturating}

-- the greater of two
pub max_right : (a b : ℕ) → a < b → greater a b ≡ b
unfolding greater
max_right a b h = rw (lt-ltb a b h)

pub max_left : (a b : ℕ) → b ≤ a → greater a b ≡ a
unfolding greater
max_left a b h = rw (le-ltb a b h)

pub max_greater : (a b : ℕ) → max a b ≡ greater a b
max_greater a b =
    elim (test (ltb a b)) [
      | inl h ↦ omega (arith, max_right a b (ltb-true a b h), ltb-true a b h)
      | inr h ↦ omega (arith, max_left a b (ltb-false a b h), ltb-false a b h)
    ]

-- one of the two
pub max_below : (a b n : ℕ) → n ≡ greater a b → n ≤ a + b
unfolding greater
max_below a b n e = elim (test (ltb a b)) [ inl h ↦ omega (arith, rw h at e) | inr h ↦ omega (arith, rw h at e) ]

-- a saturating sum
pub sum_fits : (a b : ℕ) → a + b < 18446744073709551616 → saturating a b ≡ a + b
unfolding saturating
sum_fits a b h = rw (lt-ltb (a + b) 18446744073709551616 h)

pub sum_full : (a b : ℕ) → 18446744073709551616 ≤ a + b → saturating a b ≡ 18446744073709551615
unfolding saturating
sum_full a b h = rw (le-ltb (a + b) 18446744073709551616 h)

pub min_saturating : (a b : ℕ) → min (a + b) 18446744073709551615 ≡ saturating a b
min_saturating a b =
    elim (test (ltb (a + b) 18446744073709551616)) [
      | inl h ↦ omega (arith, sum_fits a b (ltb-true (a + b) 18446744073709551616 h), ltb-true (a + b) 18446744073709551616 h)
      | inr h ↦ omega (arith, sum_full a b (ltb-false (a + b) 18446744073709551616 h), ltb-false (a + b) 18446744073709551616 h)
    ]

-- the counter after a send
module _ (j : Hlc) (l : ℕ) where
  pub wall_stayed : l ≡ j.l → send_c j l ≡ j.c + 1
  unfolding send_c
  wall_stayed p = rw (eq-eqb l j.l p)

  pub wall_moved : (l ≡ j.l → ⊥) → send_c j l ≡ 0
  unfolding send_c
  wall_moved p = rw (ne_eqb l j.l p)

-- sending, at what the code has computed: the wall and the counter
module _ (j : HybridClock) (pt wall counter : ℕ) (w : wall ≡ greater j.last_wall pt) (n : counter ≡ send_c (hlc_of j) wall) where
  sent : send_event (hlc_of j) pt ≡ record { l = wall; c = counter }
  unfolding send_event send_c
  sent = λ i. record { l = sym w i; c = (ap (send_c (hlc_of j)) (sym w) ∙ sym n) i }

  pub now_moved : counter < 4294967296 → now_call j pt ≡ stamped_at j (record { l = wall; c = counter })
  unfolding now_call issue_at
  now_moved k = rw (sent, lt-ltb counter 4294967296 k)

  pub now_over : 4294967296 ≤ counter → now_call j pt ≡ record { answer = refused CounterOverflow; left = j }
  unfolding now_call issue_at
  now_over k = rw (sent, le-ltb counter 4294967296 k)

-- the counter after a remote stamp
module _ (j m : Hlc) (l : ℕ) where
  pub counter_both : l ≡ j.l → l ≡ m.l → receive_c j m l ≡ greater j.c m.c + 1
  unfolding receive_c
  counter_both p q = rw (eq-eqb l j.l p, eq-eqb l m.l q)

  pub counter_own : l ≡ j.l → (l ≡ m.l → ⊥) → receive_c j m l ≡ j.c + 1
  unfolding receive_c
  counter_own p q = rw (eq-eqb l j.l p, ne_eqb l m.l q)

  pub counter_remote : (l ≡ j.l → ⊥) → l ≡ m.l → receive_c j m l ≡ m.c + 1
  unfolding receive_c
  counter_remote p q = rw (ne_eqb l j.l p, eq-eqb l m.l q)

  pub counter_none : (l ≡ j.l → ⊥) → (l ≡ m.l → ⊥) → receive_c j m l ≡ 0
  unfolding receive_c
  counter_none p q = rw (ne_eqb l j.l p, ne_eqb l m.l q)

-- receiving, at what the code has computed: the bound, the walls and the counter
module _ (j : HybridClock) (m : Timestamp) (pt bound : ℕ) (b : bound ≡ saturating pt j.max_drift_ms) where
  pub update_ahead : bound < m.wall_time → update_call j m pt ≡ record { answer = refused (RemoteAhead m.wall_time pt); left = j }
  unfolding update_call
  update_ahead h = rw (← b, lt-leb m.wall_time bound h)

  module _ (wide wall counter : ℕ) (w : wide ≡ greater j.last_wall m.wall_time) (v : wall ≡ greater wide pt)
      (n : counter ≡ receive_c (hlc_of j) (stamp_hlc m) wall) (h : m.wall_time ≤ bound) where
    received : receive_event (hlc_of j) (stamp_hlc m) pt ≡ record { l = wall; c = counter }
    unfolding receive_event receive_l
    received = rw (← w, ← v, ← n)

    pub update_moved : counter < 4294967296 → update_call j m pt ≡ record { answer = done nothing; left = moved_to j (record { l = wall; c = counter }) }
    unfolding update_call receive_at
    update_moved k = rw (← b, le-leb m.wall_time bound h, received, lt-ltb counter 4294967296 k)

    pub update_full : 4294967296 ≤ counter → update_call j m pt ≡ record { answer = refused CounterOverflow; left = j }
    unfolding update_call receive_at
    update_full k = rw (← b, le-leb m.wall_time bound h, received, le-ltb counter 4294967296 k)

-- A clock's stamps rise: issuing and receiving move it on, so that no stamp of its history is past it.
use Prim.Native.Nat.{ℕ, ◌^◌, ◌<◌, ◌≤◌}
use mathlib.Core.Path.{◌≡◌, refl, sym, ap, subst}
use mathlib.Core.Bool.{true, false}
use mathlib.Core.List.Memᴰ
use mathlib.Core.List.{List, [], ◌∷◌, Memᴰ}
use mathlib.Core.Logic.{◌⊎◌, inl, inr}
use native.Mathlib.Omega.{arith}
use lib.Dec.{ltb, leb, eqb}
use borrow.Author.Tests.{ltb-true, ltb-false, eqb-true, eqb-false, lt-ltb, eq-eqb, ne_eqb}
use Rattle.words.proofs.Words.{test}
use Rattle.error.specs.Answer.{done}
use Rattle.clock.specs.Order.{less, stamp_key, stamp_less}
use Rattle.clock.specs.Hlc.{Hlc, greater, send_l, send_c, send_event, receive_l, receive_c, receive_event}
use Rattle.clock.specs.Hybrid.{hlc_of, stamp_hlc, stamp_of_event, now_call, issue_at, update_call, receive_at}
use Rattle.clock.specs.Monotone.{Event, History, step, run, IssuedGreater}
use Rattle.clock.specs.Monotone.Event.{issue, receive, drift}
use Rattle.clock.specs.declared.stamp.Timestamp.{Timestamp}
use Rattle.clock.specs.declared.hybrid.HybridClock.{HybridClock}
use Rattle.words.specs.Choice.{saturating}

-- one (l, c) comes before another, or is no later
abbrev pub Before : Hlc → Hlc → Type 0
Before a b = (a.l < b.l) ⊎ ((a.l ≡ b.l) × (a.c < b.c))

abbrev pub UpTo : Hlc → Hlc → Type 0
UpTo a b = (a.l < b.l) ⊎ ((a.l ≡ b.l) × (a.c ≤ b.c))

up_to_before : (a b e : Hlc) → UpTo a b → Before b e → Before a e
up_to_before a b e (inl h) (inl k) = inl (omega arith)
up_to_before a b e (inl h) (inr k) = inl (omega arith)
up_to_before a b e (inr h) (inl k) = inl (omega arith)
up_to_before a b e (inr h) (inr k) = inr (omega arith, omega arith)

pub before_up_to : (a b : Hlc) → Before a b → UpTo a b
before_up_to a b (inl h) = inl h
before_up_to a b (inr h) = inr (h.0, omega arith)

-- the greater of two is none below either
max_least : (a b : ℕ) → (a ≤ greater a b) × (b ≤ greater a b)
unfolding greater
max_least a b = elim (test (ltb a b)) [
  | inl h ↦ rw h (omega (arith, ltb-true a b h), omega arith)
  | inr h ↦ rw h (omega arith, ltb-false a b h)
]

-- sending moves a clock on
pub send_rises : (j : Hlc) (pt : ℕ) → Before j (send_event j pt)
unfolding send_event send_l send_c
send_rises j pt =
    let m : ℕ = greater j.l pt in
    elim (test (eqb m j.l)) [
      | inl h ↦ rw h (inr (sym (eqb-true m j.l h), omega arith))
      | inr h ↦ rw h (inl (omega (arith, eqb-false m j.l h, max_least j.l pt)))
    ]

-- receiving moves a clock on, and past the message
module _ (j m : Hlc) (pt : ℕ) where
  walls : (j.l ≤ receive_l j m pt) × (m.l ≤ receive_l j m pt)
  unfolding receive_l
  walls = omega (arith, max_least j.l m.l, max_least (greater j.l m.l) pt)

  counter_own : receive_l j m pt ≡ j.l → j.c < receive_c j m (receive_l j m pt)
  unfolding receive_c
  counter_own p =
      let q : eqb (receive_l j m pt) j.l ≡ true = eq-eqb _ _ p in
      elim (test (eqb (receive_l j m pt) m.l)) [
        | inl h ↦ rw (q, h) (omega (arith, max_least j.c m.c))
        | inr h ↦ rw (q, h) (omega arith)
      ]

  counter_remote : receive_l j m pt ≡ m.l → m.c < receive_c j m (receive_l j m pt)
  unfolding receive_c
  counter_remote p =
      let q : eqb (receive_l j m pt) m.l ≡ true = eq-eqb _ _ p in
      elim (test (eqb (receive_l j m pt) j.l)) [
        | inl h ↦ rw (q, h) (omega (arith, max_least j.c m.c))
        | inr h ↦ rw (q, h) (omega arith)
      ]

  pub receive_rises : Before j (receive_event j m pt)
  unfolding receive_event
  receive_rises =
      elim (test (eqb (receive_l j m pt) j.l)) [
        | inl h ↦ inr (sym (eqb-true _ _ h), counter_own (eqb-true _ _ h))
        | inr h ↦ inl (omega (arith, eqb-false (receive_l j m pt) j.l h, walls))
      ]

  pub receive_passes : Before m (receive_event j m pt)
  unfolding receive_event
  receive_passes =
      elim (test (eqb (receive_l j m pt) m.l)) [
        | inl h ↦ inr (sym (eqb-true _ _ h), counter_remote (eqb-true _ _ h))
        | inr h ↦ inl (omega (arith, eqb-false (receive_l j m pt) m.l h, walls))
      ]

lt_eqb : (a b : ℕ) → a < b → eqb a b ≡ false
lt_eqb a b h = ne_eqb a b (λ e. omega arith)

-- what comes before is less as a stamp, whoever the authors are
pub before_less : (s t : Timestamp) → Before (stamp_hlc s) (stamp_hlc t) → stamp_less s t ≡ true
unfolding stamp_less stamp_key less
before_less s t (inl h) = rw (lt_eqb s.wall_time t.wall_time h) (lt-ltb _ _ h)
before_less s t (inr h) =
    rw (eq-eqb s.wall_time t.wall_time h.0, lt_eqb s.logical_counter t.logical_counter h.1) (lt-ltb _ _ h.1)

-- no stamp of a history is past its clock
abbrev pub Reached : History → Type 0
Reached h = (s : Timestamp) → Memᴰ s h.seen → UpTo (stamp_hlc s) (hlc_of h.clock)

-- issuing and receiving keep that so, each also where it refuses
issue_keeps : (h : History) (pt : ℕ) → Reached h → Reached (step h (issue pt))
unfolding step now_call issue_at
issue_keeps h pt r s =
    let j : Hlc = hlc_of h.clock in
    elim (test (ltb (send_event j pt).c (2 ^ 32))) [
      | inl e ↦ rw e (λ m. elim (Memᴰ.cases_cons m) [
        | inl p ↦ rw p (inr (refl, omega arith))
        | inr n ↦ before_up_to _ _ (up_to_before (stamp_hlc s) j (send_event j pt) (r s n) (send_rises j pt))
      ])
      | inr e ↦ rw e (r s)
    ]

receive_keeps : (h : History) (x : Timestamp) (pt : ℕ) → Reached h → Reached (step h (receive x pt))
unfolding step update_call receive_at
receive_keeps h x pt r s =
    let j : Hlc = hlc_of h.clock in
    let k : Hlc = receive_event j (stamp_hlc x) pt in
    elim (test (leb x.wall_time (saturating pt h.clock.max_drift_ms))) [
      | inl d ↦
          elim (test (ltb k.c (2 ^ 32))) [
            | inl e ↦ rw (d, e) (λ m. elim (Memᴰ.cases_cons m) [
              | inl p ↦ rw p (before_up_to _ _ (receive_passes j (stamp_hlc x) pt))
              | inr n ↦ before_up_to _ _ (up_to_before (stamp_hlc s) j k (r s n) (receive_rises j (stamp_hlc x) pt))
            ])
            | inr e ↦ rw (d, e) (r s)
          ]
      | inr d ↦ rw d (r s)
    ]

step_keeps : (h : History) (e : Event) → Reached h → Reached (step h e)
unfolding step
step_keeps h (issue pt) r = issue_keeps h pt r
step_keeps h (receive m pt) r = receive_keeps h m pt r
step_keeps h (drift ms) r = r

-- so it stays, through any events
pub run_keeps : (h : History) (es : List Event) → Reached h → Reached (run h es)
unfolding run
run_keeps h [] r = r
run_keeps h (e ∷ es) r = run_keeps (step h e) es (step_keeps h e r)

-- a stamp is issued at the paper's send event
issued_at : (j : HybridClock) (pt : ℕ) (t : Timestamp) → (now_call j pt).answer ≡ done t → stamp_hlc t ≡ send_event (hlc_of j) pt
unfolding now_call issue_at
issued_at j pt t =
    let k : Hlc = send_event (hlc_of j) pt in
    elim (test (ltb k.c (2 ^ 32))) [
      | inl e ↦ rw e (λ a. let q : stamp_of_event j k ≡ t = cc in ap stamp_hlc (sym q))
      | inr e ↦ rw e (λ a. let z : ◌≡◌ {A = ℕ} 0 1 = cc in absurd (omega arith))
    ]

-- and is greater than every stamp that the clock has reached
pub issued_past : (j : HybridClock) (pt : ℕ) (t s : Timestamp) → UpTo (stamp_hlc s) (hlc_of j) → (now_call j pt).answer ≡ done t → stamp_less s t ≡ true
issued_past j pt t s r a =
    let b : Before (stamp_hlc s) (send_event (hlc_of j) pt) = up_to_before (stamp_hlc s) (hlc_of j) (send_event (hlc_of j) pt) r (send_rises (hlc_of j) pt) in
    before_less s t (subst (λ (e : Hlc). Before (stamp_hlc s) e) (sym (issued_at j pt t a)) b)

pub issued_greater : IssuedGreater
issued_greater j es pt t a s m =
    let h : History = record { clock = j; seen = [] } in
    issued_past (run h es).clock pt t s (run_keeps h es (λ s n. absurd (Memᴰ.not-nil n)) s m) a

-- What grown entries tell of each author, how long they are, and what covering says.
use Prim.Native.Nat.{ℕ, suc, ◌+◌, ◌≤◌, ◌<◌, max}
use mathlib.Core.Path.{◌≡◌, refl, sym, ◌∙◌, ap}
use mathlib.Core.Bool.{Bool, true, false}
use mathlib.Core.Logic.{inl, inr}
use mathlib.Core.List.{List, [], ◌∷◌}
use native.Mathlib.Omega.{arith}
use lib.Dec.{eqb, ltb, leb}
use lib.ListN.{length}
use borrow.Author.Tests.{eqb-true, eqb-false, ltb-true, ltb-false, leb-true, le-leb, ne_eqb, eq-eqb}
use Rattle.words.specs.Choice.{pick}
use Rattle.words.proofs.Words.{test}
use Rattle.words.proofs.Conjunction.{and_left, and_right, and_both}
use Rattle.clock.specs.Entries.{get, put, observe, enter, increment, merge, dominates}
use Rattle.clock.specs.FidgeMattern.{◌⊑◌}
use Rattle.clock.proofs.RisingAuthors.{Rises, none, more}

-- an author below the first is absent
pub absent : {lo : ℕ} {es : List (ℕ × ℕ)} (x : ℕ) → x < lo → Rises lo es → get es x ≡ 0
unfolding get
absent x h none = refl
absent x h (more {a = a} k r) =
    let e : eqb a x ≡ false = ne_eqb a x (λ q. omega arith) in
    rw e (absent x (omega arith) r)

by : (a n b m x : ℕ) (es ds : List (ℕ × ℕ)) (e l : Bool) → eqb b a ≡ e → get ds x ≡ pick (eqb a x) n (get es x)
    → get (pick e ((a, n) ∷ es) (pick l ((a, n) ∷ (b, m) ∷ es) ((b, m) ∷ ds))) x ≡ pick (eqb a x) n (pick (eqb b x) m (get es x))
unfolding get
by a n b m x es ds true l e i =
    let z : b ≡ a = eqb-true b a e in
    elim (test (eqb a x)) [ inl h ↦ rw h | inr h ↦ rw (z, h) ]
by a n b m x es ds false true e i = refl
by a n b m x es ds false false e i =
    elim (test (eqb b x)) [
      | inl h ↦
          let f : eqb a x ≡ false = ne_eqb a x (λ q. eqb-false b a e (eqb-true b x h ∙ sym q)) in
          rw (h, f)
      | inr h ↦ rw h i
    ]

pub get_put : (es : List (ℕ × ℕ)) (a n x : ℕ) → get (put es a n) x ≡ pick (eqb a x) n (get es x)
unfolding put get
get_put [] a n x = refl
get_put ((b, m) ∷ es) a n x = by a n b m x es (put es a n) (eqb b a) (ltb a b) refl (get_put es a n x)

pub get_observe : (es : List (ℕ × ℕ)) (a n x : ℕ) → get (observe es a n) x ≡ pick (eqb a x) (max (get es x) n) (get es x)
unfolding observe
get_observe es a n x =
    elim (test (eqb a x)) [
      | inl e ↦
          let z : a ≡ x = eqb-true a x e in
          elim (test (ltb (get es a) n)) [
            | inl h ↦ rw (h, get_put es a n x, e) (let k : get es x < n = rw z at (ltb-true (get es a) n h) in omega arith)
            | inr h ↦ rw (h, e) (let k : n ≤ get es x = rw z at (ltb-false (get es a) n h) in omega arith)
          ]
      | inr e ↦ elim (test (ltb (get es a) n)) [ inl h ↦ rw (h, get_put es a n x, e) | inr h ↦ rw (h, e) ]
    ]

-- an author that is present, put with its own number
put_own : {lo : ℕ} (es : List (ℕ × ℕ)) (a : ℕ) → Rises lo es → 0 < get es a → put es a (get es a) ≡ es
unfolding put get
put_own [] a r h = absurd (omega arith)
put_own ((b, m) ∷ es) a (more k r) h =
    elim (test (eqb b a)) [
      | inl e ↦ let z : b ≡ a = eqb-true b a e in rw (e, z)
      | inr e ↦
          let g : 0 < get es a = rw e at h in
          let l : ltb a b ≡ false = elim (test (ltb a b)) [ inl l ↦ absurd (omega (arith, absent a (omega (arith, ltb-true a b l)) r)) | inr l ↦ l ] in
          rw (e, l) (ap (λ (t : List (ℕ × ℕ)). (b, m) ∷ t) (put_own es a r g))
    ]

-- where there is something to observe, it is entered
pub observe_enter : (es : List (ℕ × ℕ)) (a n : ℕ) {lo : ℕ} → Rises lo es → 0 < n → observe es a n ≡ enter es a n
unfolding observe enter
observe_enter es a n r h =
    elim (test (ltb (get es a) n)) [
      | inl l ↦ let z : max (get es a) n ≡ n = omega (arith, ltb-true (get es a) n l) in rw (l, z)
      | inr l ↦
          let z : max (get es a) n ≡ get es a = omega (arith, ltb-false (get es a) n l) in
          rw (l, z) (sym (put_own es a r (omega (arith, ltb-false (get es a) n l))))
    ]

pub get_increment : (es : List (ℕ × ℕ)) (a x : ℕ) → get (increment es a) x ≡ pick (eqb a x) (get es x + 1) (get es x)
unfolding increment
get_increment es a x =
    elim (test (eqb a x)) [
      | inl e ↦
          let z : a ≡ x = eqb-true a x e in
          rw (get_put es a (get es a + 1) x, e, z)
      | inr e ↦ rw (get_put es a (get es a + 1) x, e)
    ]

pub get_merge : (us vs : List (ℕ × ℕ)) (x : ℕ) {lo : ℕ} → Rises lo vs → get (merge us vs) x ≡ max (get us x) (get vs x)
unfolding merge get
get_merge us [] x r = omega arith
get_merge us ((a, n) ∷ vs) x (more k r) =
    get_merge (observe us a n) vs x r
    ∙ rw (get_observe us a n x)
    (elim (test (eqb a x)) [
      | inl e ↦
          let z : a ≡ x = eqb-true a x e in
          let o : get vs x ≡ 0 = absent x (omega arith) r in
          rw e (omega arith)
      | inr e ↦ rw e
    ])

-- lengths
length_by : (a n b m : ℕ) (es ds : List (ℕ × ℕ)) (e l : Bool) → length es ≤ length ds → length ds ≤ suc (length es)
    → (suc (length es) ≤ length (pick e ((a, n) ∷ es) (pick l ((a, n) ∷ (b, m) ∷ es) ((b, m) ∷ ds)))) × (length (pick e ((a, n) ∷ es) (pick l ((a, n) ∷ (b, m) ∷ es) ((b, m) ∷ ds))) ≤ suc (suc (length es)))
length_by a n b m es ds true l h k = (omega arith, omega arith)
length_by a n b m es ds false true h k = (omega arith, omega arith)
length_by a n b m es ds false false h k = (omega arith, omega arith)

put_lengths : (es : List (ℕ × ℕ)) (a n : ℕ) → (length es ≤ length (put es a n)) × (length (put es a n) ≤ suc (length es))
unfolding put
put_lengths [] a n = (omega arith, omega arith)
put_lengths ((b, m) ∷ es) a n =
    length_by a n b m es (put es a n) (eqb b a) (ltb a b) (put_lengths es a n).0 (put_lengths es a n).1

pub put_longer : (es : List (ℕ × ℕ)) (a n : ℕ) → length es ≤ length (put es a n)
put_longer es a n = (put_lengths es a n).0

pub put_one : (es : List (ℕ × ℕ)) (a n : ℕ) → length (put es a n) ≤ length es + 1
put_one es a n = omega (arith, (put_lengths es a n).1)

pub observe_longer : (es : List (ℕ × ℕ)) (a n : ℕ) → length es ≤ length (observe es a n)
unfolding observe
observe_longer es a n = elim (test (ltb (get es a) n)) [ inl h ↦ rw h (put_longer es a n) | inr h ↦ rw h (omega arith) ]

pub observe_one : (es : List (ℕ × ℕ)) (a n : ℕ) → length (observe es a n) ≤ length es + 1
unfolding observe
observe_one es a n = elim (test (ltb (get es a) n)) [ inl h ↦ rw h (put_one es a n) | inr h ↦ rw h (omega arith) ]

pub merge_longer : (us vs : List (ℕ × ℕ)) → length us ≤ length (merge us vs)
unfolding merge
merge_longer us [] = omega arith
merge_longer us ((a, n) ∷ vs) = omega (arith, observe_longer us a n, merge_longer (observe us a n) vs)

-- covering is Fidge's and Mattern's order
pub covers_below : (us vs : List (ℕ × ℕ)) → dominates us vs ≡ true → get vs ⊑ get us
unfolding dominates get
covers_below us [] h = record { each = λ x. omega arith }
covers_below us ((a, n) ∷ vs) h = record {
  each = λ x.
      elim (test (eqb a x)) [
        | inl e ↦
            let z : a ≡ x = eqb-true a x e in
            rw e (rw z at (leb-true n (get us a) (and_left _ _ h)))
        | inr e ↦ rw e ((covers_below us vs (and_right (leb n (get us a)) _ h)).each x)
      ];
}

pub below_covers : (us vs : List (ℕ × ℕ)) {lo : ℕ} → Rises lo vs → get vs ⊑ get us → dominates us vs ≡ true
unfolding dominates get
below_covers us [] r h = refl
below_covers us ((a, n) ∷ vs) (more k r) h =
    and_both _ _ (le-leb n (get us a) (first (h.each a))) (below_covers us vs r (record { each = λ x. rest x }))
  where
    first : get ((a, n) ∷ vs) a ≤ get us a → n ≤ get us a
    first p = rw (eq-eqb a a refl) at p

    rest : (x : ℕ) → get vs x ≤ get us x
    rest x =
        elim (test (eqb a x)) [
          | inl e ↦
              let z : a ≡ x = eqb-true a x e in
              omega (arith, absent x (omega arith) r)
          | inr e ↦ rw e at (h.each x)
        ]

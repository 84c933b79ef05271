-- Laws of lists of nonces: zeros in the unused places, one more, one less, and a search.
use Prim.Native.Nat.{ℕ, suc, ◌+◌, ◌-◌, ◌≤◌, ◌<◌}
use mathlib.Core.Path.{◌≡◌, refl, sym, ◌∙◌, ap}
use mathlib.Core.Bool.{Bool, true}
use mathlib.Core.List.{List, [], ◌∷◌, ◌++◌, append-nil}
use mathlib.Core.Logic.{inl, inr}
use native.Mathlib.Omega.{arith}
use lib.Dec.{eqb, ltb}
use lib.ListN.{length, take, drop, get_or, set, replicate, length-append, length-drop, drop_of_length-le}
use lib.Seq.{drop-cons, drop_at, take-add, take_all, take-take, append_snoc, set-append_seam, length-take-le, drop-append-le}
use borrow.Author.Tests.{ltb-true, lt-ltb, le-ltb}
use borrow.Rule.Slice.PartMut.{put_mid}
use Rattle.std.specs.Prelude.{Option, Some, None}
use Rattle.std.specs.List.{copy_within, position, position_or_len}
use Rattle.std.specs.Option.{is_some}
use Rattle.std.proofs.lemmas.Bool.{cases_Bool}
use Rattle.std.proofs.lemmas.List.Edits.{take-paste}
use Rattle.words.specs.Areas.{pad}
use Rattle.words.proofs.Words.{lt_or_le}
use Rattle.peer.specs.declared.Pings.{Pings}
use Rattle.peer.specs.Peers.{nonces, pings_of, push, contains, remove}
use Rattle.peer.specs.Inside.NoncePlaces.{without}

push_room : (ns : List ℕ) (n : ℕ) → length ns < 8 → push ns n ≡ ns ++ (n ∷ [])
unfolding push
push_room ns n h = rw (lt-ltb (length ns) 8 h)

push_full : (ns : List ℕ) (n : ℕ) → length ns ≡ 8 → push ns n ≡ drop 1 ns ++ (n ∷ [])
unfolding push
push_full ns n h = rw (le-ltb (length ns) 8 (omega arith)) (drop-append-le 1 ns (n ∷ []) (omega arith))

set_pad : (ns : List ℕ) (n : ℕ) → length ns < 8 → set (pad 8 ns) (length ns) n ≡ pad 8 (ns ++ (n ∷ []))
unfolding pad
set_pad ns n h =
    let e : 8 - length ns ≡ suc (8 - length (ns ++ (n ∷ []))) = simp length-append (omega arith) in
    rw e (set-append_seam ns 0 (replicate (8 - length (ns ++ (n ∷ []))) 0) n ∙ sym (append_snoc ns n (replicate (8 - length (ns ++ (n ∷ []))) 0)))

-- eight nonces fill the list
pad_full : (ns : List ℕ) → length ns ≡ 8 → pad 8 ns ≡ ns
unfolding pad
pad_full ns h = rw h (append-nil ns)

-- seven nonces move down, and n takes the last place
moved_out : (ns : List ℕ) (n : ℕ) → length ns ≡ 8 → set (copy_within ns 1 8 0) 7 n ≡ drop 1 ns ++ (n ∷ [])
moved_out ns n h =
    let l : length (drop 1 ns) ≡ 7 = length-drop 1 ns ∙ omega arith in
    let d : drop 8 ns ≡ [] = drop_of_length-le ns {i = 8} (omega arith) in
    rw (take_all 7 (drop 1 ns) (omega arith), drop-cons ns 7 0 (omega arith), d)
    (ap (λ (k : ℕ). set (drop 1 ns ++ (get_or ns 7 0 ∷ [])) k n) (sym l) ∙ set-append_seam (drop 1 ns) (get_or ns 7 0) [] n)

pub pushed : (ns : List ℕ) (q : Pings) (n : ℕ) → q ≡ pings_of ns → q.count < 8
    → record { nonces = set q.nonces q.count n; count = q.count + 1 } ≡ pings_of (push ns n)
unfolding pings_of
pushed ns q n e h =
    let l : length ns < 8 = rw e at h in
    let c : length ns + 1 ≡ length (ns ++ (n ∷ [])) = sym (length-append ns (n ∷ [])) in
    rw (e, push_room ns n l) (λ i. record { nonces = set_pad ns n l i; count = c i })

pub pushed_out : (ns t : List ℕ) (q : Pings) (n : ℕ) → length ns ≤ 8 → q ≡ pings_of ns → 8 ≤ q.count → t ≡ copy_within q.nonces 1 8 0
    → record { nonces = set t 7 n; count = q.count } ≡ pings_of (push ns n)
unfolding pings_of
pushed_out ns t q n few e h f =
    let k : 8 ≤ length ns = rw e at h in
    let l : length ns ≡ 8 = omega arith in
    let m : length (drop 1 ns ++ (n ∷ [])) ≡ 8 = simp (length-append, length-drop) (omega arith) in
    rw (f, e, push_full ns n l, pad_full ns l, moved_out ns n l, pad_full _ m, m, l)

drop_take : (a n : ℕ) (l : List ℕ) → a ≤ n → a ≤ length l → drop a (take n l) ≡ take (n - a) (drop a l)
drop_take a n l h k =
    let e : n ≡ a + (n - a) = omega arith in
    ap (λ (m : ℕ). drop a (take m l)) e ∙ rw (take-add a (n - a) l) (drop_at (take a l) _ a (length-take-le a l k))

module _ (p : Pings) (l8 : length p.nonces ≡ 8) (few : p.count ≤ 8) where
  pub used : length (nonces p) ≡ p.count
  unfolding nonces
  used = length-take-le p.count p.nonces (omega arith)

  pub tidied : (z : List ℕ) → z ≡ replicate (length (take (8 - p.count) (drop p.count p.nonces))) 0
      → record { nonces = put_mid p.count (8 - p.count) p.nonces z; count = p.count } ≡ pings_of (nonces p)
  unfolding nonces pings_of pad
  tidied z e =
      let l : length (take (8 - p.count) (drop p.count p.nonces)) ≡ 8 - p.count = length-take-le _ _ (simp length-drop (omega arith)) in
      let d : drop (8 - p.count) (drop p.count p.nonces) ≡ [] = drop_of_length-le (drop p.count p.nonces) {i = 8 - p.count} (simp length-drop (omega arith)) in
      rw (e, l, d, append-nil {A = ℕ} (replicate (8 - p.count) 0), used)

  pub removed : (i : ℕ) (t : List ℕ) → i < p.count → t ≡ copy_within p.nonces (i + 1) p.count i
      → pings_of (nonces record { nonces = t; count = p.count - 1 }) ≡ pings_of (without i (nonces p))
  unfolding nonces without
  removed i t h e =
      let a : take i (take p.count p.nonces) ≡ take i p.nonces = take-take i p.count p.nonces (omega arith) in
      let b : drop (i + 1) (take p.count p.nonces) ≡ take (p.count - (i + 1)) (drop (i + 1) p.nonces) =
      drop_take (i + 1) p.count p.nonces (omega arith) (omega arith) in
      let n : p.count - 1 ≡ i + (p.count - (i + 1)) = omega arith in
      ap pings_of (rw (e, n, a, b) (take-paste p.nonces i (drop (i + 1) p.nonces) (p.count - (i + 1)) (omega arith) (simp length-drop (omega arith))))

-- where a nonce first stands, the length where it is absent
abbrev place : ℕ → List ℕ → ℕ
place n ns = position_or_len (λ m. eqb m n) ns

ltb_next : (a b : ℕ) → ltb (suc a) (suc b) ≡ ltb a b
ltb_next a b =
    elim (lt_or_le a b) [
      | inl h ↦ lt-ltb (suc a) (suc b) (omega arith) ∙ sym (lt-ltb a b h)
      | inr h ↦ le-ltb (suc a) (suc b) (omega arith) ∙ sym (le-ltb a b h)
    ]

-- a nonce is there where its place is below the length, and goes by its place
contains_place : (n : ℕ) (ns : List ℕ) → contains n ns ≡ ltb (place n ns) (length ns)
unfolding contains
contains_place n [] = refl
contains_place n (m ∷ ns) =
    let e : 1 + place n ns ≡ suc (place n ns) = omega arith in
    elim (cases_Bool (eqb m n)) [
      | inl h ↦ rw h (sym (lt-ltb 0 (suc (length ns)) (omega arith)))
      | inr h ↦ rw (h, e) (contains_place n ns ∙ sym (ltb_next (place n ns) (length ns)))
    ]

remove_place : (n : ℕ) (ns : List ℕ) → remove n ns ≡ without (place n ns) ns
unfolding remove without
remove_place n [] = refl
remove_place n (m ∷ ns) =
    let e : 1 + place n ns ≡ suc (place n ns) = omega arith in
    elim (cases_Bool (eqb m n)) [
      | inl h ↦ rw h refl
      | inr h ↦
          let f : suc (place n ns) + 1 ≡ suc (place n ns + 1) = omega arith in
          rw (h, e, f, remove_place n ns)
    ]

-- what a search for a nonce tells
module _ (ns : List ℕ) (n : ℕ) where
  searched : contains n ns ≡ is_some (position (λ m. eqb m n) ns)
  searched = contains_place n ns ∙ elim (cases_Bool (ltb (place n ns) (length ns))) [ inl h ↦ rw h | inr h ↦ rw h ]

  pub found : (i : ℕ) → position (λ m. eqb m n) ns ≡ Some i → (contains n ns ≡ true) × (i < length ns) × (remove n ns ≡ without i ns)
  found i e =
      elim (cases_Bool (ltb (place n ns) (length ns))) [
        | inl h ↦
            let f : Some (place n ns) ≡ Some i = rw h at e in
            let k : place n ns ≡ i = cc in
            (searched ∙ ap is_some e, rw k at (ltb-true (place n ns) (length ns) h), remove_place n ns ∙ ap (λ (j : ℕ). without j ns) k)
        | inr h ↦ absurd (let f : None ≡ Some i = rw h at e in cc)
      ]

  pub told : (r : Option ℕ) (b : Bool) → r ≡ position (λ m. eqb m n) ns → is_some r ≡ b → contains n ns ≡ b
  told r b e f = searched ∙ rw (← e) f

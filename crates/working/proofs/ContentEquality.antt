-- Equality of contents by value, and the order of keys.
use Prim.Native.Nat.{ℕ, suc, ◌≤◌}
use mathlib.Core.Path.{◌≡◌, refl, sym, ◌∙◌, ap}
use mathlib.Core.Bool.{Bool, true, false, ◌&&◌}
use mathlib.Core.List.{List, [], ◌∷◌}
use native.Mathlib.Omega.{arith}
use lib.Dec.{eqb}
use lib.ListN.{length, take, length-take}
use borrow.Author.Tests.{eq-eqb, ne_eqb, lt-ltb, le-ltb}
use Rattle.clock.specs.Order.{less, stamp_key}
use Rattle.std.specs.Cmp.Lexicographic.{pointwise}
use Rattle.std.proofs.Common.{Option, None, Some, nat_cmp}
use Rattle.std.specs.Ordering.{is_lt, is_some_and, partial_ordering_then}
use Rattle.std.specs.declared.cmp.Ordering.{Ordering}
use Rattle.std.specs.declared.cmp.Ordering.TheVariants.{Less, Equal, Greater}
use Rattle.clock.specs.Vector.{pairs}
use Rattle.clock.proofs.LexicographicOrder.{less_below, less_above, less_level, below, level, above, tri}
use Rattle.row.specs.Rows.{work_key}
use Rattle.row.specs.Values.{deps_of}
use Rattle.row.specs.declared.Deps.{Deps}
use Rattle.replicated_log.specs.Store.{same_entries}
use Rattle.working.specs.Inside.Looks.{ref_row, KeyOf, numbers_of, before_ref}
use Rattle.working.specs.declared.looks.Key.{Key}
use Rattle.working.proofs.ReferenceRows.{value_length}
use Rattle.words.specs.Lists.{same}

and_no : (a b : Bool) → b ≡ false → (a && b) ≡ false
and_no true b e = e
and_no false b e = refl

-- ---- bytes
pub same_is : (p q : List ℕ) → pointwise eqb p q ≡ same p q
unfolding same
same_is [] [] = refl
same_is [] (y ∷ q) = refl
same_is (x ∷ p) [] = refl
same_is (x ∷ p) (y ∷ q) = ap (λ (b : Bool). eqb x y && b) (same_is p q)

-- ---- dependencies
entries_long : (p q : List (ℕ × ℕ)) → (length p ≡ length q → ⊥) → false ≡ same_entries p q
unfolding same_entries
entries_long [] [] h = absurd (h refl)
entries_long [] (y ∷ q) h = refl
entries_long ((a, n) ∷ p) [] h = refl
entries_long ((a, n) ∷ p) ((b, m) ∷ q) h = sym (and_no (eqb a b && eqb n m) _ (sym (entries_long p q (λ e. h (ap suc e)))))

-- columns that are equal one by one are equal as entries
and_apart : (a b c d : Bool) → ((a && b) && (c && d)) ≡ ((a && c) && (b && d))
and_apart true true c d = refl
and_apart true false true d = refl
and_apart true false false d = refl
and_apart false b c d = refl

entries_is : (ks ls ns ms : List ℕ) → length ks ≡ length ns → length ls ≡ length ms
    → (pointwise eqb ks ls && pointwise eqb ns ms) ≡ same_entries (pairs ks ns) (pairs ls ms)
unfolding pairs same_entries
entries_is [] [] [] [] h k = refl
entries_is [] [] (n ∷ ns) ms h k = absurd (omega arith)
entries_is [] [] [] (m ∷ ms) h k = absurd (omega arith)
entries_is [] (l ∷ ls) ns [] h k = absurd (omega arith)
entries_is [] (l ∷ ls) ns (m ∷ ms) h k = refl
entries_is (x ∷ ks) ls [] ms h k = absurd (omega arith)
entries_is (x ∷ ks) [] (n ∷ ns) ms h k = refl
entries_is (x ∷ ks) (l ∷ ls) (n ∷ ns) [] h k = absurd (omega arith)
entries_is (x ∷ ks) (l ∷ ls) (n ∷ ns) (m ∷ ms) h k =
    and_apart (eqb x l) (pointwise eqb ks ls) (eqb n m) (pointwise eqb ns ms)
    ∙ ap (λ (b : Bool). (eqb x l && eqb n m) && b) (entries_is ks ls ns ms (omega arith) (omega arith))

module _ (p q : Deps) (pa : length p.authors ≡ 16) (pn : length p.numbers ≡ 16) (qa : length q.authors ≡ 16) (qn : length q.numbers ≡ 16)
    (fp : p.count ≤ 16) (fq : q.count ≤ 16) where
  pub deps_count : (p.count ≡ q.count → ⊥) → false ≡ same_entries (deps_of p) (deps_of q)
  deps_count h = entries_long (deps_of p) (deps_of q) (λ e. h (sym (value_length p pa pn fp) ∙ e ∙ value_length q qa qn fq))

  pub deps_are : p.count ≡ q.count → (pointwise eqb (take p.count p.authors) (take p.count q.authors) && pointwise eqb (take p.count p.numbers) (take p.count q.numbers))
      ≡ same_entries (deps_of p) (deps_of q)
  unfolding deps_of
  deps_are e =
      rw (← e)
      (entries_is (take p.count p.authors) (take p.count q.authors) (take p.count p.numbers) (take p.count q.numbers)
      (simp length-take (omega arith)) (simp length-take (omega arith)))

-- ---- the derived order of keys, which goes field by field, is that of their numbers
abbrev by : (x y : ℕ) → Option Ordering
by x y = Some (nat_cmp x y)

abbrev is_before : Option Ordering → Bool
is_before o = is_some_and is_lt o

then_equal : (o : Option Ordering) → partial_ordering_then o (Some Equal) ≡ o
then_equal None = refl
then_equal (Some Less) = refl
then_equal (Some Equal) = refl
then_equal (Some Greater) = refl

then_assoc : (o p q : Option Ordering) → partial_ordering_then (partial_ordering_then o p) q ≡ partial_ordering_then o (partial_ordering_then p q)
then_assoc None p q = refl
then_assoc (Some Less) p q = refl
then_assoc (Some Equal) p q = refl
then_assoc (Some Greater) p q = refl

then_less : (x y : ℕ) (xs ys : List ℕ) (o : Option Ordering) → is_before o ≡ less xs ys → is_before (partial_ordering_then (by x y) o) ≡ less (x ∷ xs) (y ∷ ys)
then_less x y xs ys o e = elim (tri x y) [
  | below h ↦ rw (lt-ltb x y h) (sym (less_below x y xs ys h))
  | above h ↦ rw (le-ltb x y (omega arith), ne_eqb x y (λ e. omega arith)) (sym (less_above x y xs ys h))
  | level h ↦ rw (le-ltb x y (omega arith), eq-eqb x y h) (e ∙ sym (less_level x y xs ys h))
]

last_less : (x y : ℕ) → is_before (by x y) ≡ less (x ∷ []) (y ∷ [])
unfolding less
last_less x y = ap is_before (sym (then_equal (by x y))) ∙ then_less x y [] [] (Some Equal) refl

module _ (a b : Key) where
  abbrev stamps : Option Ordering
  stamps =
      partial_ordering_then (by a.stamp.wall_time b.stamp.wall_time)
      (partial_ordering_then (by a.stamp.logical_counter b.stamp.logical_counter) (by a.stamp.actor_id.0 b.stamp.actor_id.0))

  abbrev rows : Option Ordering
  rows = partial_ordering_then (by a.actor.0 b.actor.0) (by a.seq b.seq)

  pub key_order : is_before (partial_ordering_then stamps rows) ≡ less (numbers_of a) (numbers_of b)
  unfolding numbers_of stamp_key
  key_order =
      ap is_before (then_assoc (by a.stamp.wall_time b.stamp.wall_time) _ rows
      ∙ ap (partial_ordering_then (by a.stamp.wall_time b.stamp.wall_time)) (then_assoc (by a.stamp.logical_counter b.stamp.logical_counter) (by a.stamp.actor_id.0 b.stamp.actor_id.0) rows))
      ∙ then_less _ _ _ _ _ (then_less _ _ _ _ _ (then_less _ _ _ _ _ (then_less _ _ _ _ _ (last_less _ _))))

-- ---- tests of a reference by its key
module _ (held batch : List ℕ) (k : ℕ) (key : Key) (o : KeyOf (ref_row held batch k) key) where
  pub key_numbers : numbers_of key ≡ work_key (ref_row held batch k)
  unfolding numbers_of work_key
  key_numbers = rw (o.stamp, o.author, o.seq)

  pub as_before : (b : Bool) (own : Key) → b ≡ less (numbers_of own) (numbers_of key) → b ≡ before_ref own held batch k
  unfolding before_ref
  as_before b own e = rw (← key_numbers) e

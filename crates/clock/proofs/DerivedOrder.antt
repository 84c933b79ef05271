-- The derived comparisons of stamps, which go field by field, are the order of specs/Order.antt.
use Prim.Native.Nat.{ℕ, ◌<◌, ◌≤◌}
use mathlib.Core.Path.{◌≡◌, sym}
use mathlib.Core.Bool.{true, not}
use mathlib.Core.Logic.{◌⊎◌, inl, inr}
use native.Mathlib.Omega.{arith}
use borrow.Author.Tests.{lt-ltb, le-ltb, eq-eqb, ne_eqb}
use Rattle.std.specs.Ordering.{is_lt, is_le, is_some_and, partial_ordering_then, nat_cmp}
use Rattle.std.specs.declared.option.Option.TheVariants.{Some}
use Rattle.std.specs.declared.cmp.Ordering.TheVariants.{Less, Equal, Greater}
use Rattle.clock.specs.Order.{stamp_less, stamp_key, stamp_order, FieldByField}
use Rattle.clock.specs.declared.stamp.Timestamp.{Timestamp}
use Rattle.clock.proofs.LexicographicOrder.{tri, below, level, above, less_first, less_second, less_third, not_first, not_second, not_third, stamp_irreflexive, order_less, order_greater, order_equal}

cmp_below : (x y : ℕ) → x < y → nat_cmp x y ≡ Less
cmp_below x y h = rw (lt-ltb x y h)

cmp_level : (x y : ℕ) → x ≡ y → nat_cmp x y ≡ Equal
cmp_level x y e = rw (le-ltb x y (omega arith), eq-eqb x y e)

cmp_above : (x y : ℕ) → y < x → nat_cmp x y ≡ Greater
cmp_above x y h = rw (le-ltb x y (omega arith), ne_eqb x y (λ e. omega arith))

module _ (s t : Timestamp) where
  pub derived_less :
      is_some_and is_lt
      (partial_ordering_then (Some (nat_cmp s.wall_time t.wall_time))
      (partial_ordering_then (Some (nat_cmp s.logical_counter t.logical_counter)) (Some (nat_cmp s.actor_id.0 t.actor_id.0))))
      ≡ stamp_less s t
  unfolding stamp_less stamp_key
  derived_less = elim (tri s.wall_time t.wall_time) [
    | below h ↦ rw (cmp_below s.wall_time t.wall_time h, less_first _ _ _ _ _ _ h)
    | above h ↦ rw (cmp_above s.wall_time t.wall_time h, not_first _ _ _ _ _ _ h)
    | level h ↦ rw (cmp_level s.wall_time t.wall_time h) (elim (tri s.logical_counter t.logical_counter) [
      | below k ↦ rw (cmp_below s.logical_counter t.logical_counter k, less_second _ _ _ _ _ _ h k)
      | above k ↦ rw (cmp_above s.logical_counter t.logical_counter k, not_second _ _ _ _ _ _ h k)
      | level k ↦ rw (cmp_level s.logical_counter t.logical_counter k) (elim (tri s.actor_id.0 t.actor_id.0) [
        | below l ↦ rw (cmp_below s.actor_id.0 t.actor_id.0 l, less_third _ _ _ _ _ _ h k l)
        | level l ↦
            let not_below : t.actor_id.0 ≤ s.actor_id.0 = omega arith in
            rw (cmp_level s.actor_id.0 t.actor_id.0 l, not_third _ _ _ _ _ _ h k not_below)
        | above l ↦
            let not_below : t.actor_id.0 ≤ s.actor_id.0 = omega arith in
            rw (cmp_above s.actor_id.0 t.actor_id.0 l, not_third _ _ _ _ _ _ h k not_below)
      ])
    ])
  ]

-- the derived `<=`, turned round, is the same order
module _ (s t : Timestamp) where
  pub derived_not_above :
      not
      (is_some_and is_le
      (partial_ordering_then (Some (nat_cmp t.wall_time s.wall_time))
      (partial_ordering_then (Some (nat_cmp t.logical_counter s.logical_counter)) (Some (nat_cmp t.actor_id.0 s.actor_id.0)))))
      ≡ stamp_less s t
  unfolding stamp_less stamp_key
  derived_not_above = elim (tri s.wall_time t.wall_time) [
    | below h ↦ rw (cmp_above t.wall_time s.wall_time h, less_first _ _ _ _ _ _ h)
    | above h ↦ rw (cmp_below t.wall_time s.wall_time h, not_first _ _ _ _ _ _ h)
    | level h ↦ rw (cmp_level t.wall_time s.wall_time (sym h)) (elim (tri s.logical_counter t.logical_counter) [
      | below k ↦ rw (cmp_above t.logical_counter s.logical_counter k, less_second _ _ _ _ _ _ h k)
      | above k ↦ rw (cmp_below t.logical_counter s.logical_counter k, not_second _ _ _ _ _ _ h k)
      | level k ↦ rw (cmp_level t.logical_counter s.logical_counter (sym k)) (elim (tri s.actor_id.0 t.actor_id.0) [
        | below l ↦ rw (cmp_above t.actor_id.0 s.actor_id.0 l, less_third _ _ _ _ _ _ h k l)
        | level l ↦
            let not_below : t.actor_id.0 ≤ s.actor_id.0 = omega arith in
            rw (cmp_level t.actor_id.0 s.actor_id.0 (sym l), not_third _ _ _ _ _ _ h k not_below)
        | above l ↦
            let not_below : t.actor_id.0 ≤ s.actor_id.0 = omega arith in
            rw (cmp_below t.actor_id.0 s.actor_id.0 l, not_third _ _ _ _ _ _ h k not_below)
      ])
    ])
  ]

module _ (s t : Timestamp) where
  rises : (s.wall_time < t.wall_time) ⊎ ((s.wall_time ≡ t.wall_time) × ((s.logical_counter < t.logical_counter) ⊎ ((s.logical_counter ≡ t.logical_counter) × (s.actor_id.0 < t.actor_id.0))))
      → stamp_less s t ≡ true
  unfolding stamp_less stamp_key
  rises (inl h) = less_first _ _ _ _ _ _ h
  rises (inr (h, inl k)) = less_second _ _ _ _ _ _ h k
  rises (inr (h, inr (k, l))) = less_third _ _ _ _ _ _ h k l

-- stamps whose three numbers are equal
level_order : (s t : Timestamp) → s.wall_time ≡ t.wall_time → s.logical_counter ≡ t.logical_counter → s.actor_id.0 ≡ t.actor_id.0 → stamp_order s t ≡ Equal
level_order s t h k l =
    let e : s ≡ t = λ i. record { wall_time = h i; logical_counter = k i; actor_id = record { 0 = l i } } in
    order_equal s t (rw e (stamp_irreflexive t)) (rw e (stamp_irreflexive t))

pub field_by_field : FieldByField
field_by_field s t = elim (tri s.wall_time t.wall_time) [
  | below h ↦ rw (cmp_below s.wall_time t.wall_time h, order_less s t (rises s t (inl h)))
  | above h ↦ rw (cmp_above s.wall_time t.wall_time h, order_greater s t (rises t s (inl h)))
  | level h ↦ rw (cmp_level s.wall_time t.wall_time h) (elim (tri s.logical_counter t.logical_counter) [
    | below k ↦ rw (cmp_below s.logical_counter t.logical_counter k, order_less s t (rises s t (inr (h, inl k))))
    | above k ↦ rw (cmp_above s.logical_counter t.logical_counter k, order_greater s t (rises t s (inr (sym h, inl k))))
    | level k ↦ rw (cmp_level s.logical_counter t.logical_counter k) (elim (tri s.actor_id.0 t.actor_id.0) [
      | below l ↦ rw (cmp_below s.actor_id.0 t.actor_id.0 l, order_less s t (rises s t (inr (h, inr (k, l)))))
      | above l ↦ rw (cmp_above s.actor_id.0 t.actor_id.0 l, order_greater s t (rises t s (inr (sym h, inr (sym k, l)))))
      | level l ↦ rw (cmp_level s.actor_id.0 t.actor_id.0 l, level_order s t h k l)
    ])
  ])
]

-- Lexicographic order, and the order of stamps. 01: "rising stamp order (wall, counter, author)".
use Rattle.std.specs.Ordering.{ordering_then, nat_cmp}
use Rattle.std.specs.Prelude.{◌≡◌, ℕ, Bool, false, List, [], ◌∷◌, ltb, eqb}
use Rattle.words.specs.Choice.{pick}
use Rattle.clock.specs.declared.stamp.Timestamp.{Timestamp}
use Rattle.std.specs.declared.cmp.Ordering.{Ordering}
use Rattle.std.specs.declared.cmp.Ordering.TheVariants.{Less, Equal, Greater}

-- the first number in which they differ decides
unfoldable pub less : List ℕ → List ℕ → Bool
less [] ys = false
less (x ∷ xs) [] = false
less (x ∷ xs) (y ∷ ys) = pick (eqb x y) (less xs ys) (ltb x y)

-- what stamps are compared by. rs: "Ordering is (wall_time, logical_counter, actor_id)."
unfoldable pub stamp_key : Timestamp → List ℕ
stamp_key t = t.wall_time ∷ t.logical_counter ∷ t.actor_id.0 ∷ []

unfoldable pub stamp_less : Timestamp → Timestamp → Bool
stamp_less s t = less (stamp_key s) (stamp_key t)

-- the derived Ord of the Rust's Timestamp
unfoldable pub stamp_order : Timestamp → Timestamp → Ordering
stamp_order s t = pick (stamp_less s t) Less (pick (stamp_less t s) Greater Equal)

-- the derived `cmp`, which compares field by field, is this order
abbrev pub FieldByField : Type 0
FieldByField =
    (s t : Timestamp)
    → ordering_then (nat_cmp s.wall_time t.wall_time)
    (ordering_then (nat_cmp s.logical_counter t.logical_counter) (nat_cmp s.actor_id.0 t.actor_id.0))
    ≡ stamp_order s t

-- The order of vector times of Fidge (1988) and Mattern (1989): vectors are functions from authors to numbers; u ≤ v where u a ≤ v a for
-- each author a; u < v where u ≤ v and u ≠ v; u || v where neither u < v nor v < u. The last holds of u = v too, which a comparison
-- has to tell apart: Equal is u ≤ v and v ≤ u, Concurrent neither of them.
use Rattle.std.specs.Prelude.{◌≤◌}
use Rattle.words.specs.Names.{Author, Seq}
use Rattle.clock.specs.declared.vector.CausalOrder.{CausalOrder}
use Rattle.clock.specs.declared.vector.CausalOrder.TheVariants.{Before, After, Equal, Concurrent}

-- u ≤ v
infix 30 ◌⊑◌
pub record ◌⊑◌ (u v : Author → Seq) : Type 0 where
  pub each : (a : Author) → u a ≤ v a

-- what each answer of a comparison says
abbrev pub Ordered : (u v : Author → Seq) → CausalOrder → Type 0
Ordered u v Before = (u ⊑ v) × (v ⊑ u → ⊥)
Ordered u v After = (v ⊑ u) × (u ⊑ v → ⊥)
Ordered u v Equal = (u ⊑ v) × (v ⊑ u)
Ordered u v Concurrent = (u ⊑ v → ⊥) × (v ⊑ u → ⊥)

-- the least upper bound
pub record Join (u v w : Author → Seq) : Type 0 where
  pub left : u ⊑ w
  pub right : v ⊑ w
  pub least : (x : Author → Seq) → u ⊑ x → v ⊑ x → w ⊑ x

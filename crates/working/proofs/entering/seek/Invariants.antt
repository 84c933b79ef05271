use Prim.Native.Nat.{ℕ}
use mathlib.Core.List.{List}
use Rattle.working.specs.Inside.Keys.{Keyed}
use Rattle.working.specs.Inside.Looks.{id_ref}
use Rattle.working.proofs.FirstReference.{LeftFirst}
use Rattle.working.proofs.entering.seek.Given as goal

abbrev pub invariant-loop-i : goal.invariant-loop-i
invariant-loop-i l = (held batch s : List ℕ) → Keyed held batch s l.keys l.n → LeftFirst (id_ref l.actor.0 l.seq held batch) s l.n l.i

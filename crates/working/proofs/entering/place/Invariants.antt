use Prim.Native.Nat.{ℕ}
use mathlib.Core.List.{List}
use Rattle.working.specs.Inside.Keys.{Keyed}
use Rattle.working.specs.Inside.Looks.{before_ref}
use Rattle.working.proofs.FirstReference.{LeftFirst}
use Rattle.working.proofs.entering.place.Given as goal

abbrev pub invariant-loop-i : goal.invariant-loop-i
invariant-loop-i l = (held batch s : List ℕ) → Keyed held batch s l.keys l.n → LeftFirst (before_ref l.key held batch) s l.n l.i

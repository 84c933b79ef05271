use Prim.Native.Nat.{◌≤◌}
use mathlib.Core.Path.{◌≡◌}
use Rattle.words.specs.Inside.Moves.{moved_up}
use Rattle.clock.proofs.raw.put_in.Given as goal

abbrev pub invariant-loop-j : goal.invariant-loop-j
invariant-loop-j l = (l.i ≤ l.j) × (l.s ≡ moved_up l.j l.n 1 l.initial.s)

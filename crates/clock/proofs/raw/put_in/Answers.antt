use Prim.Native.Nat.{◌+◌, ◌-◌}
use borrow.Author.Rules.{rules}
use mathlib.Core.Path.{◌≡◌}
use native.Mathlib.Omega.{arith}
use Rattle.words.proofs.Moves.{up_none}
use Rattle.clock.proofs.AuthorSearch.{in_turn, in_last}
use Rattle.clock.proofs.raw.put_in.Goals as goal

pub loop-j-init : goal.loop-j-init
loop-j-init c = (search rules, up_none _ _ _)

pub loop-j-preserved : goal.loop-j-preserved
loop-j-preserved c =
    let place : c.loop-j.j - 1 + 1 ≡ c.loop-j.j = omega arith in
    (omega arith, rw place (in_turn _ _ _ _ c.loop-j.invariant.1 (omega arith) (search rules) (search rules)))

pub returns : goal.returns
returns c = in_last _ _ _ _ _ _ c.loop-j.invariant.1 (omega arith) (search rules) (search rules)

use native.Mathlib.Omega.{arith}
use mathlib.Core.Path.{sym, ◌∙◌}
use borrow.Author.Tests.{ne_eqb}
use Rattle.clock.proofs.LexicographicOrder.{clash}
use Rattle.working.proofs.ContentEquality.{deps_are, deps_count}
use Rattle.working.proofs.contents.same_deps.Goals as goal
use Rattle.working.proofs.contents.same_deps.Goals.{then-n-q, else-n-q}

pub returns-then-eq : goal.returns-then-eq
returns-then-eq c =
    elim c.if-n-q.branch [
      | then-n-q w ↦
          rw (sym w.eq.ensures ∙ sym w.value-is ∙ c.if-eq.true, ← c.eq-then-eq.ensures) at
          (deps_are c.args.p c.args.q (omega arith) (omega arith) (omega arith) (omega arith) c.requires.0 c.requires.1 w.if-n-q.true)
      | else-n-q w ↦ absurd (clash (sym w.value-is ∙ c.if-eq.true) (ne_eqb _ _ w.if-n-q.false))
    ]

pub returns-else-eq : goal.returns-else-eq
returns-else-eq c =
    elim c.if-n-q.branch [
      | then-n-q w ↦
          c.if-eq.false ∙ rw (sym w.eq.ensures ∙ sym w.value-is ∙ c.if-eq.false) at
          (deps_are c.args.p c.args.q (omega arith) (omega arith) (omega arith) (omega arith) c.requires.0 c.requires.1 w.if-n-q.true)
      | else-n-q w ↦
          c.if-eq.false ∙ deps_count c.args.p c.args.q (omega arith) (omega arith) (omega arith) (omega arith) c.requires.0 c.requires.1 w.if-n-q.false
    ]

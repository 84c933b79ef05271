use native.Mathlib.Omega.{arith}
use Rattle.error.proofs.Exits.{handed_on}
use Rattle.working.proofs.AdmissionLoop.{enters_start, enters_end, begun, begun_needs, enters_duplicate, enters_entered, enters_refused}
use Rattle.working.proofs.raw.admit_by.Goals as goal
use Rattle.working.proofs.raw.admit_by.Goals.{in-Duplicate, in-Entered}

pub loop-i-init : goal.loop-i-init
loop-i-init c =
    enters_start _ _ _ _ _ _ _ _ c.requires.0 c.requires.2 c.requires.3 c.requires.4 c.requires.6 c.requires.7

pub admit_one-requires : goal.admit_one-requires
admit_one-requires c =
    ((begun_needs c.loop-i.invariant c.loop-i-test.true c.requires.1).0, (begun_needs c.loop-i.invariant c.loop-i-test.true c.requires.1).1, c.requires.5, (begun_needs c.loop-i.invariant c.loop-i-test.true c.requires.1).2, (begun c.loop-i.invariant c.requires.1).keyed, (begun_needs c.loop-i.invariant c.loop-i-test.true c.requires.1).3)

pub returns-in_err-answer : goal.returns-in_err-answer
returns-in_err-answer c =
    rw (handed_on c.from_residual.ensures) (enters_refused c.loop-i.invariant c.loop-i-test.true _ _ _ c.in_err-answer.ensures)

pub loop-i-preserved : goal.loop-i-preserved
loop-i-preserved c =
    elim c.match-answer.branch [
      | in-Duplicate w ↦
          rw (w.left-is, w.duplicates-is) (enters_duplicate c.loop-i.invariant c.loop-i-test.true _ _ c.admit_one.auto.keys (rw w.in-Duplicate.is at c.in_ok-answer.ensures))
      | in-Entered w ↦
          rw (w.left-is, w.duplicates-is)
          (enters_entered c.loop-i.invariant c.loop-i-test.true _ _ c.admit_one.auto.scratch c.admit_one.auto.keys (rw w.in-Entered.is at c.in_ok-answer.ensures))
    ]

pub returns : goal.returns
returns c = enters_end c.loop-i.invariant (omega arith)

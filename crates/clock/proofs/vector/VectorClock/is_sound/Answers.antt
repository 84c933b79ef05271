use native.Mathlib.Omega.{arith}
use mathlib.Core.Path.{sym, ◌∙◌, ap}
use Rattle.clock.specs.Vector.{zeros}
use Rattle.clock.proofs.LexicographicOrder.{clash}
use Rattle.clock.proofs.ClockRules.{from_on, sound_many, sound_falling, sound_used, sound_last}
use Rattle.clock.proofs.vector.VectorClock.is_sound.Goals as goal
use Rattle.clock.proofs.vector.VectorClock.is_sound.Goals.{then-rises, else-rises}

pub returns-then-n-gt32 : goal.returns-then-n-gt32
returns-then-n-gt32 c = sound_many _ c.if-n-gt32.true

pub returns-then-is_clear : goal.returns-then-is_clear
returns-then-is_clear c =
    let clock = c.args.self.now in
    elim c.if-rises.branch [
      | then-rises w ↦
          let rise = sym w.if-rises.true ∙ c.rises.ensures in
          let used = sym (sym w.value-is ∙ c.if-is_clear.true) ∙ w.is_clear.ensures ∙ ap zeros (from_on clock.authors clock.count (omega arith)) in
          sound_last clock c.if-n-gt32.false (omega arith) (omega arith) _ rise used (c.is_clear-then-is_clear.ensures ∙ ap zeros (from_on clock.numbers clock.count (omega arith)))
      | else-rises w ↦ absurd (clash c.if-is_clear.true (w.value-is ∙ w.if-rises.false))
    ]

pub returns-else-is_clear : goal.returns-else-is_clear
returns-else-is_clear c =
    let clock = c.args.self.now in
    elim c.if-rises.branch [
      | then-rises w ↦
          let rise = sym w.if-rises.true ∙ c.rises.ensures in
          let used = sym (sym w.value-is ∙ c.if-is_clear.false) ∙ w.is_clear.ensures ∙ ap zeros (from_on clock.authors clock.count (omega arith)) in
          c.if-is_clear.false ∙ sound_used clock c.if-n-gt32.false (omega arith) (omega arith) rise used
      | else-rises w ↦
          c.if-is_clear.false ∙ sound_falling clock c.if-n-gt32.false (omega arith) (omega arith) (sym w.if-rises.false ∙ c.rises.ensures)
    ]

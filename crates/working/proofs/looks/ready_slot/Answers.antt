use mathlib.Core.Path.{refl}
use Rattle.working.proofs.ReferenceRows.{ready_not, ready_met}
use Rattle.working.proofs.looks.ready_slot.Goals as goal

pub returns-then-not-reached : goal.returns-then-not-reached
returns-then-not-reached c = ready_not _ _ _ _ _ c.read_actor-actor.ensures c.read_seq-seq.ensures c.reached.ensures c.if-not-reached.true

pub returns : goal.returns
returns c = ready_met _ _ _ _ _ c.read_actor-actor.ensures c.read_seq-seq.ensures c.reached.ensures _ _ refl c.if-not-reached.false c.met_slot.ensures

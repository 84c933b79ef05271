use Rattle.working.proofs.ReferenceRows.{ok_held, ok_batch, ready_held, ready_batch}
use borrow.Author.Rules.{rules}
use Rattle.working.proofs.looks.is_ready.Goals as goal

pub ready_slot-requires : goal.ready_slot-requires
ready_slot-requires c = (ok_held _ _ _ c.if-i-lt64.true c.requires.0, search rules)

pub returns-then-i-lt64 : goal.returns-then-i-lt64
returns-then-i-lt64 c = ready_held _ _ _ _ _ c.if-i-lt64.true c.ready_slot.ensures

pub ready_batch-requires : goal.ready_batch-requires
ready_batch-requires c = (ok_batch _ _ _ c.if-i-lt64.false c.requires.0, search rules)

pub returns : goal.returns
returns c = ready_batch _ _ _ _ _ c.if-i-lt64.false c.ready_batch.ensures

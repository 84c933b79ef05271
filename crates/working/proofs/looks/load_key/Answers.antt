use Rattle.working.proofs.ReferenceRows.{ok_held, ok_batch, key_held, key_batch}
use Rattle.working.proofs.looks.load_key.Goals as goal

pub slot_key-requires : goal.slot_key-requires
slot_key-requires c = ok_held _ _ _ c.if-i-lt64.true c.requires

pub returns-then-i-lt64 : goal.returns-then-i-lt64
returns-then-i-lt64 c = key_held _ _ _ _ c.if-i-lt64.true c.slot_key.ensures

pub batch_key-requires : goal.batch_key-requires
batch_key-requires c = ok_batch _ _ _ c.if-i-lt64.false c.requires

pub returns : goal.returns
returns c = key_batch _ _ _ _ c.if-i-lt64.false c.batch_key.ensures

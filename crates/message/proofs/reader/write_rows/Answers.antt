use Rattle.message.proofs.RowLoops.{writing_none, written_all, writing_goes_on, slot_room, writing_more}
use Rattle.message.proofs.reader.write_rows.Goals as goal

pub loop-i-init : goal.loop-i-init
loop-i-init c = writing_none _ _ _ _ c.requires.0 c.requires.1

pub unwrap-end-requires : goal.unwrap-end-requires
unwrap-end-requires c = writing_goes_on c.loop-i.invariant c.loop-i-test.true _ c.get_signed_op.ensures.is

pub write_row-requires : goal.write_row-requires
write_row-requires c = (c.get_signed_op.ensures.fits _ _ c.unwrap-end.ensures, slot_room c.loop-i.invariant c.loop-i-test.true)

pub loop-i-preserved : goal.loop-i-preserved
loop-i-preserved c =
    writing_more c.loop-i.invariant c.loop-i-test.true _ _ c.get_signed_op.ensures.is c.unwrap-end.ensures (c.get_signed_op.ensures.fits _ _ c.unwrap-end.ensures) c.write_row.ensures

pub returns : goal.returns
returns c = written_all c.loop-i.invariant c.loop-i-test.false

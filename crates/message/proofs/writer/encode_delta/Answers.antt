use native.Mathlib.Omega.{arith}
use Rattle.message.proofs.DeltaWrites.{delta_short, delta_unsound, delta_many, delta_written}
use Rattle.message.proofs.writer.encode_delta.Goals as goal

pub returns-then-rows-count : goal.returns-then-rows-count
returns-then-rows-count c =
    delta_short c.args.out.now c.args.rows.now c.args.count c.if-rows-count.true

pub returns-then-not-parts_ok : goal.returns-then-not-parts_ok
returns-then-not-parts_ok c =
    delta_unsound c.args.out.now c.args.rows.now c.args.count c.if-rows-count.false c.parts_ok.ensures c.if-not-parts_ok.true

pub returns-then-count-gt64 : goal.returns-then-count-gt64
returns-then-count-gt64 c =
    delta_many c.args.out.now c.args.rows.now c.args.count c.if-rows-count.false c.parts_ok.ensures c.if-not-parts_ok.false (omega arith)

pub returns : goal.returns
returns c =
    delta_written c.args.out.now c.args.rows.now c.args.count c.if-rows-count.false c.parts_ok.ensures c.if-not-parts_ok.false (omega arith) c.put_delta.ensures

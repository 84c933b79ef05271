use Prim.Native.Nat.{◌*◌}
use native.Mathlib.Omega.{arith}
use Rattle.row.proofs.Operations.{in_area}
use Rattle.working.proofs.ReferenceRows.{ok_held, ok_batch, row_held, row_batch}
use Rattle.working.proofs.Entrance.{row_there}
use Rattle.quota.proofs.AuthorCounts.{held_payload, batch_payload}
use Rattle.quota.proofs.raw.payload_len.Goals as goal

pub get_word-requires : goal.get_word-requires
get_word-requires c = omega (arith, in_area c.args.held.now (704 * c.args.k) (ok_held _ _ _ c.if-i-lt64.true c.requires))

pub returns-then-i-lt64 : goal.returns-then-i-lt64
returns-then-i-lt64 c =
    let known = held_payload _ _ _ (ok_held _ _ _ c.if-i-lt64.true c.requires) c.get_word.ensures in
    record { is = rw (row_held c.args.held.now c.args.batch.now c.args.k c.if-i-lt64.true) known.0; few = known.1 }

pub unwrap-requires : goal.unwrap-requires
unwrap-requires c = row_there _ _ c.read_row.ensures (ok_batch _ _ _ c.if-i-lt64.false c.requires)

pub returns : goal.returns
returns c =
    let known = batch_payload _ _ _ _ (rw c.unwrap.ensures at c.read_row.ensures) in
    record { is = rw (row_batch c.args.held.now c.args.batch.now c.args.k c.if-i-lt64.false) known.0; few = known.1 }

use Prim.Native.Nat.{◌+◌}
use native.Mathlib.Omega.{arith}
use Rattle.error.proofs.Exits.{handed_on}
use Rattle.error.specs.Answer.{ends}
use Rattle.clock.specs.Entries.{put}
use Rattle.clock.specs.Vector.{increment_call, entries}
use Rattle.clock.proofs.ClockRules.{checked, unsound}
use Rattle.clock.proofs.ClockCalls.{grown_number, grown_stop}
use Rattle.clock.proofs.Increment.{increment_spent, increment_told}
use Rattle.clock.proofs.vector.VectorClock.increment.Goals as goal

pub returns-in_err-check : goal.returns-in_err-check
unfolding increment_call
returns-in_err-check c = let no = unsound c.args.self.now c.in_err-check.ensures in rw (handed_on c.from_residual.ensures, no.0, no.1)

pub get-have-requires : goal.get-have-requires
get-have-requires c = checked c.args.self.now c.in_ok-check.ensures

pub returns-then-have-ge18446744073709551615 : goal.returns-then-have-ge18446744073709551615
returns-then-have-ge18446744073709551615 c =
    increment_spent c.args.self.now c.args.actor.0 c.get-have.result (checked c.args.self.now c.in_ok-check.ensures) c.get-have.ensures (omega arith)

pub set-requires : goal.set-requires
set-requires c = checked c.args.self.now c.in_ok-check.ensures

pub returns-in_err-set : goal.returns-in_err-set
returns-in_err-set c =
    let clock = c.args.self.now in
    let have = c.get-have.result in
    let grown = put (entries clock) c.args.actor.0 (have + 1) in
    rw (handed_on c.from_residual-in_err-set.ensures)
    (increment_told clock c.args.actor.0 have (checked clock c.in_ok-check.ensures) c.get-have.ensures (omega arith) _
    (grown_stop clock grown (ends c.set.result c.set.new.c) c.set.ensures (have + 1) _ c.in_err-set.was))

pub returns : goal.returns
returns c =
    let clock = c.args.self.now in
    let have = c.get-have.result in
    let grown = put (entries clock) c.args.actor.0 (have + 1) in
    increment_told clock c.args.actor.0 have (checked clock c.in_ok-check.ensures) c.get-have.ensures (omega arith) _
    (grown_number clock grown (ends c.set.result c.set.new.c) c.set.ensures (have + 1) c.in_ok-set.was)

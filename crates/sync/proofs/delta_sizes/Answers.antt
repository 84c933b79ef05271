use mathlib.Core.Path.{refl}
use native.Mathlib.Omega.{arith}
use Rattle.error.proofs.Exits.{handed_on}
use Rattle.replicated_log.specs.Areas.{areas}
use Rattle.sync.proofs.CallTests.{counted, ready}
use Rattle.sync.proofs.SizeCalls.{sizes_capacity, sizes_refused, room_found, sizes_short, sizes_done}
use Rattle.sync.proofs.delta_sizes.Goals as goal

pub returns-then-sig_len-gt1024 : goal.returns-then-sig_len-gt1024
returns-then-sig_len-gt1024 c = sizes_capacity _ _ _ _ _ _ _ _ c.if-sig_len-gt1024.true refl

pub returns-in_err-n : goal.returns-in_err-n
returns-in_err-n c =
    rw (handed_on c.from_residual.ensures) (sizes_refused _ _ _ _ _ _ _ _ c.if-sig_len-gt1024.false _ c.in_err-n.ensures refl)

pub load_clock-clock-requires : goal.load_clock-clock-requires
load_clock-clock-requires c =
    let args = c.args in
    omega (arith, (counted (areas args.rows.now args.held.now args.head.now) _ _ c.in_ok-n.ensures).long)

pub has_room-requires : goal.has_room-requires
has_room-requires c =
    let args = c.args in
    let store = areas args.rows.now args.held.now args.head.now in
    ready store _ _ _ (counted store _ _ c.in_ok-n.ensures) c.load_clock-clock.ensures

pub returns-then-not-has_room : goal.returns-then-not-has_room
returns-then-not-has_room c =
    let args = c.args in
    let store = areas args.rows.now args.held.now args.head.now in
    let known = counted store _ _ c.in_ok-n.ensures in
    sizes_short store _ _ _ _ _ _ _ c.if-sig_len-gt1024.false _ _ _ known c.load_clock-clock.ensures c.at_least_one-most.ensures _ c.has_room.ensures c.if-not-has_room.true refl

pub write_sizes-chunks-requires : goal.write_sizes-chunks-requires
write_sizes-chunks-requires c =
    let args = c.args in
    let store = areas args.rows.now args.held.now args.head.now in
    let known = counted store _ _ c.in_ok-n.ensures in
    (ready store _ _ _ known c.load_clock-clock.ensures, c.if-sig_len-gt1024.false, room_found _ _ _ c.has_room.ensures c.if-not-has_room.false)

pub returns : goal.returns
returns c =
    let args = c.args in
    let store = areas args.rows.now args.held.now args.head.now in
    let known = counted store _ _ c.in_ok-n.ensures in
    sizes_done store _ _ _ _ _ _ _ c.if-sig_len-gt1024.false _ _ _ known c.load_clock-clock.ensures c.at_least_one-most.ensures _ c.has_room.ensures _ c.if-not-has_room.false c.write_sizes-chunks.ensures

use native.Mathlib.Omega.{arith}
use Rattle.replicated_log.proofs.Calls.Changes.{sound_long}
use Rattle.quota.proofs.RoomTest.{sound_count, sound_marked, room_full, room_clock, room_marks, room_done}
use Rattle.quota.proofs.raw.room.Goals as goal

pub get_word-count-requires : goal.get_word-count-requires
get_word-count-requires c = omega (arith, sound_long _ _ c.requires.0)

pub overflow_add-count : goal.overflow_add-count
overflow_add-count c = omega (arith, sound_count _ _ c.requires.0, c.get_word-count.ensures)

pub returns-then-count-m : goal.returns-then-count-m
returns-then-count-m c = room_full _ _ _ _ _ _ _ _ _ c.get_word-count.ensures c.capacity.ensures c.if-count-m.true

pub returns-then-authors-gt32 : goal.returns-then-authors-gt32
returns-then-authors-gt32 c = room_clock _ _ _ _ _ _ _ _ _ c.get_word-count.ensures c.capacity.ensures c.if-count-m.false c.if-authors-gt32.true

pub marks_fit-requires : goal.marks_fit-requires
marks_fit-requires c =
    (c.requires.1, c.requires.2, sound_marked _ _ c.requires.0)

pub returns-then-not-marks_fit : goal.returns-then-not-marks_fit
returns-then-not-marks_fit c = room_marks _ _ _ _ _ _ _ _ _ c.get_word-count.ensures c.capacity.ensures c.if-count-m.false c.if-authors-gt32.false _ c.marks_fit.ensures c.if-not-marks_fit.true

pub returns : goal.returns
returns c = room_done _ _ _ _ _ _ _ _ _ c.get_word-count.ensures c.capacity.ensures c.if-count-m.false c.if-authors-gt32.false _ c.marks_fit.ensures c.if-not-marks_fit.false

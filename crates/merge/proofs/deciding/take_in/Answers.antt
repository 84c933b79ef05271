use mathlib.Core.Path.{sym, ◌∙◌}
use Rattle.error.proofs.Exits.{handed_on}
use Rattle.merge.proofs.Preparation.{unread, no_room, invalid, taken_in}
use Rattle.merge.proofs.deciding.take_in.Goals as goal

pub returns-in_err-read : goal.returns-in_err-read
returns-in_err-read c = rw (handed_on c.from_residual.ensures) (unread _ _ _ _ _ _ _ c.in_err-read.ensures.reads.is)

pub returns-then-not-have_room : goal.returns-then-not-have_room
returns-then-not-have_room c =
    let reads = c.in_ok-read.ensures.reads.is in
    no_room _ _ _ _ _ _ _ _ _ reads.0 reads.1 (sym c.have_room.ensures ∙ c.if-not-have_room.true)

pub returns-in_err-read-2 : goal.returns-in_err-read-2
returns-in_err-read-2 c =
    let reads = c.in_ok-read.ensures.reads.is in
    rw (handed_on c.from_residual-in_err-read-2.ensures) (invalid _ _ _ _ _ _ _ _ _ reads.0 reads.1 (sym c.have_room.ensures ∙ c.if-not-have_room.false) _ c.in_err-read-2.was)

pub returns : goal.returns
returns c =
    let reads = c.in_ok-read.ensures.reads.is in
    taken_in _ _ _ _ _ _ _ _ _ reads.0 reads.1 (sym c.have_room.ensures ∙ c.if-not-have_room.false) _ c.in_ok-read.ensures.start c.in_ok-read-2.was

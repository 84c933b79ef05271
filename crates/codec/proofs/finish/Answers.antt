use borrow.Author.Tests.{le-leb, lt-leb}
use Rattle.codec.specs.Reading.{finish}
use Rattle.codec.proofs.finish.Goals as goal

pub returns-then-at-s : goal.returns-then-at-s
unfolding finish
returns-then-at-s c = rw (lt-leb _ _ c.if-at-s.true)

pub returns : goal.returns
unfolding finish
returns c = rw (le-leb _ _ c.if-at-s.false)

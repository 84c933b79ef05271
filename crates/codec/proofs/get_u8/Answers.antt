use borrow.Author.Tests.{lt-ltb, le-ltb}
use Rattle.codec.specs.Reading.{get_u8}
use Rattle.codec.proofs.get_u8.Goals as goal

pub returns-then-at-s : goal.returns-then-at-s
unfolding get_u8
returns-then-at-s c = rw (le-ltb _ _ c.if-at-s.true)

pub returns : goal.returns
unfolding get_u8
returns c = rw (lt-ltb _ _ c.if-at-s.false) (cc)

use borrow.Author.Rules.{rules}
use native.Mathlib.Omega.{arith}
use mathlib.Core.Path.{◌≡◌, refl}
use lib.ListN.{length}
use Rattle.clock.proofs.AuthorSearch.{find_start, find_here, find_gap, find_turn, find_end}
use Rattle.clock.proofs.raw.find.Goals as goal

pub loop-i-init : goal.loop-i-init
loop-i-init c = find_start _ _

pub returns-then-other-author : goal.returns-then-other-author
returns-then-other-author c = find_here c.args.authors.now _ _ _ (search rules) refl c.if-other-author.true c.loop-i.invariant

pub returns-then-author-other : goal.returns-then-author-other
returns-then-author-other c = find_gap c.args.authors.now _ _ _ (search rules) refl c.if-other-author.false c.if-author-other.true c.loop-i.invariant

pub loop-i-preserved : goal.loop-i-preserved
loop-i-preserved c = find_turn c.args.authors.now _ _ _ (search rules) refl c.if-other-author.false c.if-author-other.false c.loop-i.invariant

pub returns : goal.returns
returns c =
    let end : c.loop-i.i ≡ length c.args.authors.now = omega arith in
    rw (← end) (find_end c.args.authors.now c.args.author c.loop-i.i end c.loop-i.invariant)

use Prim.Native.Nat.{◌-◌}
use mathlib.Core.Path.{refl, sym, ◌∙◌}
use native.Mathlib.Omega.{arith}
use lib.ListN.{length}
use borrow.Author.Tests.{le-leb, lt-leb}
use Rattle.error.proofs.Exits.{handed_on}
use Rattle.codec.specs.Reading.{get_count}
use Rattle.codec.proofs.ReadSteps.{both, not_first, not_second, on, off, pass, fail}
use Rattle.codec.proofs.RoundTrip.{varint_read}
use Rattle.codec.proofs.get_count.Goals as goal

pub returns-in_err-count : goal.returns-in_err-count
unfolding get_count
returns-in_err-count c = handed_on c.from_residual.ensures ∙ off _ (sym c.in_err-count.ensures)

pub returns-then-count-max : goal.returns-then-count-max
unfolding get_count
returns-then-count-max c =
    let count = c.in_ok-count.count in
    on _ (sym c.in_ok-count.ensures) (fail _ _ (not_first _ (lt-leb count c.args.max (omega arith))))

pub overflow_sub-s : goal.overflow_sub-s
overflow_sub-s c = (varint_read _ _ _ _ (sym c.in_ok-count.ensures)).inside

pub returns-then-count-s : goal.returns-then-count-s
unfolding get_count
returns-then-count-s c =
    let count = c.in_ok-count.count in
    let left = length c.args.s.now - c.in_ok-count.next in
    on _ (sym c.in_ok-count.ensures) (fail _ _ (not_second (le-leb count c.args.max (omega arith)) (lt-leb count left (omega arith))))

pub returns : goal.returns
unfolding get_count
returns c =
    let count = c.in_ok-count.count in
    let left = length c.args.s.now - c.in_ok-count.next in
    on _ (sym c.in_ok-count.ensures) (pass _ _ (both (le-leb count c.args.max (omega arith)) (le-leb count left (omega arith))) refl)

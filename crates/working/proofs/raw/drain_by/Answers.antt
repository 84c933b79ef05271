use borrow.Author.Rules.{rules}
use native.Mathlib.Omega.{arith}
use Rattle.working.proofs.DrainLoop.{going_start, going_working, going_end, turn, word_room, found_ref, take_needs, push_room, put_needs, going_drop, going_log}
use Rattle.working.proofs.raw.drain_by.Goals as goal

pub loop-j-init : goal.loop-j-init
loop-j-init c = going_start _ _ _ _ _ _ _ c.requires.0 c.requires.1 c.requires.2 c.requires.3 c.requires.4

pub first_ready-requires : goal.first_ready-requires
first_ready-requires c = (going_working c.loop-j.invariant, c.loop-j.invariant.clocked)

pub overflow_mul-j : goal.overflow_mul-j
overflow_mul-j c = omega (arith, word_room c.loop-j.invariant _ c.in-Some.ensures)

pub get_word-k-requires : goal.get_word-k-requires
get_word-k-requires c = word_room c.loop-j.invariant _ c.in-Some.ensures

pub load_key-key-requires : goal.load_key-key-requires
load_key-key-requires c = found_ref c.loop-j.invariant _ c.in-Some.ensures _ c.get_word-k.ensures

pub take_entry-requires : goal.take_entry-requires
take_entry-requires c = take_needs c.loop-j.invariant _ c.in-Some.ensures

pub overflow_sub-left : goal.overflow_sub-left
overflow_sub-left c = omega (arith, (turn c.loop-j.invariant _ c.in-Some.ensures).0)

pub push_logged-requires : goal.push_logged-requires
push_logged-requires c = omega (arith, push_room c.loop-j.invariant _ c.in-Some.ensures)

pub clock_put-used-requires : goal.clock_put-used-requires
clock_put-used-requires c = put_needs c.loop-j.invariant _ c.in-Some.ensures

pub loop-j-smaller-then-next_of : goal.loop-j-smaller-then-next_of
loop-j-smaller-then-next_of c = omega (arith, (turn c.loop-j.invariant _ c.in-Some.ensures).0)

pub loop-j-preserved-then-next_of : goal.loop-j-preserved-then-next_of
loop-j-preserved-then-next_of c =
    going_log c.loop-j.invariant _ _ _ _ _ c.in-Some.ensures c.get_word-k.ensures c.load_key-key.ensures c.take_entry.ensures c.next_of.ensures _ _ _ _ c.if-next_of.true (search rules) (search rules) (search rules) c.push_logged.ensures c.clock_put-used.ensures

pub loop-j-smaller : goal.loop-j-smaller
loop-j-smaller c = omega (arith, (turn c.loop-j.invariant _ c.in-Some.ensures).0)

pub loop-j-preserved : goal.loop-j-preserved
loop-j-preserved c =
    going_drop c.loop-j.invariant _ _ _ _ _ c.in-Some.ensures c.get_word-k.ensures c.load_key-key.ensures c.take_entry.ensures c.next_of.ensures c.if-next_of.false (search rules)

pub returns : goal.returns
returns c = going_end c.loop-j.invariant c.in_default.ensures

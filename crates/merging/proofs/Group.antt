-- The cases of document 01, "Proved as a group (P)" (specs/Group), computed.
use Prim.Native.Nat.{◌<◌, ◌≤◌, ◌^◌}
use mathlib.Core.Path.{◌≡◌, refl, ◌∙◌}
use mathlib.Core.Bool.{true}
use Rattle.std.specs.declared.option.Option.TheVariants.{None}
use native.Mathlib.Omega.{arith}
use lib.ListN.{length, replicate}
use Rattle.words.specs.Areas.{pad}
use Rattle.words.specs.Be.{AllBytes}
use Rattle.words.specs.Lists.{all}
use Rattle.std.specs.declared.result.Result.TheVariants.{Ok, Err}
use Rattle.error.specs.Answer.{Answer, done, refused, and_then, told_by}
use Rattle.clock.specs.declared.hybrid.HybridClock.{HybridClock}
use Rattle.clock.specs.Hlc.{greater, receive_l, receive_c, receive_event}
use Rattle.clock.specs.Hybrid.{receive_at, update_call}
use Rattle.clock.specs.Entries.{rising}
use Rattle.clock.specs.Vector.{pairs, authors_of, numbers_of, zeros, entries, clock_of, sound, order_of, compare_call}
use Rattle.codec.specs.Leb128.{group_then, groups_of, shortest}
use Rattle.codec.specs.Writing.{sized}
use Rattle.codec.proofs.RoundTrip.{varints}
use Rattle.row.specs.Rows.{outcome_ok, stamp_ok, row_ok, held_ok, word_pairs, byte_list}
use Rattle.row.specs.Wire.{stamped_bytes, pair_bytes, deps_bytes, unsigned_bytes, signed_bytes}
use Rattle.row.proofs.ListTests.{list_bytes}
use Rattle.replicated_log.specs.Store.{Store, derive, never_falls, below_next, held_rise, absent_from, no_twice, marks_rise, floor_ok, clock_ok, rules}
use Rattle.replicated_log.specs.Areas.{Areas, areas, capacity, long_enough, read_store}
use Rattle.replicated_log.proofs.Store.Encoding.{capacity_write, read_write}
use Rattle.merging.specs.Merging.{Merged}
use Rattle.merging.specs.Calls.{BatchCall, batch_answer, batch_ends, batch_call}
use Rattle.merging.specs.Delta.{delta_ends, delta_call}
use Rattle.merging.specs.Group.{empty_store, holding, lending, held_after, no_row, P}
use Rattle.merging.proofs.Traces.{call_answered, ends_by}
use Rattle.merging.proofs.AreasToStores.{batch_holds}
use Rattle.merging.proofs.Convergence.{empty_rules}
use Rattle.merging.proofs.CallTraces.{answer_on, answer_on_lem}
use Rattle.merging.proofs.Examples.{computing, reading}

-- ---- the joined call on areas that a store is written into comes to the batch call on the store

-- the areas of `lending`, before the store is written
abbrev blank : Areas
blank = areas (replicate 704 0) (replicate 45056 0) (replicate 2120 0)

long : long_enough blank ≡ true
unfolding long_enough
long = refl

one_slot : capacity blank.log ≡ 1
unfolding capacity
one_slot = refl

module _ (s : Store) (keeps : rules s ≡ true) (few : length s.log ≤ 1) (j : HybridClock) (c : BatchCall) where
  few_slots : length s.log ≤ capacity blank.log
  few_slots = rw one_slot few

  reads : read_store (lending s) ≡ done s
  reads = read_write blank s long keeps few_slots

  answers : batch_answer (lending s) c ≡ answer_on 1 s c
  answers = rw (capacity_write blank s long keeps few_slots ∙ one_slot) at (answer_on_lem (lending s) s reads c)

  told_on : told_by (delta_call (lending s) j c).answer ≡ told_by (answer_on 1 s c)
  unfolding batch_call batch_ends delta_call delta_ends
  told_on = rw answers (by_answer (answer_on 1 s c))
    where
      by_answer : (x : Answer Merged) → told_by (ends_by (lending s) j c x).answer ≡ told_by x
      by_answer (Ok m) = refl
      by_answer (Err r) = refl

  held_on : c.time < 2 ^ 64 → AllBytes c.batch
      → held_after (delta_call (lending s) j c) ≡ and_then (answer_on 1 s c) (λ m. done (m.store.held, m.report.expired))
  unfolding batch_call batch_ends delta_call delta_ends
  held_on now bytes = rw (← answers) (by_answer (batch_answer (lending s) c) refl)
    where
      by_answer : (x : Answer Merged) → batch_answer (lending s) c ≡ x
          → held_after (ends_by (lending s) j c x) ≡ and_then x (λ m. done (m.store.held, m.report.expired))
      by_answer (Ok m) e = rw (batch_holds (lending s) s reads c m now bytes (call_answered (lending s) c m e))
      by_answer (Err r) e = refl

-- ---- the cases

holding_rules : rules (holding 100) ≡ true
unfolding computing rules derive all never_falls held_rise below_next no_twice absent_from marks_rise floor_ok clock_ok rising word_pairs held_ok row_ok stamp_ok outcome_ok byte_list
holding_rules = refl

no_row_lem : AllBytes no_row
unfolding byte_list
no_row_lem = list_bytes no_row refl

pub p : P
unfolding computing reading answer_on shortest groups_of group_then greater receive_l receive_c receive_event receive_at update_call compare_call sound entries clock_of pad pairs authors_of numbers_of zeros rising order_of signed_bytes unsigned_bytes stamped_bytes deps_bytes pair_bytes sized
p =
    record {
      three_hundred = refl;
      greatest = varints.largest;
      overlong_zero = refl;
      equal_walls = refl;
      own_wall = refl;
      remote_wall = refl;
      physical_wall = refl;
      concurrent = refl;
      kept = λ j. held_on (holding 100) holding_rules (omega arith) j _ (omega arith) no_row_lem;
      expired = λ j. held_on (holding 100) holding_rules (omega arith) j _ (omega arith) no_row_lem;
      passes = λ j. told_on (empty_store None) empty_rules (omega arith) j _;
      ahead = λ j. told_on (empty_store None) empty_rules (omega arith) j _;
    }

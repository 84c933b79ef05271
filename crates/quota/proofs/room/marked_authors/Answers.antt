use borrow.Author.Rules.{rules}
use Prim.Native.Nat.{ℕ, ◌+◌, ◌*◌}
use mathlib.Core.Path.{refl}
use native.Mathlib.Omega.{arith}
use lib.ListN.{length-set}
use Rattle.words.specs.Be.{get64}
use Rattle.words.proofs.Puts.{fill_turn}
use Rattle.clock.proofs.ClockEntries.{zeros_replicate}
use Rattle.quota.proofs.RoomTest.{marked_entries, marked_sound, zeros_turn}
use Rattle.quota.proofs.room.marked_authors.Goals as goal

pub get_word-count-requires : goal.get_word-count-requires
get_word-count-requires c = omega (arith, c.requires.table.long)

pub loop-i-init : goal.loop-i-init
loop-i-init c = (omega (arith, c.requires.table.few), search rules, search rules, λ k h. absurd (omega arith), λ k h. absurd (omega arith), zeros_replicate 32, zeros_replicate 32)

pub get_word-requires : goal.get_word-requires
get_word-requires c = omega (arith, c.requires.table.long)

pub loop-i-preserved : goal.loop-i-preserved
loop-i-preserved c = (
  c.loop-i.invariant.0,
  simp length-set c.loop-i.invariant.1,
  simp length-set c.loop-i.invariant.2,
  fill_turn (λ (k : ℕ). get64 c.args.head.now (1096 + 32 * k)) c.loop-i.authors c.loop-i.i _ (omega arith) c.get_word.ensures c.loop-i.invariant.3,
  fill_turn (λ (k : ℕ). 1) c.loop-i.numbers c.loop-i.i _ (omega arith) refl c.loop-i.invariant.4,
  zeros_turn c.loop-i.authors c.loop-i.i _ (omega arith) c.loop-i.invariant.5,
  zeros_turn c.loop-i.numbers c.loop-i.i _ (omega arith) c.loop-i.invariant.6,
)

pub returns : goal.returns
returns c = (
  marked_entries _ _ _ _ c.loop-i.i c.requires c.get_word-count.ensures (omega arith) (omega arith) (omega arith) (omega arith) c.loop-i.invariant.3 c.loop-i.invariant.4,
  marked_sound _ _ _ _ c.loop-i.i c.requires c.get_word-count.ensures (omega arith) (omega arith) (omega arith) (omega arith) c.loop-i.invariant.3 c.loop-i.invariant.4 c.loop-i.invariant.5 c.loop-i.invariant.6,
)

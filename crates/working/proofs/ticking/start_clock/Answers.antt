use Prim.Native.Nat.{ℕ, ◌+◌, ◌*◌}
use mathlib.Core.Path.{◌∙◌, ap}
use native.Mathlib.Omega.{arith}
use Rattle.words.specs.Be.{get64}
use Rattle.words.proofs.Puts.{fill_turn}
use Rattle.working.proofs.DrainClock.{head_few, start_is, start_clocked}
use Rattle.working.proofs.ticking.start_clock.Goals as goal

pub loop-i-init : goal.loop-i-init
loop-i-init c = (head_few _ 48 _ c.requires.1 c.get_word-n.ensures, λ k h. absurd (omega arith), λ k h. absurd (omega arith))

pub loop-i-preserved : goal.loop-i-preserved
loop-i-preserved c =
    let args = c.args in
    (c.loop-i.invariant.0, fill_turn (λ (k : ℕ). get64 args.head.now (56 + 16 * k)) c.loop-i.authors _ _ (omega arith) (c.get_word.ensures ∙ ap (get64 _) (omega arith)) c.loop-i.invariant.1, fill_turn (λ (k : ℕ). get64 args.head.now (64 + 16 * k)) c.loop-i.numbers _ _ (omega arith) (c.get_word-in-loop-i.ensures ∙ ap (get64 _) (omega arith)) c.loop-i.invariant.2)

pub returns : goal.returns
returns c = record { is = start_is _ _ _ _ c.loop-i.i c.requires.1 c.get_word-n.ensures (omega arith) (omega arith) (omega arith) c.loop-i.invariant.1 c.loop-i.invariant.2; clocked = start_clocked _ _ _ _ c.loop-i.i c.requires.1 c.get_word-n.ensures (omega arith) (omega arith) (omega arith) c.loop-i.invariant.1 c.loop-i.invariant.2; few = c.loop-i.invariant.0 }

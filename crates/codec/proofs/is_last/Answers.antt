use Prim.Native.Nat.{◌/◌}
use mathlib.Core.Path.{◌≡◌, sym, ◌∙◌}
use mathlib.Core.Logic.{inl, inr}
use native.Mathlib.Omega.{arith}
use lib.Bits.{bit_and, and_high}
use borrow.Author.Tests.{lt-ltb, le-ltb, eq-eqb, ne_eqb}
use Rattle.words.proofs.Words.{lt_or_le}
use Rattle.codec.proofs.is_last.Goals as goal

pub returns : goal.returns
returns c =
    elim (lt_or_le c.args.byte 128) [
      | inl h ↦ eq-eqb (bit_and c.args.byte 128) 0 (omega (arith, and_high c.args.byte 1 7)) ∙ sym (lt-ltb c.args.byte 128 h)
      | inr h ↦
          let q : c.args.byte / 128 ≡ 1 = omega arith in
          ne_eqb (bit_and c.args.byte 128) 0 (λ e. omega (arith, rw q at (and_high c.args.byte 1 7))) ∙ sym (le-ltb c.args.byte 128 h)
    ]

-- A signed row that is read: its fields one behind the other.
use Prim.Native.Nat.{ℕ, ◌≤◌}
use mathlib.Core.Path.{◌≡◌, ◌∙◌, ap, subst}
use mathlib.Core.List.{List}
use native.Mathlib.Omega.{arith}
use Rattle.error.specs.declared.Refusal.{Refusal}
use Rattle.error.specs.Answer.{Got, got, bad}
use Rattle.clock.specs.declared.vector.VectorClock.{VectorClock}
use Rattle.clock.specs.Vector.{entries, clock_of}
use Rattle.clock.proofs.ClockEntries.{entries_of}
use Rattle.codec.proofs.ReadSteps.{got_value}
use Rattle.codec.specs.Reading.{part_of}
use Rattle.codec.specs.declared.Part.{Part}
use Rattle.row.specs.Values.{deps_of, row_of, OpFits}
use Rattle.row.specs.declared.Deps.{Deps}
use Rattle.row.specs.declared.StampedOperation.{StampedOperation}
use Rattle.row.specs.declared.reader.Head.{Head}
use Rattle.message.specs.Reading.{bytes_within, get_clock, signed_row, get_signed}
use Rattle.message.specs.Inside.ReaderParts.{clock_by, signed_read_of}
use Rattle.message.proofs.Views.{seen, unseen}
use Rattle.message.proofs.CountedReads.{part_got}
use Rattle.message.proofs.ClockPairs.{clock_got}

-- a clock, as it is held
pub record ClockRead (g : Got (List (ℕ × ℕ))) (c : VectorClock) (n : ℕ) : Type 0 where
  pub es : List (ℕ × ℕ)
  pub is : g ≡ got es n
  pub clock : c ≡ clock_of es

pub clock_read : (g : Got (List (ℕ × ℕ))) {c : VectorClock} {n : ℕ} → got c n ≡ clock_by g → ClockRead g c n
unfolding clock_by
clock_read g e = let x = seen clock_of g e in record { es = x.0; is = x.1; clock = x.2 }

pub clock_refused : (g : Got (List (ℕ × ℕ))) {k : Refusal} → bad k ≡ clock_by g → g ≡ bad k
unfolding clock_by
clock_refused g e = unseen clock_of g e

-- dependencies are few
pub few_deps : (s : List ℕ) (at : ℕ) {c : VectorClock} {n : ℕ} → ClockRead (get_clock 16 s at) c n → c.count ≤ 16
unfolding clock_of
few_deps s at k = omega (arith, ap (λ (d : VectorClock). d.count) k.clock, (clock_got 16 s at k.es _ k.is).few)

-- a refused row
pub no_row : (s : List ℕ) {r : Got StampedOperation} {k : Refusal} → r ≡ bad k → (at : ℕ) → bad k ≡ get_signed s at → signed_read_of s r ≡ get_signed s at
no_row s e at p = ap (signed_read_of s) e ∙ p

-- the row of what was read
module _ (s : List ℕ) (h : Head) (deps : Deps) (p g : Part) where
  abbrev pub op_from : StampedOperation
  op_from =
      record {
        timestamp = h.timestamp;
        actor = h.actor;
        seq = h.seq;
        deps = deps;
        payload = p;
        signature = g;
      }

  pub row_is : {c : VectorClock} {es : List (ℕ × ℕ)} (next : ℕ) → deps_of deps ≡ entries c → c ≡ clock_of es
      → got (row_of s op_from) next ≡ got (signed_row s h es p g) next
  unfolding row_of part_of
  row_is {c} {es} next e f =
      let z : deps_of deps ≡ es = e ∙ ap entries f ∙ entries_of es in
      λ i. got (record { stamp = h.timestamp; author = h.actor.0; seq = h.seq; deps = z i; payload = part_of s p; signature = part_of s g }) next

  pub op_fits : (at m n end : ℕ) → deps.count ≤ 16 → bytes_within 1048576 256 s at ≡ got p m → bytes_within 1024 64 s n ≡ got g end → OpFits s op_from
  op_fits at m n end h k l =
      let x = part_got 1048576 256 s at p m k in
      let y = part_got 1024 64 s n g end l in
      record { deps = h; payload = x.few; payload_in = x.inside; signature = y.few; signature_in = y.inside }

-- it is the operation that was made
pub made_fits : (s : List ℕ) {r o : StampedOperation} {m n : ℕ} → OpFits s r → ◌≡◌ {A = Got StampedOperation} (got r m) (got o n) → OpFits s o
made_fits s f e = subst (OpFits s) (got_value e) f

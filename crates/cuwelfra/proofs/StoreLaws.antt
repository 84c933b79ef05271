-- One law for each outcome of the exported calls on a store.
use Prim.Native.Nat.{ℕ, ◌≤◌, ◌<◌}
use mathlib.Core.Path.{◌≡◌, refl, sym, ◌∙◌, ap}
use mathlib.Core.List.{List}
use lib.ListN.{length}
use borrow.Author.Tests.{le-leb, lt-leb}
use Rattle.words.specs.Names.{Clock}
use Rattle.words.specs.Areas.{put_at}
use Rattle.error.specs.declared.Refusal.{Refusal}
use Rattle.error.specs.declared.Refusal.TheVariants.{ShortArea}
use Rattle.error.specs.declared.Told.{Told}
use Rattle.error.specs.Numbers.{told_of}
use Rattle.std.specs.declared.result.Result.TheVariants.{Ok, Err}
use Rattle.error.specs.Answer.{Answer, done, refused, accepted, told_by}
use Rattle.clock.specs.Area.{clock_bytes}
use Rattle.replicated_log.specs.Answers.{clock_answer}
use Rattle.replicated_log.proofs.Calls.Changes.{clashing}
use Rattle.merging.proofs.Traces.{done_same}
use Rattle.clock.specs.declared.vector.VectorClock.{VectorClock}
use Rattle.clock.specs.Vector.{clock_of}
use Rattle.cuwelfra.specs.Exports.{exported}
use Rattle.cuwelfra.specs.Stores.{clock_area, clock_out}

-- a clock area that is long enough
long_clock : (s : List ℕ) (answer : Answer Clock) → 520 ≤ length s → clock_out s answer ≡ clock_area s answer
unfolding clock_out
long_clock s answer h = rw (le-leb 520 (length s) h) refl

module _ (s : List ℕ) (x : Answer VectorClock) (told : Told) (h : 520 ≤ length s) where
  pub clock_done : (t : List ℕ) (c : VectorClock) → x ≡ done c → t ≡ put_at s 0 (clock_bytes c) → told ≡ accepted
      → (answer : Answer Clock) → x ≡ clock_answer answer → (told, t) ≡ exported told_by (clock_out s answer)
  clock_done t c e p q (Ok es) i =
      let d : c ≡ clock_of es = done_same (sym e ∙ i) in
      rw (long_clock s (done es) h) (λ j. (q j, (p ∙ ap (λ (y : VectorClock). put_at s 0 (clock_bytes y)) d) j))
  clock_done t c e p q (Err f) i = absurd (clashing c f (sym e ∙ i))

  pub clock_refused : (f : Refusal) → x ≡ refused f → told ≡ told_of f → (answer : Answer Clock) → x ≡ clock_answer answer → (told, s) ≡ exported told_by (clock_out s answer)
  clock_refused f e q (Ok es) i = absurd (clashing (clock_of es) f (sym i ∙ e))
  clock_refused f e q (Err g) i =
      let d : ◌≡◌ {A = Answer VectorClock} (refused f) (refused g) = sym e ∙ i in
      let z : f ≡ g = cc in
      rw (long_clock s (refused g) h) (λ j. ((q ∙ ap told_of z) j, s))

-- a short one: 2, and nothing is changed
pub clock_short : (s : List ℕ) (answer : Answer Clock) (told : Told) → length s < 520 → told ≡ told_of ShortArea → (told, s) ≡ exported told_by (clock_out s answer)
unfolding clock_out
clock_short s answer told h q = rw (lt-leb 520 (length s) h) (λ j. (q j, s))

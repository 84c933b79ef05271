-- One law for each outcome of the exported vector clock calls.
use Prim.Native.Nat.{ℕ, ◌≤◌, ◌<◌}
use mathlib.Core.Path.{◌≡◌, refl}
use mathlib.Core.Bool.{Bool, true, false, ◌&&◌}
use mathlib.Core.List.{List, []}
use lib.ListN.{length}
use borrow.Author.Tests.{le-leb, lt-leb}
use Rattle.words.specs.Areas.{put_at}
use Rattle.error.specs.declared.Refusal.TheVariants.{ShortArea}
use Rattle.error.specs.declared.Told.{Told}
use Rattle.error.specs.Numbers.{told_of}
use Rattle.error.specs.Answer.{Answer, done, refused, accepted, told_by, nothing, ends}
use Rattle.error.specs.declared.Ends.{Ends}
use Rattle.clock.specs.declared.vector.VectorClock.{VectorClock}
use Rattle.clock.specs.Vector.{clock_of}
use Rattle.clock.specs.Area.{clock_bytes}
use Rattle.cuwelfra.specs.declared.vector.ClockTold.{ClockTold}
use Rattle.cuwelfra.specs.Vectors.{on_area, long, count_told}
use Rattle.cuwelfra.specs.Exports.{exported, if_done}

-- ---- short and long areas

pub is_long : (s : List ℕ) → 520 ≤ length s → long s ≡ true
is_long s h = le-leb 520 (length s) h

pub is_short : (s : List ℕ) → length s < 520 → long s ≡ false
is_short s h = lt-leb 520 (length s) h

pub both_long : (s o : List ℕ) → 520 ≤ length s → 520 ≤ length o → long s && long o ≡ true
both_long s o h k = rw (is_long s h, is_long o k) refl

pub other_short : (s o : List ℕ) → 520 ≤ length s → length o < 520 → long s && long o ≡ false
other_short s o h k = rw (is_long s h, is_short o k) refl

pub own_short : (s o : List ℕ) → length s < 520 → long s && long o ≡ false
own_short s o h = rw (is_short s h) refl

-- a short area: 2, and nothing is changed
pub short_kept : (s : List ℕ) (b : Bool) (c : Ends Unit VectorClock) (told : Told) → b ≡ false → told ≡ told_of ShortArea → (told, s) ≡ exported told_by (on_area b s c)
short_kept s b c told e q = rw e (λ i. (q i, s))

pub short_number : (s : List ℕ) (b : Bool) (c : Ends ℕ VectorClock) (r : ClockTold) → b ≡ false → r ≡ count_told (refused ShortArea)
    → (r, s) ≡ exported count_told (on_area b s c)
short_number s b c r e q = rw e (λ i. (q i, s))

-- a long one: the call on the clock in it, written back where it was carried out
pub long_kept : {A T : Type 0} (told : Answer A → T) (s t : List ℕ) (b : Bool) (c : Ends A VectorClock) (x : Answer A) (own : VectorClock) (r : T) → b ≡ true
    → ends x own ≡ c → t ≡ if_done x (put_at s 0 (clock_bytes own)) s → r ≡ told x → (r, t) ≡ exported told (on_area b s c)
long_kept told s t b c x own r e f p q = rw (e, ← f) (λ i. (q i, p i))

-- an empty clock written
pub new_kept : (s t : List ℕ) (told : Told) (d : VectorClock) → long s ≡ true → d ≡ clock_of [] → t ≡ put_at s 0 (clock_bytes d) → told ≡ accepted
    → (told, t) ≡ exported told_by (on_area (long s) s (ends (done nothing) (clock_of [])))
new_kept s t told d e f p q = rw (e, ← f) (λ i. (q i, p i))

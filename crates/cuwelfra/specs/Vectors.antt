-- The exported vector clock calls: a clock goes as an area, its count and 32 pairs. 2 for a short area, then the call's own refusals; a refusal
-- leaves the area.
use Rattle.std.specs.Prelude.{ℕ, Bool, true, false, ◌&&◌, [], length, leb}
use Rattle.words.specs.Names.{Author, Seq, Area}
use Rattle.words.specs.Sizes.{clock_size}
use Rattle.words.specs.Choice.{pick}
use Rattle.error.specs.declared.Refusal.TheVariants.{ShortArea}
use Rattle.error.specs.Numbers.{told_of}
use Rattle.std.specs.declared.result.Result.TheVariants.{Ok, Err}
use Rattle.error.specs.Answer.{Answer, done, refused, unless, accepted, nothing, ends}
use Rattle.error.specs.declared.Ends.{Ends}
use Rattle.clock.specs.declared.vector.VectorClock.{VectorClock}
use Rattle.clock.specs.declared.vector.CausalOrder.{CausalOrder}
use Rattle.clock.specs.declared.vector.CausalOrder.TheVariants.{Before, After, Equal, Concurrent}
use Rattle.clock.specs.Vector.{clock_of, get_call, observe_call, increment_call, merge_call, dominates_call, compare_call}
use Rattle.clock.specs.Area.{clock_at, clock_bytes}
use Rattle.cuwelfra.specs.Exports.{written_back}
use Rattle.cuwelfra.specs.declared.vector.ClockTold.{ClockTold}

-- the area has room for a clock
abbrev pub long : Area → Bool
long s = leb clock_size (length s)

-- a call on the clock in s, where every area is long enough
abbrev pub on_area : {A : Type 0} → (enough : Bool) → Area → Ends A VectorClock → Ends A Area
on_area enough s c = pick enough (written_back clock_bytes s c) (ends (refused ShortArea) s)

unfoldable pub new_area : Area → Ends Unit Area
new_area s = on_area (long s) s (ends (done nothing) (clock_of []))

unfoldable pub observe_area : Area → Author → Seq → Ends Unit Area
observe_area s a n = on_area (long s) s (observe_call (clock_at s 0) a n)

unfoldable pub increment_area : Area → Author → Ends Seq Area
increment_area s a = on_area (long s) s (increment_call (clock_at s 0) a)

unfoldable pub merge_area : (own other : Area) → Ends Unit Area
merge_area s o = on_area (long s && long o) s (merge_call (clock_at s 0) (clock_at o 0))

unfoldable pub get_area : Area → Author → Answer Seq
get_area s a = unless (long s) ShortArea (get_call (clock_at s 0) a)

unfoldable pub dominates_area : (own other : Area) → Answer Bool
dominates_area s o = unless (long s && long o) ShortArea (dominates_call (clock_at s 0) (clock_at o 0))

unfoldable pub compare_area : (own other : Area) → Answer CausalOrder
compare_area s o = unless (long s && long o) ShortArea (compare_call (clock_at s 0) (clock_at o 0))

-- answers as numbers: a count or a clock's number
abbrev pub count_told : Answer ℕ → ClockTold
count_told (Ok n) = record { told = accepted; number = n }
count_told (Err r) = record { told = told_of r; number = 0 }

-- 1 covers, 0 does not
abbrev pub cover_told : Answer Bool → ClockTold
cover_told (Ok true) = count_told (done 1)
cover_told (Ok false) = count_told (done 0)
cover_told (Err r) = count_told (refused r)

-- 0 Before, 1 After, 2 Equal, 3 Concurrent
abbrev pub order_told : Answer CausalOrder → ClockTold
order_told (Ok Before) = count_told (done 0)
order_told (Ok After) = count_told (done 1)
order_told (Ok Equal) = count_told (done 2)
order_told (Ok Concurrent) = count_told (done 3)
order_told (Err r) = count_told (refused r)

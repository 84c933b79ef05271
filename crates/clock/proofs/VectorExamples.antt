-- Document 01, proved by computing. 01: "{1: 2} and {2: 1} are concurrent"; "{1: 0} compares Equal to {} yet is other content".
use mathlib.Core.Path.{◌≡◌, refl}
use mathlib.Core.List.{[], ◌∷◌}
use Rattle.words.specs.Areas.{pad}
use Rattle.error.specs.Answer.{done}
use Rattle.clock.specs.Entries.{rising, get, dominates}
use Rattle.clock.specs.Vector.{pairs, authors_of, numbers_of, zeros, entries, clock_of, sound, order_of, compare_call}
use Rattle.clock.specs.declared.vector.CausalOrder.TheVariants.{Equal, Concurrent}

pub concurrent : compare_call (clock_of ((1, 2) ∷ [])) (clock_of ((2, 1) ∷ [])) ≡ done Concurrent
unfolding compare_call sound entries clock_of pad pairs authors_of numbers_of zeros rising get dominates order_of
concurrent = refl

pub zero_equal : compare_call (clock_of ((1, 0) ∷ [])) (clock_of []) ≡ done Equal
unfolding compare_call sound entries clock_of pad pairs authors_of numbers_of zeros rising get dominates order_of
zero_equal = refl

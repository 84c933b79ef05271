-- What the functions that move and test blocks of an area promise. Inside: need not be believed.
use Rattle.std.specs.Prelude.{ℕ, ◌+◌, ◌-◌, ◌≤◌, ◌<◌, ◌≡◌, List, ◌++◌, take, drop, get_or}
use Rattle.words.specs.Names.{Area, Position}

-- every element from `from` up to `to` is zero
abbrev pub ZeroIn : List ℕ → ℕ → ℕ → Type 0
ZeroIn s from to = (k : ℕ) → from ≤ k → k < to → get_or s k 0 ≡ 0

-- s with the elements from `from` up to `to` moved up by `by`: what lay below from + by stays
unfoldable pub moved_up : (from to by : Position) → Area → Area
moved_up from to by s = take (from + by) s ++ (take (to - from) (drop from s) ++ drop (to + by) s)

-- s with the elements from `from` up to `to` moved down by `by`: what lies from to - by on stays
unfoldable pub moved_down : (from to by : Position) → Area → Area
moved_down from to by s = take (from - by) s ++ (take (to - from) (drop from s) ++ drop (to - by) s)

-- What is written to a lent area, and where a part of one lies.
use Rattle.std.specs.Prelude.{ℕ, ◌+◌, ◌-◌, ◌≡◌, List, ◌++◌, length, take, drop, replicate}
use Rattle.words.specs.Names.{Area, Position}

-- s with the elements of vs from `at` on, where they lie within it. Of a shorter s: what lies before `at`, then vs
unfoldable pub put_at : Area → Position → List ℕ → Area
put_at s at vs = take at s ++ vs ++ drop (at + length vs) s

-- l, and zeros up to n elements
unfoldable pub pad : ℕ → List ℕ → List ℕ
pad n l = l ++ replicate (n - length l) 0

-- every element is zero
abbrev pub Zero : List ℕ → Type 0
Zero s = s ≡ replicate (length s) 0

-- the place n bytes behind p; a place is a block of memory and an offset in it
abbrev pub behind : ℕ × ℕ → ℕ → ℕ × ℕ
behind p n = (p.0, n + p.1)

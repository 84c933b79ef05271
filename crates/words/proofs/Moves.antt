-- Laws of moves.
use Prim.Native.Nat.{ℕ, suc, ◌+◌, ◌-◌, ◌≤◌, ◌<◌}
use mathlib.Core.Path.{◌≡◌, ◌∙◌, sym, ap}
use mathlib.Core.List.{List, [], ◌∷◌, ◌++◌, append_assoc}
use native.Mathlib.Omega.{arith}
use lib.ListN.{length, take, drop, get_or, set, length-take, length-drop, length-append, take-append-drop, get_or-append}
use lib.Seq.{drop-cons, get_or-take, set-append_left, take-suc-set, take-set-lt, length-take-le}
use Rattle.std.specs.List.{copy_within}
use Rattle.words.specs.Inside.Moves.{moved_up, moved_down}

-- a copy within s, upwards and downwards
pub copied_up : (s : List ℕ) (from to by : ℕ) → from ≤ to → copy_within s from to (from + by) ≡ moved_up from to by s
unfolding moved_up
copied_up s from to by h =
    let e : from + by + (to - from) ≡ to + by = omega arith in
    rw e (append_assoc (take (from + by) s) (take (to - from) (drop from s)) (drop (to + by) s))

pub copied_down : (s : List ℕ) (from to by : ℕ) → by ≤ from → from ≤ to → copy_within s from to (from - by) ≡ moved_down from to by s
unfolding moved_down
copied_down s from to by h k =
    let e : from - by + (to - from) ≡ to - by = omega arith in
    rw e (append_assoc (take (from - by) s) (take (to - from) (drop from s)) (drop (to - by) s))

module _ (s : List ℕ) (to by j : ℕ) (h : j < to) (k : to + by ≤ length s) where
  up_read : get_or (moved_up (j + 1) to by s) j 0 ≡ get_or s j 0
  unfolding moved_up
  up_read =
      get_or-append (take (j + 1 + by) s) _ 0 j (simp length-take (omega arith)) ∙ get_or-take (j + 1 + by) s j 0 (omega arith)

  top : set (take (j + 1 + by) s) (j + by) (get_or s j 0) ≡ take (j + by) s ++ (get_or s j 0 ∷ [])
  top =
      let e : j + 1 + by ≡ suc (j + by) = omega arith in
      rw e (sym (take-set-lt (suc (j + by)) s (j + by) (get_or s j 0) (omega arith)) ∙ take-suc-set s (j + by) (get_or s j 0) (omega arith))

  more : get_or s j 0 ∷ take (to - (j + 1)) (drop (j + 1) s) ≡ take (to - j) (drop j s)
  more =
      let e : j + 1 ≡ suc j = omega arith in
      let f : to - j ≡ suc (to - suc j) = omega arith in
      let g : j < length s = omega arith in
      rw (e, f, drop-cons s j 0 g)

  stored : set (moved_up (j + 1) to by s) (j + by) (get_or s j 0) ≡ moved_up j to by s
  unfolding moved_up
  stored =
      set-append_left (take (j + 1 + by) s) _ (j + by) (get_or s j 0) (simp length-take (omega arith))
      ∙ rw (top, append_assoc, ← more)

  pub up_step : set (moved_up (j + 1) to by s) (j + by) (get_or (moved_up (j + 1) to by s) j 0) ≡ moved_up j to by s
  up_step = rw up_read stored

-- the turn of the loop, at the list t that it has
pub up_turn : (s t : List ℕ) (i to by : ℕ) → t ≡ moved_up i to by s → 0 < i → i ≤ to → to + by ≤ length s
    → set t (i - 1 + by) (get_or t (i - 1) 0) ≡ moved_up (i - 1) to by s
up_turn s t i to by e h k l =
    let f : i ≡ i - 1 + 1 = omega arith in
    rw (e ∙ ap (λ (n : ℕ). moved_up n to by s) f) (up_step s to by (i - 1) (omega arith) l)

pub up_none : (s : List ℕ) (to by : ℕ) → s ≡ moved_up to to by s
unfolding moved_up
up_none s to by =
    let e : to - to ≡ 0 = omega arith in
    rw e (sym (take-append-drop (to + by) s))

-- downwards
pub down_length : (s : List ℕ) (from to by : ℕ) → by ≤ from → from ≤ to → to ≤ length s → length (moved_down from to by s) ≡ length s
unfolding moved_down
down_length s from to by h k l =
    let a : length (take (from - by) s) ≡ from - by = length-take-le (from - by) s (omega arith) in
    let b : length (take (to - from) (drop from s)) ≡ to - from = length-take-le (to - from) (drop from s) (simp length-drop (omega arith)) in
    simp (length-append, a, b, length-drop) (omega arith)

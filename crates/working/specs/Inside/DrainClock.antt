-- The clock that rows are drained by, as two columns, of which n places are used. Inside: need not be believed.
use Rattle.std.specs.Prelude.{ℕ, ◌+◌, ◌≤◌, ◌≡◌, true, List, length, take}
use Rattle.words.specs.Names.{Author, Seq, Clock}
use Rattle.clock.specs.Entries.{rising, put}
use Rattle.clock.specs.Vector.{pairs}

unfoldable pub ticks : (authors : List Author) (numbers : List Seq) (n : ℕ) → Clock
ticks ks ns n = pairs (take n ks) (take n ns)

-- the clock keeps its rules
pub record Clocked (ks : List Author) (ns : List Seq) (n : ℕ) : Type 0 where
  pub authors : n ≤ length ks
  pub numbers : n ≤ length ns
  pub rises : rising 0 (ticks ks ns n) ≡ true

-- the clock with an author's number put in
pub record Ticked (ks : List Author) (ns : List Seq) (n : ℕ) (a : Author) (v : Seq) (ks' : List Author) (ns' : List Seq) (m : ℕ) : Type 0 where
  pub is : ticks ks' ns' m ≡ put (ticks ks ns n) a v
  pub clocked : Clocked ks' ns' m
  pub few : m ≤ n + 1

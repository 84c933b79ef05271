-- A vector clock as a list of authors and their numbers, the authors strictly rising. 01: "BTreeMap in clocks: sorted array and count, by value."
use Rattle.std.specs.Prelude.{suc, ◌+◌, max, Bool, true, ◌&&◌, [], ◌∷◌, eqb, ltb, leb}
use Rattle.words.specs.Names.{Author, Seq, Clock}
use Rattle.words.specs.Choice.{pick}

-- authors strictly rise, the first at least lo
unfoldable pub rising : Author → Clock → Bool
rising lo [] = true
rising lo ((a, n) ∷ es) = leb lo a && rising (suc a) es

-- 01: "An absent author counts as 0"
unfoldable pub get : Clock → Author → Seq
get [] x = 0
get ((a, n) ∷ es) x = pick (eqb a x) n (get es x)

-- an author's number set to n, in the author's place
unfoldable pub put : Clock → Author → Seq → Clock
put [] a n = (a, n) ∷ []
put ((b, m) ∷ es) a n = pick (eqb b a) ((a, n) ∷ es) (pick (ltb a b) ((a, n) ∷ (b, m) ∷ es) ((b, m) ∷ put es a n))

-- VectorClock::observe; no zero is entered. rs: "Raises the entry for actor to at least seq."
unfoldable pub observe : Clock → Author → Seq → Clock
observe es a n = pick (ltb (get es a) n) (put es a n) es

-- the same, but that 0 is entered too. 01: "{1: 0} compares Equal to {} yet is other content"
unfoldable pub enter : Clock → Author → Seq → Clock
enter es a n = put es a (max (get es a) n)

-- VectorClock::increment
unfoldable pub increment : Clock → Author → Clock
increment es a = put es a (get es a + 1)

-- VectorClock::merge: observes each entry of the other
unfoldable pub merge : (own other : Clock) → Clock
merge es [] = es
merge es ((a, n) ∷ os) = merge (observe es a n) os

-- VectorClock::dominates. rs: "Whether every entry of other is covered by self."
unfoldable pub dominates : (own other : Clock) → Bool
dominates es [] = true
dominates es ((a, n) ∷ os) = leb n (get es a) && dominates es os

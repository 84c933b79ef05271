-- The calls of a VectorClock. 01: "the rules for clocks in a clock .. lent alone" are 1; "a clock or the watermarks would pass 32 authors" is 18;
-- "a clock's number cannot grow" is 19. A refusal leaves the clock.
use Rattle.std.specs.Prelude.{ℕ, ◌+◌, ◌^◌, ◌≡◌, Bool, true, false, ◌&&◌, List, [], ◌∷◌, length, take, drop, ltb, leb, eqb}
use Rattle.words.specs.Names.{Author, Seq, Clock}
use Rattle.words.specs.Sizes.{most_authors}
use Rattle.words.specs.Choice.{pick}
use Rattle.words.specs.Areas.{pad}
use Rattle.error.specs.declared.Refusal.TheVariants.{UnsoundStore, AuthorsFull, CounterOverflow}
use Rattle.error.specs.Answer.{Answer, done, refused, unless, nothing, ends}
use Rattle.error.specs.declared.Ends.{Ends}
use Rattle.clock.specs.Entries.{rising, get, observe, increment, merge, dominates}
use Rattle.clock.specs.FidgeMattern.{Ordered, Join}
use Rattle.clock.specs.declared.vector.VectorClock.{VectorClock}
use Rattle.clock.specs.declared.vector.CausalOrder.{CausalOrder}
use Rattle.clock.specs.declared.vector.CausalOrder.TheVariants.{Before, After, Equal, Concurrent}

-- two columns side by side
unfoldable pub pairs : List Author → List Seq → Clock
pairs [] ns = []
pairs (a ∷ as') [] = []
pairs (a ∷ as') (n ∷ ns) = (a, n) ∷ pairs as' ns

unfoldable pub authors_of : Clock → List Author
authors_of [] = []
authors_of ((a, n) ∷ es) = a ∷ authors_of es

unfoldable pub numbers_of : Clock → List Seq
numbers_of [] = []
numbers_of ((a, n) ∷ es) = n ∷ numbers_of es

-- all zero
unfoldable pub zeros : List ℕ → Bool
zeros [] = true
zeros (x ∷ xs) = eqb x 0 && zeros xs

-- the entries of a clock: its used places
unfoldable pub entries : VectorClock → Clock
entries c = pairs (take c.count c.authors) (take c.count c.numbers)

-- the one clock with these entries: unused places are zero
unfoldable pub clock_of : Clock → VectorClock
clock_of es = record { authors = pad most_authors (authors_of es); numbers = pad most_authors (numbers_of es); count = length es }

-- the rules. LAYOUT: "count, 0 to 32"; "Authors of the used entries strictly rise. Entries from count on are zero."
unfoldable pub sound : VectorClock → Bool
sound c =
    leb c.count most_authors
    && rising 0 (entries c)
    && zeros (drop c.count c.authors)
    && zeros (drop c.count c.numbers)

-- how a call on c ends whose entries would be es: 18 where they are more than 32
unfoldable pub grown : {A : Type 0} → VectorClock → Clock → A → Ends A VectorClock
grown c es a = pick (leb (length es) most_authors) (ends (done a) (clock_of es)) (ends (refused AuthorsFull) c)

unfoldable pub get_call : VectorClock → Author → Answer Seq
get_call c a = unless (sound c) UnsoundStore (done (get (entries c) a))

unfoldable pub observe_call : VectorClock → Author → Seq → Ends Unit VectorClock
observe_call c a n = pick (sound c) (grown c (observe (entries c) a n) nothing) (ends (refused UnsoundStore) c)

unfoldable pub increment_call : VectorClock → Author → Ends Seq VectorClock
increment_call c a =
    pick (sound c)
    (pick (ltb (get (entries c) a + 1) (2 ^ 64)) (grown c (increment (entries c) a) (get (entries c) a + 1)) (ends (refused CounterOverflow) c))
    (ends (refused UnsoundStore) c)

unfoldable pub merge_call : (own other : VectorClock) → Ends Unit VectorClock
merge_call c d = pick (sound c && sound d) (grown c (merge (entries c) (entries d)) nothing) (ends (refused UnsoundStore) c)

unfoldable pub dominates_call : (own other : VectorClock) → Answer Bool
dominates_call c d = unless (sound c && sound d) UnsoundStore (done (dominates (entries c) (entries d)))

-- VectorClock::compare, by whether the first covers the second, and the second the first
unfoldable pub order_of : (over under : Bool) → CausalOrder
order_of true true = Equal
order_of true false = After
order_of false true = Before
order_of false false = Concurrent

unfoldable pub compare_call : (own other : VectorClock) → Answer CausalOrder
compare_call c d =
    unless (sound c && sound d) UnsoundStore
    (done (order_of (dominates (entries c) (entries d)) (dominates (entries d) (entries c))))

-- what compare promises: its answer, and that this is Fidge's and Mattern's order on functions from authors to numbers
pub record Compares (c d : VectorClock) (r : Answer CausalOrder) : Type 0 where
  pub answer : r ≡ compare_call c d
  pub order : (o : CausalOrder) → r ≡ done o → Ordered (get (entries c)) (get (entries d)) o

-- what merge promises of a clock c that becomes c': how it ends, and that this is the least upper bound in that order
pub record Merges (c d : VectorClock) (r : Answer Unit) (c' : VectorClock) : Type 0 where
  pub ended : ends r c' ≡ merge_call c d
  pub join : r ≡ done nothing → Join (get (entries c)) (get (entries d)) (get (entries c'))

-- How the code reaches a clock's entries: a search in the column of authors, and a number put into a column. Inside: need not be believed.
use Rattle.std.specs.Prelude.{ℕ, suc, ◌+◌, ◌-◌, Bool, true, ◌&&◌, List, [], ◌∷◌, ◌++◌, take, drop, eqb, ltb, leb}
use Rattle.words.specs.Names.{Author}
use Rattle.words.specs.Choice.{pick}
use Rattle.std.specs.declared.result.Result.{Result}
use Rattle.std.specs.declared.result.Result.TheVariants.{Ok, Err}
use Rattle.error.specs.Answer.{Answer, done, refused, nothing, ends}
use Rattle.error.specs.declared.Ends.{Ends}
use Rattle.clock.specs.declared.vector.VectorClock.{VectorClock}

-- strictly rising, the first at least lo
unfoldable pub ascending : Author → List Author → Bool
ascending lo [] = true
ascending lo (a ∷ ks) = leb lo a && ascending (suc a) ks

-- where an author stands, or where it is to be put
abbrev pub Place : Type 0
Place = Result ℕ ℕ

-- one place on
unfoldable pub next : Place → Place
next (Ok i) = Ok (suc i)
next (Err i) = Err (suc i)

-- the place of an author among authors
unfoldable pub search : List Author → Author → Place
search [] a = Err 0
search (b ∷ ks) a = pick (eqb b a) (Ok 0) (pick (ltb a b) (Err 0) (next (search ks a)))

-- s, of which n are used, with v put in at i
unfoldable pub put_in : List ℕ → (n i v : ℕ) → List ℕ
put_in s n i v = take i s ++ (v ∷ (take (n - i) (drop i s) ++ drop (n + 1) s))

-- a call on c that hands the clock on, and leaves c where it is refused
abbrev pub moved_on : VectorClock → Answer VectorClock → Ends Unit VectorClock
moved_on c (Ok d) = ends (done nothing) d
moved_on c (Err r) = ends (refused r) c

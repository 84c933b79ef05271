-- What a look at the row of a reference finds. Inside: need not be believed.
use Rattle.std.specs.Prelude.{ℕ, suc, ◌≡◌, Bool, ◌&&◌, Option, Some, None, List, [], ◌∷◌, ◌++◌, eqb}
use Rattle.words.specs.Names.{Author, Seq, Bytes, Area, Position, Clock}
use Rattle.clock.specs.Order.{less, stamp_key}
use Rattle.row.specs.Rows.{Row, work_key}
use Rattle.row.specs.Reading.{read_row}
use Rattle.merging.specs.Merging.{ready}
use Rattle.working.specs.Inside.References.{work_row, arrived_by}
use Rattle.working.specs.declared.looks.Key.{Key}
use Rattle.words.specs.Choice.{pick}

-- the row of a reference: that does not depend on when it arrived
unfoldable pub ref_row : (held : Area) (batch : Bytes) (k : ℕ) → Row
ref_row held batch k = (work_row held batch 0 k).row

-- the row at `at` of a batch
unfoldable pub batch_row_at : Bytes → Position → Row
batch_row_at batch at = (arrived_by 0 (read_row batch at)).row

-- what rows are known and ordered by
pub record KeyOf (r : Row) (key : Key) : Type 0 where
  pub stamp : key.stamp ≡ r.stamp
  pub author : key.actor.0 ≡ r.author
  pub seq : key.seq ≡ r.seq

unfoldable pub numbers_of : Key → List ℕ
numbers_of key = stamp_key key.stamp ++ (key.actor.0 ∷ key.seq ∷ [])

-- tests of a reference
unfoldable pub ready_ref : Clock → (held : Area) (batch : Bytes) (k : ℕ) → Bool
ready_ref clock held batch k = ready clock (ref_row held batch k)

unfoldable pub id_ref : Author → Seq → (held : Area) (batch : Bytes) (k : ℕ) → Bool
id_ref author seq held batch k = eqb author (ref_row held batch k).author && eqb seq (ref_row held batch k).seq

unfoldable pub before_ref : Key → (held : Area) (batch : Bytes) (k : ℕ) → Bool
before_ref key held batch k = less (numbers_of key) (work_key (ref_row held batch k))

-- the same place, one further on
unfoldable pub later : Option ℕ → Option ℕ
later (Some i) = Some (suc i)
later None = None

-- the place of the first reference that p is true of
unfoldable pub first_where : (ℕ → Bool) → List ℕ → Option ℕ
first_where p [] = None
first_where p (k ∷ ks) = pick (p k) (Some 0) (later (first_where p ks))

-- that place, or the end
unfoldable pub place_in : (n : ℕ) → Option ℕ → ℕ
place_in n (Some i) = i
place_in n None = n

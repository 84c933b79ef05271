-- Authors of rows as numbers, as the quota functions count them. Inside: need not be believed.
use Rattle.std.specs.Prelude.{ℕ, ◌≡◌, true, Option, Some, None, List, [], ◌∷◌}
use Rattle.words.specs.Names.{Author, Bytes, Area, Clock}
use Rattle.replicated_log.specs.Store.{Mark, marks_rise}
use Rattle.replicated_log.specs.Inside.StoreTests.{marks_in}
use Rattle.replicated_log.specs.Inside.StoreChanges.{TableOk}
use Rattle.merging.specs.Merging.{Over, nobody, author}
use Rattle.working.specs.Inside.Looks.{ref_row}

-- the authors of the rows that references stand for
unfoldable pub authors_of : (held : Area) (batch : Bytes) → (references : List ℕ) → List Author
authors_of held batch [] = []
authors_of held batch (k ∷ ks) = (ref_row held batch k).author ∷ authors_of held batch ks

-- what the code's answer stands for
abbrev pub over_of : Option Author → Over
over_of None = nobody
over_of (Some a) = author a

-- the authors of watermarks, each with the number 1
unfoldable pub marked : List Mark → Clock
marked [] = []
marked (m ∷ ms) = (m.author, 1) ∷ marked ms

-- a head whose watermarks keep the rules
pub record Marked (head : Area) : Type 0 where
  pub table : TableOk head
  pub rise : marks_rise 0 (marks_in head) ≡ true

-- A clock in a lent area, docs/LAYOUT.md: its count and 32 pairs of author and number, 65 words.
use Rattle.std.specs.Prelude.{ℕ, ◌+◌, List, [], ◌∷◌, ◌++◌}
use Rattle.words.specs.Names.{Area, Bytes, Position}
use Rattle.words.specs.Sizes.{most_authors, word_size, clock_pairs}
use Rattle.words.specs.Be.{be64, get64, bes, column}
use Rattle.clock.specs.declared.vector.VectorClock.{VectorClock}

-- the clock that stands at `at`
unfoldable pub clock_at : Area → Position → VectorClock
clock_at s at =
    record {
      authors = column s (at + clock_pairs) most_authors;
      numbers = column s (at + (clock_pairs + word_size)) most_authors;
      count = get64 s at;
    }

-- two columns, one word of each in turn
unfoldable pub zipped : List ℕ → List ℕ → List ℕ
zipped [] ns = []
zipped (a ∷ as') [] = []
zipped (a ∷ as') (n ∷ ns) = a ∷ n ∷ zipped as' ns

-- the bytes of a clock
unfoldable pub clock_bytes : VectorClock → Bytes
clock_bytes c = be64 c.count ++ bes (zipped c.authors c.numbers)

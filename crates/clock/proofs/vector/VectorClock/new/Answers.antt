use mathlib.Core.Path.{refl}
use Rattle.words.specs.Areas.{pad}
use Rattle.clock.specs.Vector.{clock_of, authors_of, numbers_of}
use Rattle.clock.proofs.vector.VectorClock.new.Goals as goal

pub returns : goal.returns
unfolding clock_of pad authors_of numbers_of
returns c = refl

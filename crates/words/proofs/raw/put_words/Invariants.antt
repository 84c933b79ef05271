use mathlib.Core.Path.{◌≡◌}
use lib.ListN.{take}
use Rattle.words.specs.Be.{bes}
use Rattle.words.specs.Areas.{put_at}
use Rattle.words.proofs.raw.put_words.Given as goal

abbrev pub invariant-loop-i : goal.invariant-loop-i
invariant-loop-i l = l.s ≡ put_at l.initial.s l.at (bes (take l.i l.ws))

-- How an exported call ends: its answer as a struct of numbers, and what it leaves of what it was lent.
use Rattle.words.specs.Names.{Bytes, Area}
use Rattle.words.specs.Areas.{put_at}
use Rattle.std.specs.declared.result.Result.TheVariants.{Ok, Err}
use Rattle.error.specs.Answer.{Answer, ends}
use Rattle.error.specs.declared.Ends.{Ends}

abbrev pub exported : {A L T : Type 0} → (Answer A → T) → Ends A L → T × L
exported told c = (told c.answer, c.left)

-- the first where a call is carried out, the second where it is refused
abbrev pub if_done : {A B : Type 0} → Answer A → (new old : B) → B
if_done (Ok a) new old = new
if_done (Err r) new old = old

-- a call on what stands in an area: its bytes are written back, and a refusal leaves the area
abbrev pub written_back : {A C : Type 0} → (C → Bytes) → Area → Ends A C → Ends A Area
written_back bytes s c = ends c.answer (if_done c.answer (put_at s 0 (bytes c.left)) s)

use Rattle.working.proofs.AdmissionLoop.{admits_by}
use borrow.Author.Rules.{rules}
use Rattle.working.proofs.raw.admit_all.Goals as goal

pub admit_by-requires : goal.admit_by-requires
admit_by-requires c =
    (c.requires.0, c.requires.1, c.requires.2, c.requires.3, c.requires.4, c.start_clock-count.ensures.clocked, c.load_keys.ensures, search rules)

pub returns : goal.returns
returns c = λ time first bs end st e. admits_by c.start_clock-count.ensures.is (c.admit_by.ensures time first bs end st e)

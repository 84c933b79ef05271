use native.Mathlib.Omega.{arith}
use Rattle.working.proofs.Entrance.{puts}
use Rattle.working.proofs.entering.enter.Goals as goal

pub returns : goal.returns
returns c =
    λ held batch x. puts held batch _ _ _ _ _ _ _ _ x (c.place-i.ensures.is held batch _ x.keyed) c.place-i.ensures.within c.put_entry.ensures c.put_key.ensures (omega arith)

use Rattle.std.proofs.Common.{◌≡◌, ◌≤◌, eqb, count_by, take}
use Rattle.quota.proofs.authors.count_of.Given as goal

abbrev pub invariant-loop-b : goal.invariant-loop-b
invariant-loop-b l = (l.count ≤ l.b-index) × (l.count ≡ count_by (λ b. eqb b l.a) (take l.b-index l.b-items))

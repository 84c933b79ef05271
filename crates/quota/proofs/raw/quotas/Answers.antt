use native.Mathlib.Omega.{arith}
use mathlib.Core.Path.{sym, ◌∙◌, ap}
use Rattle.quota.specs.Inside.Authors.{over_of}
use Rattle.quota.proofs.AuthorCounts.{quota_rows, quota_bytes, quota_done, quota_over}
use Rattle.quota.proofs.raw.quotas.Goals as goal

pub returns-then-n-limits : goal.returns-then-n-limits
returns-then-n-limits c = quota_rows _ _ _ _ _ (omega arith)

pub returns-then-bytes_over : goal.returns-then-bytes_over
returns-then-bytes_over c = quota_bytes _ _ _ _ _ (omega arith) _ c.bytes_over.ensures c.if-bytes_over.true

pub returns-in-None : goal.returns-in-None
returns-in-None c = quota_done _ _ _ _ _ (omega arith) _ c.bytes_over.ensures c.if-bytes_over.false (sym (ap over_of c.in-None.is) ∙ c.author_over.ensures)

pub returns-in-Some : goal.returns-in-Some
returns-in-Some c = quota_over _ _ _ _ _ (omega arith) _ c.bytes_over.ensures c.if-bytes_over.false _ (sym (ap over_of c.in-Some.is) ∙ c.author_over.ensures)

use Rattle.quota.proofs.AuthorCounts.{bytes_within_lem, bytes_are}
use Rattle.quota.proofs.raw.bytes_over.Goals as goal

pub returns-then-n-limit : goal.returns-then-n-limit
returns-then-n-limit c = bytes_within_lem _ _ _ _ _ c.requires.0.refs c.if-n-limit.true

pub returns : goal.returns
returns c = bytes_are _ _ _ _ _ _ c.payload_bytes-bytes.ensures

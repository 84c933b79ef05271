use mathlib.Core.Path.{◌∙◌, ap}
use native.Mathlib.Omega.{arith}
use Rattle.words.specs.Be.{get64}
use Rattle.quota.proofs.AuthorCounts.{ref_at_lem, sum_start, sum_turn, sum_end}
use Rattle.quota.proofs.raw.payload_bytes.Goals as goal

pub loop-i-init : goal.loop-i-init
loop-i-init c = (omega arith, sum_start _ _ _ _)

pub payload_len-bytes-requires : goal.payload_len-bytes-requires
payload_len-bytes-requires c = ref_at_lem _ _ _ 0 _ c.loop-i.i _ c.requires.0.refs c.loop-i-test.true (c.get_word-k.ensures ∙ ap (get64 _) (omega arith))

pub loop-i-preserved : goal.loop-i-preserved
loop-i-preserved c = (omega arith, sum_turn _ _ _ _ _ c.loop-i.i _ _ c.loop-i-test.true c.get_word-k.ensures c.payload_len-bytes.ensures.is c.loop-i.invariant.1)

pub returns : goal.returns
returns c = sum_end _ _ _ _ _ c.loop-i.i c.loop-i-test.false c.loop-i.invariant.1

use borrow.Author.Rules.{rules}
use Rattle.std.proofs.Common.{◌+◌, ◌∙◌, sym, arith}
use Rattle.std.proofs.lemmas.List.Edits.{get_or-between}
use Rattle.words.proofs.Words.{block_none, block_zero, block_other, block_all}
use Rattle.words.proofs.raw.block_is_zero.Goals as goal
use Rattle.words.proofs.raw.block_is_zero.Goals.{then-x-ne0, else-x-ne0}

pub loop-x-init : goal.loop-x-init
loop-x-init c = block_none c.args.s.now c.args.at

pub loop-x-preserved : goal.loop-x-preserved
loop-x-preserved c =
    let e = get_or-between c.args.s.now c.args.at (c.args.at + c.args.n) c.loop-x.x-index 0 (omega arith) in
    elim c.if-x-ne0.branch [
      | then-x-ne0 w ↦ block_other _ _ c.loop-x.x-index _ (search (rules, e)) w.zero-is
      | else-x-ne0 w ↦ block_zero _ _ c.loop-x.x-index _ _ (sym e ∙ search rules) w.zero-is c.loop-x.invariant
    ]

pub returns : goal.returns
returns c = block_all c.args.s.now _ c.loop-x.x-index _ _ (search rules) c.loop-x.invariant

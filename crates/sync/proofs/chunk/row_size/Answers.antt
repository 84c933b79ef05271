use Rattle.sync.proofs.chunk.row_size.Goals as goal

pub returns : goal.returns
returns c = (c.row_sizes.ensures.size_is, c.row_sizes.ensures.size_few)

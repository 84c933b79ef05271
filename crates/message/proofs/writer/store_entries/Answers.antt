use Rattle.clock.specs.Vector.{entries}
use Rattle.message.proofs.TaggedWrites.{in_columns_lem}
use Rattle.std.proofs.Common.{length, ◌≡◌, arith}
use Rattle.message.proofs.writer.store_entries.Goals as goal

pub store_clock-requires : goal.store_clock-requires
unfolding entries
store_clock-requires c =
    let long : length c.args.c.now.authors ≡ 32 = omega arith in
    let wide : length c.args.c.now.numbers ≡ 32 = omega arith in
    let fits = in_columns_lem c.args.c.now c.requires.0 long wide in
    (fits.0, fits.1, fits.2, c.requires.1)

pub returns : goal.returns
unfolding entries
returns c = c.store_clock.ensures

use Rattle.message.proofs.TaggedWrites.{in_columns_lem, clock_counted}
use Rattle.std.proofs.Common.{length, ◌≡◌, arith}
use Rattle.message.proofs.writer.entries_len.Goals as goal

pub clock_len-requires : goal.clock_len-requires
clock_len-requires c =
    let long : length c.args.c.now.authors ≡ 32 = omega arith in
    let wide : length c.args.c.now.numbers ≡ 32 = omega arith in
    in_columns_lem c.args.c.now c.requires long wide

pub returns : goal.returns
returns c =
    let long : length c.args.c.now.authors ≡ 32 = omega arith in
    let wide : length c.args.c.now.numbers ≡ 32 = omega arith in
    clock_counted c.args.c.now c.requires long wide c.clock_len.ensures

use Rattle.message.proofs.TaggedWrites.{clock_short, clock_unsound, clock_put}
use Rattle.message.proofs.writer.encode_clock.Goals as goal

pub returns-then-clock-lt520 : goal.returns-then-clock-lt520
returns-then-clock-lt520 c = clock_short _ _ _ c.if-clock-lt520.true

pub returns-then-not-is_sound : goal.returns-then-not-is_sound
returns-then-not-is_sound c =
    clock_unsound c.args.out.now _ c.args.clock.now c.if-clock-lt520.false c.load_clock-c.ensures c.is_sound.ensures c.if-not-is_sound.true

pub returns : goal.returns
returns c =
    clock_put c.args.out.now _ c.args.clock.now c.if-clock-lt520.false c.load_clock-c.ensures c.is_sound.ensures c.if-not-is_sound.false c.put_clock.ensures

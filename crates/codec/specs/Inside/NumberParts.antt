-- A number of at most so many, which `get_varint` and `get_u32` share. Inside: need not be believed.
use Rattle.std.specs.Prelude.{ℕ, drop, leb}
use Rattle.words.specs.Names.{Bytes, Position}
use Rattle.error.specs.declared.Refusal.TheVariants.{VarintOverflow}
use Rattle.error.specs.Answer.{Got, after, need}
use Rattle.codec.specs.Leb128.{groups}
use Rattle.codec.specs.Reading.{get_any, only_shortest}

unfoldable pub get_within : (most : ℕ) → Bytes → Position → Got ℕ
get_within most s at = after (get_any s at) (λ v next. need (leb v most) VarintOverflow (only_shortest (groups (drop at s)) v next))

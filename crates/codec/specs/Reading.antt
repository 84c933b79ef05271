-- The Rust's Reader on a list of bytes and a position: src/codec.rs, `impl Reader`; overlong forms are refused. 01: "truncated, overflow, too large, trailing" are
-- 22 to 25.
use Rattle.std.specs.Prelude.{ℕ, ◌+◌, ◌-◌, ◌^◌, Bool, not, ◌&&◌, length, take, drop, get_or, ltb, leb}
use Rattle.words.specs.Names.{Bytes, Position}
use Rattle.error.specs.declared.Refusal.TheVariants.{Truncated, VarintOverflow, Overlong, TooLarge, TrailingBytes}
use Rattle.error.specs.Answer.{Answer, done, nothing, unless, Got, got, after, need}
use Rattle.codec.specs.Leb128.{groups, has_last, value_of, overlong}
use Rattle.codec.specs.declared.Part.{Part}

-- a byte, or 22 where the bytes run out
unfoldable pub get_u8 : Bytes → Position → Got ℕ
get_u8 s at = need (ltb at (length s)) Truncated (got (get_or s at 0) (at + 1))

-- 01: "at most ten bytes"; "varint above 64 bits". A sequence of more than ten bytes or a value from 2^64 on is 23, even where its end
-- is missing; else a missing end is 22
unfoldable pub judged : (ended : Bool) → (count value : ℕ) → (next : Position) → Got ℕ
judged ended count value next = need (leb count 10 && ltb value (2 ^ 64)) VarintOverflow (need ended Truncated (got value next))

-- the sequence g that starts at `at`
unfoldable pub judge : Bytes → Position → Got ℕ
judge g at = judged (has_last g) (length g) (value_of 0 g) (at + length g)

-- a number in any form, as the Rust reads it
unfoldable pub get_any : Bytes → Position → Got ℕ
get_any s at = judge (groups (drop at s)) at

-- 02: "The varint reader refuses overlong forms". The number v of the sequence g, or 30
unfoldable pub only_shortest : Bytes → ℕ → Position → Got ℕ
only_shortest g v next = need (not (overlong g)) Overlong (got v next)

-- 02: "30 .. after 22 and 23"
unfoldable pub get_varint : Bytes → Position → Got ℕ
get_varint s at = after (get_any s at) (λ v next. only_shortest (groups (drop at s)) v next)

-- a varint that fits 32 bits, else 23; 30 after that 23 too
unfoldable pub get_u32 : Bytes → Position → Got ℕ
get_u32 s at = after (get_any s at) (λ v next. need (ltb v (2 ^ 32)) VarintOverflow (only_shortest (groups (drop at s)) v next))

-- Reader::count, else 24. rs: "Rejects counts above max or above the bytes that remain"
unfoldable pub get_count : Bytes → Position → (limit : ℕ) → Got ℕ
get_count s at limit = after (get_varint s at) (λ n next. need (leb n limit && leb n (length s - next)) TooLarge (got n next))

-- the bytes of a part
unfoldable pub part_of : Bytes → Part → Bytes
part_of s p = take p.len (drop p.start s)

-- a length, and as many bytes
unfoldable pub get_bytes : Bytes → Position → (limit : ℕ) → Got Part
get_bytes s at limit = after (get_count s at limit) (λ n next. got (record { start = next; len = n }) (next + n))

-- nothing may remain: 25
unfoldable pub finish : Bytes → Position → Answer Unit
finish s at = unless (leb (length s) at) TrailingBytes (done nothing)

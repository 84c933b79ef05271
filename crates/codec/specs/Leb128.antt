-- Unsigned LEB128, from DWARF 5, section 7.6: a number is cut into groups of seven bits, the least significant first, each in the low bits of
-- a byte whose high bit is set on all but the last. 01: "Varints go out seven bits to a byte, lowest first, at most ten bytes".
use Rattle.std.specs.Prelude.{ℕ, zero, suc, ◌+◌, ◌-◌, ◌*◌, ◌/◌, ◌%◌, ◌^◌, Bool, true, false, ◌&&◌, [], ◌∷◌, ltb, eqb, length, get_or}
use Rattle.words.specs.Names.{Bytes}
use Rattle.words.specs.Choice.{pick}

-- the bytes of one number: up to and with the first whose high bit is clear; all where there is none
unfoldable pub groups : Bytes → Bytes
groups [] = []
groups (b ∷ bs) = b ∷ pick (ltb b 128) [] (groups bs)

-- some byte has its high bit clear: the number ends
unfoldable pub has_last : Bytes → Bool
has_last [] = false
has_last (b ∷ bs) = pick (ltb b 128) true (has_last bs)

-- the value of a sequence: the sum of its groups, the first at bit k, each next one seven bits higher
unfoldable pub value_of : ℕ → Bytes → ℕ
value_of k [] = 0
value_of k (b ∷ bs) = b % 128 * 2 ^ k + value_of (k + 7) bs

-- 02: "a varint of two or more bytes ends in a zero byte": its last group adds nothing
unfoldable pub overlong : Bytes → Bool
overlong g = ltb 1 (length g) && eqb (get_or g (length g - 1) 0) 0

-- v where it is the last group, else its lowest group with the sign that more follow, and the rest. (By clauses, so that no rest is computed behind the last)
unfoldable pub group_then : (last : Bool) → ℕ → (ℕ → Bytes) → Bytes
group_then true v rest = v ∷ []
group_then false v rest = (v % 128 + 128) ∷ rest (v / 128)

-- the groups of v, where at most n follow the first
unfoldable pub groups_of : (n v : ℕ) → Bytes
groups_of zero v = v % 128 ∷ []
groups_of (suc n) v = group_then (ltb v 128) v (λ w. groups_of n w)

-- the shortest sequence of v: no group is left out, and no group above the highest bit is added. (v groups are always enough)
unfoldable pub shortest : ℕ → Bytes
shortest v = groups_of v v

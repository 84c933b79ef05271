-- Big-endian words in byte lists. LAYOUT: "Everything in a clock, slot, store or peer area is a 64-bit big-endian word".
use Rattle.std.specs.Prelude.{ℕ, zero, suc, ◌+◌, ◌*◌, ◌/◌, ◌%◌, ◌^◌, ◌<◌, List, [], ◌∷◌, ◌++◌, get_or}
use Rattle.words.specs.Names.{Bytes, Position}

-- each element is a byte
abbrev pub AllBytes : Bytes → Type 0
AllBytes s = (i : ℕ) → get_or s i 0 < 256

-- the eight bytes of v, the highest first
unfoldable pub be64 : ℕ → Bytes
be64 v =
    v / 2 ^ 56 % 256 ∷ v / 2 ^ 48 % 256 ∷ v / 2 ^ 40 % 256 ∷ v / 2 ^ 32 % 256
    ∷ v / 2 ^ 24 % 256 ∷ v / 2 ^ 16 % 256 ∷ v / 2 ^ 8 % 256 ∷ v % 256 ∷ []

-- the number that the eight bytes from `at` on stand for
unfoldable pub get64 : Bytes → Position → ℕ
get64 s at =
    get_or s at 0 * 2 ^ 56 + get_or s (at + 1) 0 * 2 ^ 48 + get_or s (at + 2) 0 * 2 ^ 40 + get_or s (at + 3) 0 * 2 ^ 32
    + get_or s (at + 4) 0 * 2 ^ 24 + get_or s (at + 5) 0 * 2 ^ 16 + get_or s (at + 6) 0 * 2 ^ 8 + get_or s (at + 7) 0

-- words one after the other
unfoldable pub bes : List ℕ → Bytes
bes [] = []
bes (w ∷ ws) = be64 w ++ bes ws

-- n words from `at` on
unfoldable pub words_at : Bytes → Position → ℕ → List ℕ
words_at s at zero = []
words_at s at (suc n) = get64 s at ∷ words_at s (at + 8) n

-- n words from `at` on, every second one
unfoldable pub column : Bytes → Position → ℕ → List ℕ
column s at zero = []
column s at (suc n) = get64 s at ∷ column s (at + 16) n

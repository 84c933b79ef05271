-- What numbers and lists are for. A name is read for its meaning; what it names is a number or a list all the same.
use Rattle.std.specs.Prelude.{ℕ, List}

-- 01: "an **author** an `ActorId`"; here by its number
abbrev pub Author : Type 0
Author = ℕ

-- the number that an author gives a row, from 1
abbrev pub Seq : Type 0
Seq = ℕ

-- ms
abbrev pub Time : Type 0
Time = ℕ

-- the bytes of a batch, a payload or a signature; that each is below 256 is said by `AllBytes`
abbrev pub Bytes : Type 0
Bytes = List ℕ

-- the bytes of a lent area
abbrev pub Area : Type 0
Area = List ℕ

-- a position in bytes, from 0
abbrev pub Position : Type 0
Position = ℕ

-- the entries of a vector clock, or the dependencies of a row: an author and its number each
abbrev pub Clock : Type 0
Clock = List (Author × Seq)

-- Document 01's table of refusals and those of document 02, a line each: the number, then the values that it carries.
use Rattle.std.specs.Prelude.{ℕ}
use Rattle.error.specs.declared.Refusal.{Refusal}
use Rattle.error.specs.declared.Refusal.TheVariants.{UnsoundStore, ShortArea, Unreadable, OverCapacity, ZeroSequence, ForeignStamp, SpentCounter, PayloadTooLarge, TooManyCauses, OwnFuture, AheadOfTime, BadSignature, Conflict, HeldOverflow, HeldBytes, AuthorOverflow, LogFull, AuthorsFull, CounterOverflow, RemoteAhead, UnaskedPong, Truncated, VarintOverflow, TooLarge, TrailingBytes, OperationTooLarge, SequenceExhausted, OtherCauses, InvalidTag, Overlong}
use Rattle.error.specs.declared.Told.{Told}

-- a number and two values
abbrev pub told : ℕ → ℕ → ℕ → Told
told number first second = record { number = number; first = first; second = second }

-- 01: "Refusals 5 to 13 carry author and sequence, 14 to 16 the limit, 16 also the author". 20 carries the remote wall and the physical time, which the
-- Rust's RemoteTooFarAhead calls local_wall. A value that there is not is 0
abbrev pub told_of : Refusal → Told
told_of UnsoundStore = told 1 0 0
told_of ShortArea = told 2 0 0
told_of Unreadable = told 3 0 0
told_of OverCapacity = told 4 0 0
told_of (ZeroSequence actor seq) = told 5 actor.0 seq
told_of (ForeignStamp actor seq) = told 6 actor.0 seq
told_of (SpentCounter actor seq) = told 7 actor.0 seq
told_of (PayloadTooLarge actor seq) = told 8 actor.0 seq
told_of (TooManyCauses actor seq) = told 9 actor.0 seq
told_of (OwnFuture actor seq) = told 10 actor.0 seq
told_of (AheadOfTime actor seq) = told 11 actor.0 seq
told_of (BadSignature actor seq) = told 12 actor.0 seq
told_of (Conflict actor seq) = told 13 actor.0 seq
told_of (HeldOverflow limit) = told 14 limit 0
told_of (HeldBytes limit) = told 15 limit 0
told_of (AuthorOverflow limit actor) = told 16 limit actor.0
told_of LogFull = told 17 0 0
told_of AuthorsFull = told 18 0 0
told_of CounterOverflow = told 19 0 0
told_of (RemoteAhead remote physical) = told 20 remote physical
told_of UnaskedPong = told 21 0 0
told_of Truncated = told 22 0 0
told_of VarintOverflow = told 23 0 0
told_of TooLarge = told 24 0 0
told_of TrailingBytes = told 25 0 0
-- 02: "26 when the payload is above 256 bytes or the log's clock above 16 authors"
told_of OperationTooLarge = told 26 0 0
-- 02: "27 when the next sequence cannot be formed"
told_of SequenceExhausted = told 27 0 0
-- 02: "28 when the row's dependencies are not the log's clock, pair for pair"
told_of OtherCauses = told 28 0 0
-- 02: "29 when the tag is none of the five". It carries the tag, as the Rust's InvalidTag(u8)
told_of (InvalidTag tag) = told 29 tag 0
-- 02: "30 when a varint of two or more bytes ends in a zero byte"
told_of Overlong = told 30 0 0

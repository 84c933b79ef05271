-- What is proved of varints and envelopes: what is written is read, nothing shorter would do, one number has one spelling, and when a varint is refused.
-- Statements; their proofs stand in proofs/RoundTrip.antt and proofs/OneSpelling.antt.
use Rattle.std.specs.Prelude.{ℕ, ◌+◌, ◌-◌, ◌^◌, ◌≤◌, ◌<◌, ◌≡◌, true, false, ◌⊎◌, ◌↔◌, ◌++◌, length, take, drop, get_or}
use Rattle.words.specs.Names.{Bytes, Position}
use Rattle.words.specs.Be.{AllBytes}
use Rattle.error.specs.declared.Refusal.TheVariants.{Truncated, VarintOverflow, Overlong}
use Rattle.error.specs.Answer.{done, got, bad}
use Rattle.codec.specs.Leb128.{groups, has_last, value_of, shortest}
use Rattle.codec.specs.Reading.{get_varint, get_u32, part_of}
use Rattle.codec.specs.Envelopes.{max_frame, max_signature, envelope, read_envelope}
use Rattle.codec.specs.declared.Envelope.{Envelope}

-- the bytes of a 64-bit number, anywhere in a list, are read as this number, and the position past them is given
abbrev pub VarintBack : Type 0
VarintBack = (p : Bytes) (v : ℕ) (q : Bytes) → v < 2 ^ 64 → get_varint (p ++ (shortest v ++ q)) (length p) ≡ got v (length p + length (shortest v))

-- 01: "at most ten bytes"
abbrev pub OneToTen : Type 0
OneToTen = (v : ℕ) → v < 2 ^ 64 → (1 ≤ length (shortest v)) × (length (shortest v) ≤ 10)

-- no sequence that ends is shorter and stands for the same number
abbrev pub NoShorter : Type 0
NoShorter = (g : Bytes) → has_last g ≡ true → length (shortest (value_of 0 g)) ≤ length g

-- 22: the end is missing, and neither are the bytes more than ten nor is their value above 64 bits
abbrev pub TruncatedWhen : Type 0
TruncatedWhen =
    (s : Bytes) (at : Position) → (get_varint s at ≡ bad Truncated)
    ↔ ((has_last (groups (drop at s)) ≡ false) × (length (groups (drop at s)) ≤ 10) × (value_of 0 (groups (drop at s)) < 2 ^ 64))

-- 23: more than ten bytes, or a value above 64 bits
abbrev pub OverflowWhen : Type 0
OverflowWhen =
    (s : Bytes) (at : Position) → (get_varint s at ≡ bad VarintOverflow) ↔ ((10 < length (groups (drop at s))) ⊎ (2 ^ 64 ≤ value_of 0 (groups (drop at s))))

-- 02: "30 when a varint of two or more bytes ends in a zero byte, after 22 and 23": so neither of those holds
abbrev pub OverlongWhen : Type 0
OverlongWhen =
    (s : Bytes) (at : Position) → (get_varint s at ≡ bad Overlong)
    ↔ ((has_last (groups (drop at s)) ≡ true) × (length (groups (drop at s)) ≤ 10) × (value_of 0 (groups (drop at s)) < 2 ^ 64)
    × (1 < length (groups (drop at s))) × (get_or (groups (drop at s)) (length (groups (drop at s)) - 1) 0 ≡ 0))

-- ---- one spelling. `AllBytes`: each element is a byte, as in every lent slice

-- the bytes that were read at `at`, next the position past them
abbrev pub spelling : Bytes → (at next : Position) → Bytes
spelling s at next = take (next - at) (drop at s)

-- 02: "LEB128's shortest form decides the rest": what is read is the shortest sequence of its value
abbrev pub OnlyShortest : Type 0
OnlyShortest = (s : Bytes) (at : Position) (v : ℕ) (n : Position) → AllBytes s → get_varint s at ≡ got v n → spelling s at n ≡ shortest v

-- 02: "two readable varints of equal value are equal bytes"
abbrev pub OneSpelling : Type 0
OneSpelling =
    (s t : Bytes) (at bt : Position) (v : ℕ) (n m : Position) → AllBytes s → AllBytes t → get_varint s at ≡ got v n → get_varint t bt ≡ got v m
    → spelling s at n ≡ spelling t bt m

-- of a number of 32 bits as well: what reads as one reads as a varint
abbrev pub U32IsVarint : Type 0
U32IsVarint = (s : Bytes) (at : Position) (v : ℕ) (n : Position) → get_u32 s at ≡ got v n → (get_varint s at ≡ got v n) × (v < 2 ^ 32)

-- ---- envelopes

-- an envelope within the limits that is written is read: the sender, the bytes of the body and those of the signature come back
abbrev pub EnvelopeBack : Type 0
EnvelopeBack =
    (sender : ℕ) (body sig : Bytes) → sender < 2 ^ 64 → length body ≤ max_frame → length sig ≤ max_signature
    → (e : Envelope) × (read_envelope (envelope sender body sig) ≡ done e) × (e.sender.0 ≡ sender)
    × (part_of (envelope sender body sig) e.body ≡ body) × (part_of (envelope sender body sig) e.sig ≡ sig)

-- 02: "envelopes .. change with it": what reads as an envelope is what is written of its sender, body and signature
abbrev pub EnvelopeWritten : Type 0
EnvelopeWritten = (s : Bytes) (e : Envelope) → AllBytes s → read_envelope s ≡ done e → s ≡ envelope e.sender.0 (part_of s e.body) (part_of s e.sig)

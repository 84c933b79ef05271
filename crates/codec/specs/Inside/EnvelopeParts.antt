-- The room and the parts of what codec's private functions write and read. Inside: need not be believed.
use Rattle.std.specs.Prelude.{ℕ, ◌+◌, ◌≤◌, ◌≡◌, [], length, leb}
use Rattle.words.specs.Names.{Author, Bytes, Area, Position}
use Rattle.words.specs.Areas.{put_at, behind}
use Rattle.error.specs.declared.Refusal.TheVariants.{ShortArea}
use Rattle.std.specs.declared.result.Result.TheVariants.{Ok, Err}
use Rattle.error.specs.Answer.{Answer, done, refused, unless, Got, got, bad, after}
use Rattle.codec.specs.Leb128.{shortest}
use Rattle.codec.specs.Reading.{get_bytes, part_of}
use Rattle.codec.specs.declared.Part.{Part}
use Rattle.codec.specs.Envelopes.{max_frame, max_signature, closed}
use Rattle.codec.specs.declared.Envelope.{Envelope}

-- where n bytes from `at` on end in an output of len bytes
unfoldable pub room : (len : ℕ) → Position → (n : ℕ) → Answer Position
room len at n = unless (leb (at + n) len) ShortArea (done (at + n))

-- how long n bytes are with their length first
unfoldable pub sized_length : ℕ → ℕ
sized_length n = length (shortest n) + n

-- how long an envelope is
unfoldable pub envelope_length : Author → (body_len sig_len : ℕ) → ℕ
envelope_length sender body_len sig_len = length (shortest sender) + (sized_length body_len + sized_length sig_len)

-- vs stands at `at`, and next is the position past it
pub record Stored (out : Area) (at : Position) (vs : Bytes) (next : Position) (out' : Area) : Type 0 where
  pub past : next ≡ at + length vs
  pub output : out' ≡ put_at out at vs

-- an envelope from its body on
unfoldable pub read_parts : Bytes → Author → Position → Answer Envelope
read_parts s sender at =
    closed s
    (after (get_bytes s at max_frame) (λ body at.
    after (get_bytes s at max_signature) (λ sig at.
    got (record { sender = record { 0 = sender }; body = body; sig = sig }) at)))

-- a part that was read lies within n bytes
abbrev pub Within : ℕ → Got Part → Type 0
Within n (Ok (p, next)) = p.start + p.len ≤ n
Within n (Err r) = Unit {0}

-- the bytes of a part that was read, none where it was refused
abbrev pub part_in : Bytes → Got Part → Bytes
part_in s (Ok (p, next)) = part_of s p
part_in s (Err r) = []

-- and where they lie, if s lies at p: at its start where the read was refused
abbrev pub part_place : ℕ × ℕ → Got Part → ℕ × ℕ
part_place p (Ok (q, next)) = behind p q.start
part_place p (Err r) = behind p 0

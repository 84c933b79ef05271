-- The layout of an Envelope, src/sync.rs: the sender, then body and signature, each length first. 01: "Envelopes keep the Rust's limits."
use Rattle.std.specs.Prelude.{ℕ, ◌^◌, ◌++◌}
use Rattle.words.specs.Names.{Author, Bytes}
use Rattle.std.specs.declared.result.Result.TheVariants.{Ok, Err}
use Rattle.error.specs.Answer.{Answer, done, refused, and_then, Got, got, bad, after}
use Rattle.codec.specs.Leb128.{shortest}
use Rattle.codec.specs.Reading.{get_varint, get_bytes, finish}
use Rattle.codec.specs.declared.Part.{Part}
use Rattle.codec.specs.Writing.{sized}
use Rattle.stubs.specs.declared.ActorId.{ActorId}
use Rattle.codec.specs.declared.Envelope.{Envelope}

-- rs: "MAX_FRAME: usize = 1 << 24"
abbrev pub max_frame : ℕ
max_frame = 2 ^ 24

-- rs: "MAX_SIGNATURE: usize = 1024"
abbrev pub max_signature : ℕ
max_signature = 1024

-- Envelope::encode
unfoldable pub envelope : Author → (body sig : Bytes) → Bytes
envelope sender body sig = shortest sender ++ (sized body ++ sized sig)

-- the end of a reading: nothing may remain
abbrev pub closed : {A : Type 0} → Bytes → Got A → Answer A
closed s (Ok (a, next)) = and_then (finish s next) (λ end. done a)
closed s (Err r) = refused r

-- Envelope::decode
unfoldable pub read_envelope : Bytes → Answer Envelope
read_envelope s =
    closed s
    (after (get_varint s 0) (λ sender at.
    after (get_bytes s at max_frame) (λ body at.
    after (get_bytes s at max_signature) (λ sig at.
    got (record { sender = record { 0 = sender }; body = body; sig = sig }) at))))

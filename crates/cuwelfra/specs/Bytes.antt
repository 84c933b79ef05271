-- The answers of the exported byte calls as numbers: `told` is document 01's number and values, zero where nothing is refused; behind it a
-- refusal has zeros.
use Rattle.std.specs.Prelude.{ℕ}
use Rattle.words.specs.Names.{Position}
use Rattle.error.specs.Numbers.{told_of}
use Rattle.std.specs.declared.result.Result.TheVariants.{Ok, Err}
use Rattle.error.specs.Answer.{Answer, accepted, Got}
use Rattle.codec.specs.declared.Part.{Part}
use Rattle.codec.specs.declared.Envelope.{Envelope}
use Rattle.cuwelfra.specs.declared.bytes.NumberTold.{NumberTold}
use Rattle.cuwelfra.specs.declared.bytes.PartTold.{PartTold}
use Rattle.cuwelfra.specs.declared.bytes.WrittenTold.{WrittenTold}
use Rattle.cuwelfra.specs.declared.bytes.EnvelopeTold.{EnvelopeTold}

abbrev pub number_told : Got ℕ → NumberTold
number_told (Ok (value, next)) = record { told = accepted; value = value; next = next }
number_told (Err r) = record { told = told_of r; value = 0; next = 0 }

abbrev pub part_told : Got Part → PartTold
part_told (Ok (p, next)) = record { told = accepted; start = p.start; len = p.len; next = next }
part_told (Err r) = record { told = told_of r; start = 0; len = 0; next = 0 }

abbrev pub written_told : Answer Position → WrittenTold
written_told (Ok next) = record { told = accepted; next = next }
written_told (Err r) = record { told = told_of r; next = 0 }

abbrev pub envelope_told : Answer Envelope → EnvelopeTold
envelope_told (Ok e) =
    record {
      told = accepted;
      sender = e.sender.0;
      body_at = e.body.start;
      body_len = e.body.len;
      sig_at = e.sig.start;
      sig_len = e.sig.len;
    }
envelope_told (Err r) =
    record { told = told_of r; sender = 0; body_at = 0; body_len = 0; sig_at = 0; sig_len = 0 }

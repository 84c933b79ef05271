-- The numbers of the message readers' answers. Inside: need not be believed.
use Rattle.std.specs.Prelude.{ℕ}
use Rattle.error.specs.Numbers.{told_of}
use Rattle.std.specs.declared.result.Result.TheVariants.{Ok, Err}
use Rattle.error.specs.Answer.{Answer, accepted}
use Rattle.message.specs.declared.Kind.{Kind}
use Rattle.message.specs.declared.Kind.TheVariants as kind
use Rattle.message.specs.declared.FrameRead.{FrameRead}
use Rattle.cuwelfra.specs.declared.messages.MessageTold.{MessageTold}
use Rattle.cuwelfra.specs.declared.messages.FrameTold.{FrameTold}

abbrev pub kind_tag : Kind → ℕ
kind_tag kind.Hello = 0
kind_tag (kind.Delta n) = 1
kind_tag kind.Ack = 2
kind_tag (kind.Ping n) = 3
kind_tag (kind.Pong n) = 4

abbrev pub kind_number : Kind → ℕ
kind_number kind.Hello = 0
kind_number (kind.Delta n) = n
kind_number kind.Ack = 0
kind_number (kind.Ping n) = n
kind_number (kind.Pong n) = n

abbrev pub read_told : Answer Kind → MessageTold
read_told (Ok k) = record { told = accepted; tag = kind_tag k; number = kind_number k }
read_told (Err r) = record { told = told_of r; tag = 0; number = 0 }

abbrev pub frame_read_told : Answer FrameRead → FrameTold
frame_read_told (Ok f) =
    record {
      told = accepted;
      sender = f.envelope.sender.0;
      body_at = f.envelope.body.start;
      body_len = f.envelope.body.len;
      sig_at = f.envelope.sig.start;
      sig_len = f.envelope.sig.len;
      tag = kind_tag f.kind;
      number = kind_number f.kind;
    }
frame_read_told (Err r) =
    record { told = told_of r; sender = 0; body_at = 0; body_len = 0; sig_at = 0; sig_len = 0; tag = 0; number = 0 }

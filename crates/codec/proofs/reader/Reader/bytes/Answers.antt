use mathlib.Core.Path.{refl, sym}
use Rattle.codec.proofs.ReaderSteps.{bytes_inside}
use Rattle.codec.proofs.reader.Reader.bytes.Goals as goal

pub bytes_of-requires : goal.bytes_of-requires
bytes_of-requires c = bytes_inside _ _ _ _ _ (sym c.in_ok-part.ensures)

pub returns : goal.returns
returns c =
    record {
      handed = rw (← c.in_ok-part.ensures) (record { bytes = c.bytes_of.ensures.0; place = c.bytes_of.ensures.1 });
      reader = rw (← c.in_ok-part.ensures) refl;
    }

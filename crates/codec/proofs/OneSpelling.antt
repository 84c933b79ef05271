-- One number has one spelling: what is read as a varint is the shortest sequence of its value. So has an envelope.
use Prim.Native.Nat.{ℕ, ◌+◌, ◌-◌, ◌≤◌}
use mathlib.Core.Path.{◌≡◌, sym, ◌∙◌, ap}
use mathlib.Core.Bool.{◌&&◌}
use mathlib.Core.List.{List, ◌++◌, append_assoc, append-nil}
use native.Mathlib.Omega.{arith}
use lib.Dec.{leb}
use lib.ListN.{length, take, drop, length-drop, take-append-drop, drop_of_length-le}
use lib.Seq.{drop-drop, get_or-drop, length-take-le}
use Rattle.words.specs.Be.{AllBytes}
use Rattle.error.specs.declared.Refusal.TheVariants.{TooLarge}
use Rattle.error.specs.Answer.{got}
use Rattle.codec.specs.Leb128.{shortest}
use Rattle.codec.specs.Reading.{get_varint, get_count, part_of, get_bytes}
use Rattle.codec.specs.declared.Part.{Part}
use Rattle.codec.specs.Writing.{sized}
use Rattle.codec.specs.Envelopes.{max_frame, max_signature, envelope, read_envelope}
use Rattle.codec.specs.declared.Envelope.{Envelope}
use Rattle.codec.specs.RoundTrip.{OnlyShortest, OneSpelling, EnvelopeWritten}
use Rattle.codec.proofs.ReadSteps.{by, past, got_value, got_next, closed_done}
use Rattle.codec.proofs.Overlong.{not_overlong_shortest}
use Rattle.codec.proofs.LastByte.{groups_first}
use Rattle.codec.proofs.RoundTrip.{bytes_at, ReadVarint, varint_read, varint_short, count_inside}

-- 1. What is read is the shortest sequence of its value.

-- the bytes x stand from `at` to n
pub record Stand (s : List ℕ) (at n : ℕ) (x : List ℕ) : Type 0 where
  pub here : drop at s ≡ x ++ drop n s

-- one behind the other
pub joined : {s : List ℕ} {at m n : ℕ} {x y : List ℕ} → Stand s at m x → Stand s m n y → Stand s at n (x ++ y)
joined {s = s} {n = n} {x = x} {y = y} e f = record { here = e.here ∙ ap (λ (t : List ℕ). x ++ t) f.here ∙ sym (append_assoc x y (drop n s)) }

-- a part of the list
pub part_stands : (s : List ℕ) (m l : ℕ) → Stand s m (m + l) (take l (drop m s))
part_stands s m l = record { here = sym (take-append-drop l (drop m s)) ∙ rw (drop-drop l m s) }

-- all of it
pub all_stands : {s : List ℕ} {n : ℕ} {x : List ℕ} → Stand s 0 n x → length s ≤ n → s ≡ x
all_stands {s = s} {x = x} e h = e.here ∙ rw (drop_of_length-le s h, append-nil x)

module _ (s : List ℕ) (at v n : ℕ) (bs : AllBytes s) (f : get_varint s at ≡ got v n) where
  varint : ReadVarint s at v n
  varint = varint_read s at v n f

  spelled : bytes_at s at ≡ shortest v
  spelled =
      rw varint.value (not_overlong_shortest (drop at s) (λ i. rw (get_or-drop at s i 0) (bs (at + i))) varint.ended (varint_short s at v n f))

  pub varint_stands : Stand s at n (shortest v)
  varint_stands =
      rw (← spelled, ← groups_first (drop at s), varint.next) (part_stands s at (length (bytes_at s at)))

pub only_shortest_lem : OnlyShortest
only_shortest_lem s at v n bs f =
    let l : n - at ≡ length (bytes_at s at) = omega (arith, (varint_read s at v n f).next) in
    rw l (groups_first (drop at s) ∙ spelled s at v n bs f)

pub one_spelling : OneSpelling
one_spelling s t at bt v n m bs ct f g = only_shortest_lem s at v n bs f ∙ sym (only_shortest_lem t bt v m ct g)

-- 2. An envelope.
module _ (s : List ℕ) (bs : AllBytes s) where
  -- bytes, length first
  bytes_stand : (at limit : ℕ) (p : Part) (n : ℕ) → get_bytes s at limit ≡ got p n → Stand s at n (sized (part_of s p))
  unfolding get_bytes get_count part_of sized
  bytes_stand at limit p n e =
      by (get_count s at limit) _ e (λ l m f g.
      by (get_varint s at) _ f (λ w k x y.
      past (leb w limit && leb w (length s - k)) TooLarge _ y (λ t z.
      let q : Stand s at m (shortest l) = rw (← got_value z, ← got_next z) (varint_stands s at w k bs x) in
      let c : length (take l (drop m s)) ≡ l = length-take-le l (drop m s) (omega (arith, count_inside s at limit l m f, length-drop m s)) in
      rw (← got_value g, ← got_next g, c) (joined q (part_stands s m l)))))

pub envelope_written : EnvelopeWritten
unfolding read_envelope envelope
envelope_written s e bs f =
    let (n, g, h) = closed_done s _ f in
    by (get_varint s 0) _ g (λ v a1 x1 e1.
    by (get_bytes s a1 max_frame) _ e1 (λ body a2 x2 e2.
    by (get_bytes s a2 max_signature) _ e2 (λ sig a3 x3 e3.
    let w : ◌≡◌ {A = Envelope} (record { sender = record { 0 = v }; body = body; sig = sig }) e = got_value e3 in
    rw (← w)
    (all_stands
    (joined (varint_stands s 0 v a1 bs x1) (joined (bytes_stand s bs a1 max_frame body a2 x2) (bytes_stand s bs a2 max_signature sig a3 x3)))
    (omega (arith, got_next e3))))))

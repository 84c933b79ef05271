-- A tag, and what is written behind it: a clock, or a number.
use Prim.Native.Nat.{ℕ, ◌+◌, ◌*◌, ◌≤◌, ◌<◌}
use mathlib.Core.Path.{◌≡◌, refl, sym, ◌∙◌}
use mathlib.Core.Bool.{Bool, true, false}
use mathlib.Core.List.{List, [], ◌∷◌}
use native.Mathlib.Omega.{arith}
use lib.ListN.{length, take, set}
use borrow.Author.Tests.{le-leb, lt-leb}
use Rattle.error.specs.declared.Refusal.{Refusal}
use Rattle.error.specs.declared.Refusal.TheVariants.{ShortArea, UnsoundStore}
use Rattle.std.specs.declared.result.Result.TheVariants.{Ok, Err}
use Rattle.error.specs.Answer.{Answer, done, refused, and_then, ends}
use Rattle.error.specs.declared.Ends.{Ends}
use Rattle.codec.specs.Leb128.{shortest}
use Rattle.codec.specs.Writing.{write_call}
use Rattle.codec.specs.Inside.EnvelopeParts.{Stored, room}
use Rattle.codec.proofs.WriterLaws.{put_one, rest_room, stored_then}
use Rattle.clock.specs.declared.vector.VectorClock.{VectorClock}
use Rattle.clock.specs.Vector.{pairs, entries, sound}
use Rattle.clock.specs.Area.{clock_at}
use Rattle.clock.proofs.ClockEntries.{sound_few}
use Rattle.row.specs.Wire.{deps_bytes}
use Rattle.row.specs.Inside.WireLengths.{varint_len, pairs_len}
use Rattle.row.proofs.DepsPairs.{length_pairs}
use Rattle.row.proofs.WireLengths.{length_deps_bytes}
use Rattle.row.proofs.SlotWrites.{found_room, put_all, put_none}
use Rattle.replicated_log.specs.Calls.{read_clock}
use Rattle.message.specs.Messages.{hello, ack, message_bytes}
use Rattle.message.specs.Calls.{write_message, encode_hello, encode_ack, encode_ping, encode_pong}
use Rattle.message.specs.Inside.WriterParts.{write_clock, encode_clock}

-- ---- the tag
pub tag_stored : (s : List ℕ) (tag : ℕ) → 1 ≤ length s → Stored s 0 (tag ∷ []) 1 (set s 0 tag)
tag_stored s tag h = record { past = refl; output = put_one s 0 tag (omega arith) }

module _ (s : List ℕ) (tag : ℕ) (vs : List ℕ) (h : 0 + length (tag ∷ vs) ≤ length s) where
  pub tag_room : 1 ≤ length s
  tag_room = omega arith

  module _ {at : ℕ} {t : List ℕ} (d : Stored s 0 (tag ∷ []) at t) where
    pub behind_room : at + length vs ≤ length t
    behind_room = rest_room vs d h

    pub tagged : {n : ℕ} {u : List ℕ} → Stored t at vs n u → Stored s 0 (tag ∷ vs) n u
    tagged e = stored_then d e h

tag_length : (tag : ℕ) (vs : List ℕ) {n : ℕ} → n ≡ length vs → 1 + n ≡ length (tag ∷ vs)
tag_length tag vs e = omega arith

-- the same where n bytes behind the tag find room
module _ (out : List ℕ) (tag : ℕ) (vs : List ℕ) {n : ℕ} (l : n ≡ length vs) where
  module _ {m : ℕ} (f : done m ≡ room (length out) 0 (1 + n)) where
    all_found : 0 + length (tag ∷ vs) ≤ length out
    all_found = found_room out 0 (tag ∷ vs) (1 + n) (tag_length tag vs l) f

    pub tag_found : 1 ≤ length out
    tag_found = tag_room out tag vs all_found

    module _ {at : ℕ} {t : List ℕ} (d : Stored out 0 (tag ∷ []) at t) where
      pub behind_found : at + length vs ≤ length t
      behind_found = behind_room out tag vs all_found d

      pub tagged_put : {k : ℕ} {u : List ℕ} → Stored t at vs k u → ends (done k) u ≡ write_call out 0 (tag ∷ vs)
      tagged_put g = put_all out 0 (tag ∷ vs) (1 + n) (tag_length tag vs l) f (tagged out tag vs all_found d g)

  pub tagged_short : {k : Refusal} {r : Answer ℕ} → refused k ≡ room (length out) 0 (1 + n) → r ≡ refused k → ends r out ≡ write_call out 0 (tag ∷ vs)
  tagged_short e f = put_none out 0 (tag ∷ vs) (1 + n) (tag_length tag vs l) e f

-- ---- a clock
module _ (c : VectorClock) (s : sound c ≡ true) (long : length c.authors ≡ 32) (wide : length c.numbers ≡ 32) where
  pub in_columns_lem : (c.count ≤ 32) × (c.count ≤ length c.authors) × (c.count ≤ length c.numbers)
  in_columns_lem =
      let few = sound_few c s in
      (few, omega arith, omega arith)

  pub clock_counted : {len : ℕ}
      → (len ≡ varint_len c.count + pairs_len (pairs (take c.count c.authors) (take c.count c.numbers))) × (len ≤ 10 + 20 * c.count)
      → (len ≡ length (deps_bytes (entries c))) × (len ≤ 650)
  unfolding entries
  clock_counted (e, l) =
      let k : length (pairs (take c.count c.authors) (take c.count c.numbers)) ≡ c.count =
      length_pairs _ _ _ in_columns_lem.1 in_columns_lem.2 in
      (e ∙ sym (length_deps_bytes (pairs (take c.count c.authors) (take c.count c.numbers)) ∙ rw k), omega (arith, in_columns_lem.0))

-- ---- the clock of a clock area
module _ (out : List ℕ) (tag : ℕ) (clock : List ℕ) where
  pub clock_short : length clock < 520 → ends (refused ShortArea) out ≡ encode_clock out tag clock
  unfolding encode_clock read_clock
  clock_short h = rw (lt-leb 520 (length clock) h)

  module _ (h : 520 ≤ length clock) {c : VectorClock} (e : c ≡ clock_at clock 0) {b : Bool} (k : b ≡ sound c) where
    pub clock_unsound : b ≡ false → ends (refused UnsoundStore) out ≡ encode_clock out tag clock
    unfolding encode_clock read_clock
    clock_unsound f = rw (le-leb 520 (length clock) h, ← e, ← k, f)

    pub clock_put : {w : Ends ℕ (List ℕ)} → b ≡ true → w ≡ write_call out 0 (tag ∷ deps_bytes (entries c)) → w ≡ encode_clock out tag clock
    unfolding encode_clock read_clock
    clock_put f g = rw (le-leb 520 (length clock) h, ← e, ← k, f) g

-- ---- the messages with one
hello_by : (out : List ℕ) (a : Answer (List (ℕ × ℕ))) → write_clock out 0 a ≡ write_message out (and_then a (λ es. done (hello es)))
unfolding message_bytes
hello_by out (Ok es) = refl
hello_by out (Err r) = refl

ack_by : (out : List ℕ) (a : Answer (List (ℕ × ℕ))) → write_clock out 2 a ≡ write_message out (and_then a (λ es. done (ack es)))
unfolding message_bytes
ack_by out (Ok es) = refl
ack_by out (Err r) = refl

module _ (out clock : List ℕ) {w : Ends ℕ (List ℕ)} where
  pub hello_written : w ≡ encode_clock out 0 clock → w ≡ encode_hello out clock
  unfolding encode_clock encode_hello
  hello_written e = e ∙ hello_by out (read_clock clock)

  pub ack_written : w ≡ encode_clock out 2 clock → w ≡ encode_ack out clock
  unfolding encode_clock encode_ack
  ack_written e = e ∙ ack_by out (read_clock clock)

-- ---- a number
module _ (out : List ℕ) (nonce : ℕ) {w : Ends ℕ (List ℕ)} where
  pub ping_written : w ≡ write_call out 0 (3 ∷ shortest nonce) → w ≡ encode_ping out nonce
  unfolding encode_ping message_bytes
  ping_written e = e

  pub pong_written : w ≡ write_call out 0 (4 ∷ shortest nonce) → w ≡ encode_pong out nonce
  unfolding encode_pong message_bytes
  pong_written e = e

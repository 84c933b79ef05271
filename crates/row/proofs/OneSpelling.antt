-- A row that was read stands in the bytes that are written of it: its numbers have one spelling each.
use Prim.Native.Nat.{ℕ, zero, suc, ◌+◌, ◌≤◌, ◌<◌}
use mathlib.Core.Path.{◌≡◌, refl}
use mathlib.Core.Bool.{◌&&◌}
use mathlib.Core.List.{List, [], ◌∷◌, ◌++◌, append_assoc}
use native.Mathlib.Omega.{arith}
use lib.Dec.{leb}
use lib.ListN.{length, take, drop, get_or, length-drop}
use lib.Seq.{drop-cons, length-take-le}
use borrow.Author.Tests.{leb-true}
use Rattle.words.specs.Be.{AllBytes}
use Rattle.error.specs.declared.Refusal.TheVariants.{Unreadable, OverCapacity}
use Rattle.error.specs.Answer.{got}
use Rattle.codec.specs.Leb128.{shortest}
use Rattle.codec.specs.Writing.{sized}
use Rattle.codec.specs.Reading.{get_varint, get_u32, part_of}
use Rattle.codec.specs.declared.Part.{Part}
use Rattle.codec.proofs.RoundTrip.{u32_is_varint}
use Rattle.codec.proofs.OneSpelling.{Stand, joined, part_stands, varint_stands}
use Rattle.codec.proofs.ReadSteps.{got_value, got_next, by, past}
use Rattle.row.specs.Reading.{number, get_head, read_head, read_pair, read_pairs, read_deps, read_part, read_closing, BatchRow, read_row}
use Rattle.row.specs.declared.reader.Head.{Head}
use Rattle.row.specs.declared.reader.Closing.{Closing}
use Rattle.row.specs.Wire.{stamped_bytes, pair_bytes, deps_bytes, unsigned_bytes, signed_bytes}
use Rattle.row.specs.RoundTrip.{batch_row_bytes, OnlyWritten}
use Rattle.row.proofs.ReadRows.{readable, pairs_got}

module _ (s : List ℕ) (bs : AllBytes s) where
  pub number_stands : (at v n : ℕ) → number s at ≡ got v n → Stand s at n (shortest v)
  unfolding number
  number_stands at v n e = varint_stands s at v n bs (readable (get_varint s at) e)

  pub head_stands : (at : ℕ) (h : Head) (n : ℕ) → read_head s at ≡ got h n → (ds : List (ℕ × ℕ)) (payload signature : List ℕ)
      → Stand s at n (stamped_bytes (record { stamp = h.timestamp; author = h.actor.0; seq = h.seq; deps = ds; payload = payload; signature = signature }))
  unfolding read_head get_head stamped_bytes
  head_stands at h n e ds payload signature =
      by (get_varint s at) _ (readable (get_head s at) e) (λ w a1 n1 e1.
      by (get_u32 s a1) _ e1 (λ c a2 n2 e2.
      by (get_varint s a2) _ e2 (λ t a3 n3 e3.
      by (get_varint s a3) _ e3 (λ a a4 n4 e4.
      by (get_varint s a4) _ e4 (λ q a5 n5 e5.
      rw (← got_value e5, ← got_next e5)
      (joined (varint_stands s at w a1 bs n1)
      (joined (varint_stands s a1 c a2 bs (u32_is_varint s a1 c a2 n2).0)
      (joined (varint_stands s a2 t a3 bs n3)
      (joined (varint_stands s a3 a a4 bs n4) (varint_stands s a4 q a5 bs n5))))))))))

  pair_stands : (low at : ℕ) (p : ℕ × ℕ) (n : ℕ) → read_pair s at low ≡ got p n → Stand s at n (shortest p.0 ++ shortest p.1)
  unfolding read_pair
  pair_stands low at p n e =
      by (number s at) _ e (λ a m f g.
      past (leb low a) Unreadable _ g (λ x g.
      by (number s m) _ g (λ q k h g.
      rw (← got_value g, ← got_next g) (joined (number_stands at a m f) (number_stands m q k h)))))

  pairs_stand : (low k at : ℕ) (ds : List (ℕ × ℕ)) (n : ℕ) → read_pairs s at low k ≡ got ds n → Stand s at n (pair_bytes ds)
  unfolding read_pairs pair_bytes
  pairs_stand low zero at ds n e =
      rw (← got_value e, ← got_next e) (record { here = refl })
  pairs_stand low (suc k) at ds n e =
      by (read_pair s at low) _ e (λ p m f g.
      by (read_pairs s m (p.0 + 1) k) _ g (λ ps l h g.
      rw (← got_value g, ← got_next g)
      (rw (← append_assoc (shortest p.0) (shortest p.1) (pair_bytes ps)) (joined (pair_stands low at p m f) (pairs_stand (p.0 + 1) k m ps l h)))))

  pub deps_stand : (at : ℕ) (ds : List (ℕ × ℕ)) (n : ℕ) → read_deps s at ≡ got ds n → Stand s at n (deps_bytes ds)
  unfolding read_deps deps_bytes
  deps_stand at ds n e =
      by (number s at) _ e (λ k m f g.
      past (leb k 16) OverCapacity _ g (λ x g.
      rw (pairs_got s 0 k m ds n g).count (joined (number_stands at k m f) (pairs_stand 0 k m ds n g))))

  pub sized_stands : (limit at : ℕ) (p : Part) (n : ℕ) → read_part s at limit ≡ got p n → Stand s at n (sized (part_of s p))
  unfolding read_part part_of sized
  sized_stands limit at p n e =
      by (number s at) _ e (λ l m f g.
      past (leb l limit) OverCapacity _ g (λ x g.
      past (leb (m + l) (length s)) Unreadable _ g (λ y g.
      let k : length (take l (drop m s)) ≡ l = length-take-le l (drop m s) (omega (arith, leb-true (m + l) (length s) y, length-drop m s)) in
      rw (← got_value g, ← got_next g, k) (joined (number_stands at l m f) (part_stands s m l)))))

  closing_stands : (at : ℕ) (c : Closing) (n : ℕ) → read_closing s at ≡ got c n → Stand s at n (c.verdict ∷ c.outcome ∷ c.detail ∷ [])
  unfolding read_closing
  closing_stands at c n e =
      past (leb (at + 3) (length s)) Unreadable _ e (λ x g.
      past (leb (get_or s at 0) 1 && _) Unreadable _ g (λ y g.
      let l : at + 3 ≤ length s = leb-true (at + 3) (length s) x in
      rw (← got_value g, ← got_next g)
      (joined (byte at (at + 1) (omega arith) (omega arith))
      (joined (byte (at + 1) (at + 2) (omega arith) (omega arith)) (byte (at + 2) (at + 3) (omega arith) (omega arith))))))
    where
      byte : (i n : ℕ) → i < length s → n ≡ suc i → Stand s i n (get_or s i 0 ∷ [])
      byte i n h e = record { here = rw e (drop-cons s i 0 h) }

  pub row_stands : (at : ℕ) (b : BatchRow) (n : ℕ) → read_row s at ≡ got b n → Stand s at n (batch_row_bytes b)
  unfolding read_row batch_row_bytes signed_bytes unsigned_bytes
  row_stands at b n e =
      by (read_head s at) _ e (λ h a1 x1 e1.
      by (read_deps s a1) _ e1 (λ ds a2 x2 e2.
      by (read_part s a2 256) _ e2 (λ p a3 x3 e3.
      by (read_part s a3 64) _ e3 (λ g a4 x4 e4.
      by (read_closing s a4) _ e4 (λ c a5 x5 e5.
      rw (← got_value e5, ← got_next e5)
      (joined
      (joined
      (joined (head_stands at h a1 x1 ds (part_of s p) (part_of s g)) (joined (deps_stand a1 ds a2 x2) (sized_stands 256 a2 p a3 x3)))
      (sized_stands 64 a3 g a4 x4))
      (closing_stands a4 c a5 x5)))))))

pub only_written : OnlyWritten
only_written s at b next bs e = (row_stands s bs at b next e).here

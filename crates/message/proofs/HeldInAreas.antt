-- What a reading leaves in the lent areas is the message.
use Prim.Native.Nat.{ℕ, ◌+◌, ◌*◌, ◌≤◌}
use mathlib.Core.Path.{◌≡◌, refl, sym, ◌∙◌, ap}
use mathlib.Core.Bool.{true, ◌&&◌}
use mathlib.Core.List.{List, [], ◌∷◌, ◌++◌, append_assoc}
use native.Mathlib.Omega.{arith}
use lib.Dec.{leb}
use lib.ListN.{length, take, drop}
use lib.Seq.{take_at}
use borrow.Author.Tests.{le-leb, leb-true}
use Rattle.words.specs.Areas.{put_at}
use Rattle.words.specs.Lists.{all}
use Rattle.words.proofs.Puts.{length_put}
use Rattle.words.proofs.Conjunction.{and_left, and_right, and_both}
use Rattle.error.specs.Answer.{done}
use Rattle.clock.specs.Entries.{rising}
use Rattle.clock.specs.Vector.{clock_of}
use Rattle.clock.specs.Area.{clock_at, clock_bytes}
use Rattle.clock.proofs.ClockEntries.{entries_of, sound_of}
use Rattle.codec.proofs.RoundTrip.{behind}
use Rattle.row.specs.Rows.{Row, logged, row_ok}
use Rattle.row.specs.Slots.{encode_held, encode_slots, slot_at, slots_at, logged_slot_ok}
use Rattle.row.proofs.CanonicalSlot.{length_held, logged_encode}
use Rattle.row.proofs.SlotTable.{slots_there}
use Rattle.replicated_log.specs.Store.{clock_ok}
use Rattle.replicated_log.specs.Areas.{logged_rows}
use Rattle.replicated_log.specs.Calls.{read_clock, slots_ok}
use Rattle.replicated_log.proofs.Store.Rules.{logged_ok, rows_logged_lem, length_logged, all_logged}
use Rattle.replicated_log.proofs.Store.HeadBytes.{length_clock, clock_there}
use Rattle.replicated_log.proofs.Logging.LogSlots.{length_rows}
use Rattle.message.specs.Messages.{message_ok}
use Rattle.message.specs.Calls.{lent_rows}
use Rattle.message.specs.RoundTrip.{ClockHeld, RowsHeld}

-- ---- a clock
module _ (area : List ℕ) (es : List (ℕ × ℕ)) (o : clock_ok es ≡ true) (h : 520 ≤ length area) where
  few_rising : (length es ≤ 32) × (rising 0 es ≡ true)
  unfolding clock_ok
  few_rising =
      let t : (leb (length es) 32 && rising 0 es) ≡ true = and_left _ _ o in
      (leb-true _ _ (and_left _ _ t), and_right (leb (length es) 32) (rising 0 es) t)

  bytes : List ℕ
  bytes = clock_bytes (clock_of es)

  long : length bytes ≡ 520
  unfolding bytes
  long = length_clock es few_rising.0

  after : List ℕ
  after = put_at area 0 bytes

  stands : take 520 (drop 0 after) ≡ bytes
  unfolding after put_at
  stands = take_at bytes (drop (0 + length bytes) area) 520 long

  size : length after ≡ length area
  unfolding after
  size = length_put area bytes 0 (omega (arith, long))

  there : clock_at after 0 ≡ clock_of es
  unfolding bytes
  there = clock_there after 0 es o (omega (arith, size)) stands

  clock_back : read_clock after ≡ done es
  unfolding read_clock
  clock_back = rw (there, le-leb 520 (length after) (omega (arith, size)), sound_of es few_rising.1 few_rising.0, entries_of es)

pub clock_held : ClockHeld
unfolding after bytes
clock_held clock es o h = (clock_back clock es o h, clock_back clock es o h)

-- ---- rows
slots_sound : (s : List ℕ) (at : ℕ) (rs : List Row) (z : List ℕ) → all row_ok rs ≡ true → drop at s ≡ encode_slots (logged_rows rs) ++ z → slots_ok s at (length rs) ≡ true
unfolding slots_ok logged_rows encode_slots all
slots_sound s at [] z h e = refl
slots_sound s at (r ∷ rs) z h e =
    let ok : row_ok r ≡ true = and_left _ _ h in
    let slot : List ℕ = encode_held (logged r) in
    let l : length slot ≡ 704 = length_held (logged r) (logged_ok r ok) in
    let f : drop at s ≡ slot ++ (encode_slots (logged_rows rs) ++ z) = e ∙ append_assoc slot (encode_slots (logged_rows rs)) z in
    let there : slot_at s at ≡ slot = ap (take 704) f ∙ take_at slot _ 704 l in
    let k : at + length slot ≡ at + 704 = ap (λ (n : ℕ). at + n) l in
    let g : drop (at + 704) s ≡ encode_slots (logged_rows rs) ++ z = ap (λ (n : ℕ). drop n s) (sym k) ∙ behind s at slot _ f in
    and_both (logged_slot_ok (slot_at s at)) (slots_ok s (at + 704) (length rs)) (rw there (logged_encode r ok))
    (slots_sound s (at + 704) rs z (and_right (row_ok r) (all row_ok rs) h) g)

first : (s x : List ℕ) → put_at s 0 x ≡ x ++ drop (0 + length x) s
unfolding put_at
first s x = refl

pub rows_held : RowsHeld
unfolding lent_rows message_ok
rows_held rows rs h l =
    let ok : all row_ok rs ≡ true = and_right (leb (length rs) 64) (all row_ok rs) h in
    let few : leb (length rs) 64 ≡ true = and_left (leb (length rs) 64) (all row_ok rs) h in
    let slots : List ℕ = encode_slots (logged_rows rs) in
    let rest : List ℕ = drop (0 + length slots) rows in
    let size : length (put_at rows 0 slots) ≡ length rows = length_put rows slots 0 (omega (arith, length_rows rs ok)) in
    let sound : slots_ok (put_at rows 0 slots) 0 (length rs) ≡ true = slots_sound (put_at rows 0 slots) 0 rs rest ok (first rows slots) in
    let back : slots_at (put_at rows 0 slots) 0 (length rs) ≡ logged_rows rs =
    ap (λ (s : List ℕ). slots_at s 0 (length rs)) (first rows slots)
    ∙ ap (slots_at (slots ++ rest) 0) (sym (length_logged rs)) ∙ slots_there (logged_rows rs) rest (all_logged rs ok) in
    rw (le-leb (704 * length rs) (length (put_at rows 0 slots)) (omega (arith, size)), sound, few, back, rows_logged_lem rs)

-- A desk's own row: it is read as it was prepared, and its sealing may stand in a call list of demand 3 under the ticket's words and nothing more.
use Prim.Native.Nat.{ℕ, ◌+◌, ◌≤◌, ◌<◌, ◌^◌}
use mathlib.Core.Path.{◌≡◌, refl, sym, ◌∙◌, ap}
use mathlib.Core.Logic.{inl, inr}
use mathlib.Core.Bool.{Bool, true, false, not, ◌||◌}
use mathlib.Core.List.{List, [], ◌++◌, append-nil}
use native.Mathlib.Omega.{arith}
use lib.Dec.{ltb, leb}
use lib.ListN.{length, drop, length-append}
use lib.Seq.{take_at}
use borrow.Author.Tests.{ltb-false, leb-true, le-leb, eq-eqb}
use Rattle.words.specs.Be.{AllBytes, get64, column}
use Rattle.words.specs.Areas.{put_at}
use Rattle.words.proofs.Words.{lt_or_le}
use Rattle.std.specs.declared.result.Result.TheVariants.{Ok, Err}
use Rattle.error.specs.Answer.{done, Got, got, bad, after}
use Rattle.clock.specs.declared.stamp.Timestamp.{Timestamp}
use Rattle.clock.specs.declared.hybrid.HybridClock.{HybridClock}
use Rattle.clock.specs.Hybrid.{now_call}
use Rattle.clock.specs.Entries.{get}
use Rattle.clock.specs.Vector.{entries, sound}
use Rattle.clock.specs.Area.{clock_at}
use Rattle.clock.proofs.LexicographicOrder.{clash}
use Rattle.clock.proofs.SendRule.{now_later, now_next, now_spent}
use Rattle.clock.proofs.ClockEntries.{sound_rising}
use Rattle.codec.specs.Reading.{part_of}
use Rattle.codec.specs.Writing.{sized}
use Rattle.codec.proofs.RoundTrip.{behind, within, part_there}
use Rattle.codec.proofs.ReadSteps.{on}
use Rattle.row.specs.Rows.{Row, row_ok, outcome_ok, logged}
use Rattle.row.specs.Wire.{stamped_bytes, deps_bytes, unsigned_bytes}
use Rattle.row.specs.Reading.{BatchRow, read_head, read_deps, read_part, read_closing, read_row}
use Rattle.row.specs.declared.reader.Head.{Head}
use Rattle.row.specs.Unsigned.{unsigned_row, read_unsigned}
use Rattle.row.proofs.DepsPairs.{DepsOk, deps_of_lem, length_pairs_le}
use Rattle.row.proofs.CanonicalSlot.{HeldGood}
use Rattle.row.proofs.RowBounds.{row_good, good_row}
use Rattle.row.proofs.RoundTrip.{head_there, deps_there, sized_there}
use Rattle.replicated_log.specs.Calls.{read_clock}
use Rattle.replicated_log.proofs.Store.Soundness.{words_in}
use Rattle.merging.specs.Batch.{whole}
use Rattle.merging.specs.Desk.{PrepareCall, too_large, prepare_ends, prepare_call, signed, read_sealed}
use Rattle.merging.specs.OwnRows.{CanPrepare, bytes_to_sign, SealsPrepared, OwnMayStand, RefusedMayStand, ReadAlike}
use Rattle.merging.proofs.Traces.{not_refused, unless_done, then_done}
use Rattle.merging.proofs.Sealings.{PrepareAnswered, answer_is, call_prepared}

-- ---- what is written of a row is read back without its signature

module _ (r : Row) (g : HeldGood (logged r)) where
  bytes : List ℕ
  bytes = unsigned_bytes r

  deps_at_lem : ℕ
  deps_at_lem = 0 + length (stamped_bytes r)

  payload_at_lem : ℕ
  payload_at_lem = deps_at_lem + length (deps_bytes r.deps)

  head_stands : drop 0 bytes ≡ stamped_bytes r ++ (deps_bytes r.deps ++ sized r.payload)
  unfolding bytes unsigned_bytes
  head_stands = refl

  deps_stand : drop deps_at_lem bytes ≡ deps_bytes r.deps ++ sized r.payload
  unfolding deps_at_lem
  deps_stand = behind bytes 0 (stamped_bytes r) _ head_stands

  payload_stands : drop payload_at_lem bytes ≡ sized r.payload ++ []
  unfolding payload_at_lem
  payload_stands = behind bytes deps_at_lem (deps_bytes r.deps) _ deps_stand ∙ sym (append-nil (sized r.payload))

  end : payload_at_lem + length (sized r.payload) ≡ length bytes
  unfolding payload_at_lem deps_at_lem bytes unsigned_bytes
  end = simp length-append (omega arith)

  abbrev with_payload : List ℕ → Row
  with_payload payload =
      record { stamp = r.stamp; author = r.author; seq = r.seq; deps = r.deps; payload = payload; signature = [] }

  unsigned_there : read_unsigned bytes 0 ≡ got (with_payload r.payload) (length bytes)
  unfolding read_unsigned deps_at_lem payload_at_lem
  unsigned_there =
      let parts : with_payload (part_of bytes (within payload_at_lem r.payload)) ≡ with_payload r.payload =
      ap with_payload (part_there bytes payload_at_lem r.payload _ payload_stands) in
      sym
      (on _ (sym (head_there bytes r g 0 _ head_stands))
      (on _ (sym (deps_there bytes deps_at_lem r.deps _ g.few.deps g.deps deps_stand))
      (on _ (sym (sized_there bytes payload_at_lem 256 r.payload _ (omega (arith, g.few.payload)) g.few.payload payload_stands))
      (rw (← end, parts)))))

pub sealed_back : (r : Row) (signature : List ℕ) → row_ok r ≡ true → length signature ≤ 64 → read_sealed (unsigned_bytes r) signature ≡ done (signed r signature)
unfolding read_sealed bytes
sealed_back r signature ok few =
    rw (unsigned_there r (row_good r ok), eq-eqb (length (unsigned_bytes r)) (length (unsigned_bytes r)) refl, le-leb (length signature) 64 few)

-- ---- a prepared row is within capacity

-- the numbers of a new stamp fit their widths
pub record StampFits (t : Timestamp) : Type 0 where
  pub wall : t.wall_time < 18446744073709551616
  pub counter : t.logical_counter < 4294967296
  pub stamper : t.actor_id.0 < 18446744073709551616

stamp_fits : (j : HybridClock) (time : ℕ) (t : Timestamp) → time < 2 ^ 64 → j.actor.0 < 2 ^ 64 → j.last_wall < 2 ^ 64 → j.last_counter < 2 ^ 32
    → (now_call j time).answer ≡ done t → StampFits t
stamp_fits j time t ht ha hw hc e = elim (lt_or_le j.last_wall time) [
  | inl h ↦
      let z : t ≡ record { wall_time = time; logical_counter = 0; actor_id = j.actor } = cc (e, ap (λ x. x.answer) (now_later j time h)) in
      rw z (record { wall = omega arith; counter = omega arith; stamper = omega arith })
  | inr h ↦ elim (lt_or_le j.last_counter 4294967295) [
    | inl k ↦
        let z : t ≡ record { wall_time = j.last_wall; logical_counter = j.last_counter + 1; actor_id = j.actor } =
        cc (e, ap (λ x. x.answer) (now_next j time h k)) in
        rw z (record { wall = omega arith; counter = omega arith; stamper = omega arith })
    | inr k ↦ absurd (not_refused (sym (ap (λ x. x.answer) (now_spent j time h k)) ∙ e))
  ]
]

neither : (p q : Bool) → not (p || q) ≡ true → (p ≡ false) × (q ≡ false)
neither true q h = absurd (clash h refl)
neither false true h = absurd (clash h refl)
neither false false h = (refl, refl)

payload_few : (payload clock : List ℕ) → not (too_large payload clock) ≡ true → length payload ≤ 256
unfolding too_large
payload_few payload clock h = omega (arith, ltb-false 256 (length payload) (neither (ltb 256 (length payload)) _ h).0)

-- the log's clock, where 26, 2 and 1 were passed
pub record ClockRead (area : List ℕ) (clock : List (ℕ × ℕ)) : Type 0 where
  pub few : length clock ≤ 16
  pub ok : DepsOk 0 clock

entries_few : (area : List ℕ) → length (entries (clock_at area 0)) ≤ get64 area 0
unfolding entries clock_at
entries_few area = length_pairs_le (get64 area 0) (column area 8 32) (column area 16 32)

clock_read : (payload area : List ℕ) (clock : List (ℕ × ℕ)) → AllBytes area → not (too_large payload area) ≡ true → read_clock area ≡ done clock
    → ClockRead area clock
unfolding read_clock too_large
clock_read payload area clock bytes h e =
    let (l, e₁) = unless_done (leb 520 (length area)) _ _ e in
    let (s, e₂) = unless_done (sound (clock_at area 0)) _ _ e₁ in
    let z : entries (clock_at area 0) ≡ clock = cc in
    let long : leb 8 (length area) ≡ true = le-leb 8 (length area) (omega (arith, leb-true 520 (length area) l)) in
    let count : ltb 16 (get64 area 0) ≡ false = rw long at (neither (ltb 256 (length payload)) _ h).1 in
    rw (← z)
    (record {
      few = omega (arith, entries_few area, ltb-false 16 (get64 area 0) count);
      ok = deps_of_lem 0 _ (sound_rising (clock_at area 0) s) (words_in area 0 bytes);
    })

no_bytes : AllBytes []
no_bytes i = omega arith

prepared_ok : (c : PrepareCall) (r : Row) → CanPrepare c → PrepareAnswered c r → row_ok r ≡ true
unfolding outcome_ok
prepared_ok c r can w =
    let stamp = stamp_fits c.hybrid c.time w.stamp can.time can.actor can.wall can.counter w.issues in
    let clock = clock_read c.payload c.clock w.clock can.clock w.small w.reads in
    rw (← w.row)
    (good_row _
    (record {
      few = record { deps = clock.few; payload = payload_few c.payload c.clock w.small; signature = omega arith };
      wall = stamp.wall;
      counter = stamp.counter;
      stamper = stamp.stamper;
      author = omega (arith, can.author);
      seq = omega (arith, w.numbered);
      deps = clock.ok;
      payload = can.payload;
      signature = no_bytes;
      arrival = omega arith;
      outcome = refl;
    }))

-- ---- the theorems

bytes_are : (c : PrepareCall) (r : Row) → (prepare_call c).answer ≡ done r → bytes_to_sign c r ≡ unsigned_bytes r
unfolding prepare_call prepare_ends put_at
bytes_are c r e = rw (answer_is c r e) (take_at (unsigned_bytes r) _ (length (unsigned_bytes r)) refl)

pub seals_prepared : SealsPrepared
seals_prepared c r signature can e few =
    rw (bytes_are c r e) (sealed_back r signature (prepared_ok c r can (call_prepared c r e)) few)

after_after : {A B C : Type 0} (g : Got A) (f : A → ℕ → Got B) (h : B → ℕ → Got C) → after (after g f) h ≡ after g (λ a n. after (f a n) h)
after_after (Ok (a, n)) f h = refl
after_after (Err r) f h = refl

-- what is read behind the payload, and with it
module _ (s : List ℕ) where
  abbrev closed : Row → ℕ → Got BatchRow
  closed r at =
      after (read_part s at 64) (λ signature at.
      after (read_closing s at) (λ closing at. got (record { row = signed r (part_of s signature); closing = closing }) at))

  abbrev unsigned : Head → List (ℕ × ℕ) → ℕ → Got Row
  unsigned head deps at = after (read_part s at 256) (λ payload at. got (unsigned_row s head deps payload) at)

  by_payload : (head : Head) (deps : List (ℕ × ℕ)) (at : ℕ)
      → after (unsigned head deps at) closed ≡ after (read_part s at 256) (λ payload at. closed (unsigned_row s head deps payload) at)
  by_payload head deps at = after_after (read_part s at 256) (λ payload at. got (unsigned_row s head deps payload) at) closed

  by_deps : (head : Head) (at : ℕ)
      → after (after (read_deps s at) (unsigned head)) closed
      ≡ after (read_deps s at) (λ deps at. after (read_part s at 256) (λ payload at. closed (unsigned_row s head deps payload) at))
  by_deps head at = after_after (read_deps s at) (unsigned head) closed ∙ (λ i. after (read_deps s at) (λ deps at. by_payload head deps at i))

pub reads_alike : ReadAlike
unfolding read_row read_unsigned
reads_alike s at =
    sym
    (after_after (read_head s at) (λ head at. after (read_deps s at) (unsigned s head)) (closed s)
    ∙ (λ i. after (read_head s at) (λ head at. by_deps s head at i)))

sealed_few : (bytes signature : List ℕ) (r : Row) → read_sealed bytes signature ≡ done r → length signature ≤ 64
unfolding read_sealed
sealed_few bytes signature r e =
    let (x, p, e₁) = then_done (whole bytes (read_unsigned bytes 0)) _ e in
    leb-true _ _ (unless_done (leb (length signature) 64) _ _ e₁).0

pub own_may_stand : OwnMayStand
own_may_stand a before c r s signature can e holds it depends later last x accepts reads =
    let back = seals_prepared c r signature can e (sealed_few _ signature x reads) in
    let same : signed r signature ≡ x = cc (back, reads) in
    let w = call_prepared c r e in
    let author : c.author ≡ r.author = ap (λ (y : Row). y.author) w.row in
    rw (← same)
    (record {
      as_prepared = record { call = c; prepared = r; prepares = e; sealed = refl };
      not_it = it;
      none_depends = λ y n m k l. depends y n m k (omega arith);
      none_later = λ y m e l. later y m (cc) (omega arith);
      last_issued = λ t q.
          let p : s ≡ t = cc (holds, q) in
          let e : c.issued ≡ get t.clock r.author = rw (← p, ← author) last in
          omega arith;
    })

pub refused_may_stand : RefusedMayStand
refused_may_stand a before bytes signature f e r accepts reads = absurd (not_refused (sym e ∙ accepts))

-- What is refused before rows are merged, in document 01's order.
use Prim.Native.Nat.{ℕ, ◌+◌, ◌*◌, ◌≤◌}
use mathlib.Core.Path.{◌≡◌, refl, sym, ◌∙◌}
use mathlib.Core.Bool.{true, false}
use mathlib.Core.List.{List}
use native.Mathlib.Omega.{arith}
use lib.Dec.{leb}
use lib.ListN.{length}
use borrow.Author.Tests.{leb-true}
use Rattle.words.specs.Be.{get64}
use Rattle.words.proofs.Conjunction.{and_left, and_right}
use Rattle.error.specs.declared.Refusal.{Refusal}
use Rattle.error.specs.declared.Refusal.TheVariants.{OverCapacity, ShortArea}
use Rattle.std.specs.declared.result.Result.TheVariants.{Ok, Err}
use Rattle.error.specs.Answer.{Answer, done, refused, nothing}
use Rattle.replicated_log.specs.Store.{Store}
use Rattle.replicated_log.specs.Areas.{Areas, capacity, read_store, decode_store}
use Rattle.replicated_log.proofs.Calls.Queries.{Passed}
use Rattle.merging.specs.Batch.{Limits, limits_ok, whole, read_rows, read_batch, validate_all}
use Rattle.merging.specs.Merging.{merge}
use Rattle.merging.specs.Calls.{room_for, batch_answer}
use Rattle.batch.specs.Inside.BatchReads.{Brings}
use Rattle.merge.specs.Inside.Decision.{brought, NotTaken, TakesIn, Prepares, call_of}
use Rattle.merge.specs.declared.deciding.Prepared.{Prepared}
use Rattle.merge.proofs.RisingReferences.{length_slots}
use Rattle.merging.specs.Inside.RowStarts.{StartsAt}

-- ---- the batch

module _ (l : Limits) (time held : ℕ) (batch scratch output : List ℕ) where
  pub unread : (r : Refusal) → read_batch batch ≡ refused r → NotTaken l time held batch scratch output r
  unfolding brought
  unread r e = λ cap s h. rw e

  module _ (first n : ℕ) (valid : Answer Unit) (b : Brings batch l time first n valid) (w : read_batch batch ≡ whole batch (read_rows batch first n)) where
    brings : read_batch batch ≡ done b.rows
    brings = w ∙ b.batch

    counted : (s : Store) → length s.held ≡ held → length s.held + length b.rows ≡ held + n
    counted s h = omega (arith, b.counted)

    pub no_room : room_for (held + n) scratch output ≡ false → NotTaken l time held batch scratch output ShortArea
    unfolding brought
    no_room f = λ cap s h. rw (brings, counted s h, f)

    module _ (f : room_for (held + n) scratch output ≡ true) where
      pub invalid : (r : Refusal) → valid ≡ refused r → NotTaken l time held batch scratch output r
      unfolding brought merge
      invalid r e =
          let v : validate_all l time b.rows ≡ refused r = sym b.valid_is ∙ e in
          (λ cap s h. rw (brings, counted s h, f, v))

      pub taken_in : (starts : List ℕ) → StartsAt batch starts first n → valid ≡ done nothing → TakesIn l time held batch scratch output starts (done (record { rows = n; held = held }))
      taken_in starts at e = record {
        held_is = refl;
        first = first;
        taken =
            record {
              rows = b.rows;
              end = b.end;
              from = b.from;
              brings = brings;
              counted = b.counted;
              few = b.few;
              valid = sym b.valid_is ∙ e;
            };
        starts_are = at;
        room = f;
      }

-- the room in scratch that was tested
pub room_scratch : (n : ℕ) (scratch output : List ℕ) → room_for n scratch output ≡ true → 704 * n ≤ length scratch
unfolding room_for
room_scratch n scratch output h = leb-true _ _ (and_right (leb (18 * n) (length output)) _ h)

pub room_output : (n : ℕ) (scratch output : List ℕ) → room_for n scratch output ≡ true → 18 * n ≤ length output
unfolding room_for
room_output n scratch output h = leb-true _ _ (and_left (leb (18 * n) (length output)) _ h)

-- ---- settings and store

module _ (a : Areas) (l : Limits) (time : ℕ) (batch scratch output : List ℕ) where
  pub no_limits : limits_ok l ≡ false → batch_answer a (call_of l time batch scratch output) ≡ refused OverCapacity
  unfolding batch_answer
  no_limits h = rw h

  module _ (h : limits_ok l ≡ true) where
    pub no_store : (r : Refusal) → read_store a ≡ refused r → batch_answer a (call_of l time batch scratch output) ≡ refused r
    unfolding batch_answer
    no_store r e = rw (h, e)

    answer_is : (s : Store) → read_store a ≡ done s → batch_answer a (call_of l time batch scratch output) ≡ brought (capacity a.log) l time s batch scratch output
    unfolding batch_answer brought
    answer_is s e = rw (h, e)

    module _ (p : Passed a) where
      held_count : length (decode_store a).held ≡ get64 a.head 8
      unfolding decode_store
      held_count = length_slots a.held 0 (get64 a.head 8)

      pub prepared_by_lem : (starts : List ℕ) → 64 ≤ length starts → (r : Answer Prepared) → TakesIn l time (get64 a.head 8) batch scratch output starts r
          → Prepares a l time batch scratch output starts r
      prepared_by_lem starts long (Ok q) t = (
        record {
          within = h;
          store = decode_store a;
          reads = p.read;
          counts = t.held_is ∙ sym held_count;
          first = t.first;
          taken = t.taken;
          starts_are = t.starts_are;
          starts_room = omega (arith, long, t.taken.few);
          room = room_scratch _ scratch output t.room;
        },
        t.room,
      )
      prepared_by_lem starts long (Err r) f = answer_is (decode_store a) p.read ∙ f (capacity a.log) (decode_store a) held_count

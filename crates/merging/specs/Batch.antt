-- The batch and its validation: document 01, "The call".
use Rattle.std.specs.Prelude.{ℕ, zero, suc, ◌-◌, ◌^◌, Bool, false, not, ◌&&◌, ◌||◌, List, [], ◌∷◌, length, leb, eqb}
use Rattle.words.specs.Names.{Author, Seq, Time, Bytes, Position, Clock}
use Rattle.words.specs.Sizes.{most_batch, most_held, most_deps, most_payload}
use Rattle.words.specs.Choice.{saturating}
use Rattle.stubs.specs.declared.ActorId.{ActorId}
use Rattle.error.specs.declared.Refusal.{Refusal}
use Rattle.error.specs.declared.Refusal.TheVariants.{Unreadable, OverCapacity, ZeroSequence, ForeignStamp, SpentCounter, PayloadTooLarge, TooManyCauses, OwnFuture, AheadOfTime, BadSignature}
use Rattle.std.specs.declared.result.Result.TheVariants.{Ok, Err}
use Rattle.error.specs.Answer.{Answer, done, refused, nothing, and_then, unless, Got, got, bad, after, need}
use Rattle.row.specs.Rows.{Row}
use Rattle.row.specs.Reading.{number, BatchRow, read_row}

-- 01: "A call brings settings (`MergeLimits`)"
pub record Limits : Type 0 where
  pub max_pending : ℕ
  pub max_pending_per_actor : ℕ
  pub max_pending_bytes : ℕ
  pub max_pending_age : Time
  pub max_drift : Time
  pub max_deps : ℕ
  pub max_payload : ℕ

-- 4: a setting above the closing list; 01: "Other settings: any 64-bit number."
unfoldable pub limits_ok : Limits → Bool
limits_ok l =
    leb l.max_pending most_held
    && leb l.max_deps most_deps
    && leb l.max_payload most_payload

-- ---- reading

-- n rows from `at` on, one behind the other
unfoldable pub read_rows : Bytes → Position → ℕ → Got (List BatchRow)
read_rows s at zero = got [] at
read_rows s at (suc n) =
    after (read_row s at) (λ row at.
    after (read_rows s at n) (λ rows at.
    got (row ∷ rows) at))

-- 3: 01: "bytes left over"
abbrev pub whole : {A : Type 0} → Bytes → Got A → Answer A
whole s (Ok (a, at)) = unless (eqb at (length s)) Unreadable (done a)
whole s (Err r) = refused r

-- 01: "a varint count, then rows, then nothing"
unfoldable pub read_batch : Bytes → Answer (List BatchRow)
read_batch s = whole s (after (number s 0) (λ n at. need (leb n most_batch) OverCapacity (read_rows s at n)))

-- ---- validation

-- 10: 01: "a dependency on its own author, not below its sequence"
unfoldable pub own_future : Author → Seq → Clock → Bool
own_future author seq [] = false
own_future author seq ((a, n) ∷ ds) = (eqb a author && leb seq n) || own_future author seq ds

-- one of the tests 5 to 12: 01: "Refusals 5 to 13 carry author and sequence"
abbrev pub require_of : Row → (ActorId → Seq → Refusal) → Bool → Answer Unit → Answer Unit
require_of r refusal test rest = unless test (refusal (record { 0 = r.author }) r.seq) rest

-- 01: "5 to 12 row by row in that order"
unfoldable pub validate : Limits → Time → BatchRow → Answer Unit
validate l time b =
    require_of b.row ZeroSequence (not (eqb b.row.seq 0))
    (require_of b.row ForeignStamp (eqb b.row.stamp.actor_id.0 b.row.author)
    (require_of b.row SpentCounter (not (eqb b.row.stamp.logical_counter (2 ^ 32 - 1)))
    (require_of b.row PayloadTooLarge (leb (length b.row.payload) l.max_payload)
    (require_of b.row TooManyCauses (leb (length b.row.deps) l.max_deps)
    (require_of b.row OwnFuture (not (own_future b.row.author b.row.seq b.row.deps))
    (require_of b.row AheadOfTime (leb b.row.stamp.wall_time (saturating time l.max_drift))
    (require_of b.row BadSignature (eqb b.closing.verdict 1)
    (done nothing))))))))

unfoldable pub validate_all : Limits → Time → List BatchRow → Answer Unit
validate_all l time [] = done nothing
validate_all l time (b ∷ bs) = and_then (validate l time b) (λ u. validate_all l time bs)

-- Closed examples of merging, computed from the definitions: what each rule says on both sides of its boundary.
use Rattle.std.specs.declared.option.Option.TheVariants.{None, Some}
use Prim.Native.Nat.{ℕ, zero, suc}
use mathlib.Core.Path.{◌≡◌, refl}
use mathlib.Core.Bool.{true, false}
use mathlib.Core.List.{List, [], ◌∷◌, ◌++◌}
use lib.ListN.{replicate}
use Rattle.words.specs.Be.{be64}
use Rattle.error.specs.declared.Refusal.TheVariants.{Unreadable}
use Rattle.error.specs.declared.Told.{Told}
use Rattle.std.specs.declared.result.Result.TheVariants.{Ok, Err}
use Rattle.error.specs.Answer.{Answer, done, refused, and_then, accepted, told_by}
use Rattle.error.specs.Numbers.{told}
use Rattle.clock.specs.declared.stamp.Timestamp.{Timestamp}
use Rattle.clock.specs.Order.{less, stamp_key, stamp_less}
use Rattle.clock.specs.Entries.{get, observe, put, dominates}
use Rattle.codec.specs.Leb128.{groups, has_last, value_of, overlong}
use Rattle.codec.specs.Reading.{judged, judge, get_any, only_shortest, get_varint, get_u32, part_of}
use Rattle.row.specs.Rows.{Row, outcome_ok, work_key, work_less}
use Rattle.row.specs.Reading.{BatchRow, number, get_head, read_head, read_pair, read_pairs, read_deps, read_part, read_closing, read_row}
use Rattle.replicated_log.specs.Store.{Mark, same_id, same_entries}
use Rattle.replicated_log.specs.Areas.{rows_of}
use Rattle.merging.specs.Batch.{Limits, limits_ok, read_rows, read_batch, own_future, validate, validate_all}
use Rattle.merging.specs.Merging.{unexpired, same_stamp, same_content, look, enter, when_known, admit, admit_all, ready, past, first_ready, take_first, drain, above_floor, fate, fate_detail, line, row_line, lines, payload_bytes, authors, times, lower, lowest_over, author_quota, quotas, Report, Merged, commit, report, settle, finish, merge, in_time}
use Rattle.merging.specs.Calls.{room_for}
use Rattle.merging.specs.Offers.{log_less}
use Rattle.merging.specs.Group.{stamp_of, row_of, held, empty_store, settings, r21}
use Rattle.words.specs.Lists.{same, count_if}
use Rattle.words.specs.Choice.{saturating}
use Rattle.replicated_log.specs.Insertion.{insert_row, later, raise, insert, insert_all, fits}

-- ---- rows, stores, settings

-- the row with this stamp, and with this signature
abbrev stamped : Timestamp → Row → Row
stamped t r = record { stamp = t; author = r.author; seq = r.seq; deps = r.deps; payload = r.payload; signature = r.signature }

abbrev signed : List ℕ → Row → Row
signed s r = record { stamp = r.stamp; author = r.author; seq = r.seq; deps = r.deps; payload = r.payload; signature = s }

-- a rightly signed row of a batch with an outcome
abbrev given : (outcome : ℕ) → Row → BatchRow
given outcome r = record { row = r; closing = record { verdict = 1; outcome = outcome; detail = 0 } }

-- a row of a batch with verdict, outcome and detail
abbrev closed : ℕ → ℕ → ℕ → Row → BatchRow
closed verdict outcome detail r = record { row = r; closing = record { verdict = verdict; outcome = outcome; detail = detail } }

-- wide ones, but for the count of held rows and the pending age
abbrev pub limits : ℕ → ℕ → Limits
limits pending age = settings pending 64 65536 age 60000 16 256

-- narrow ones: of an author one held row, in all two held payload bytes, one dependency, two payload bytes
abbrev narrow : Limits
narrow = settings 64 1 2 1000 60000 1 2

-- ---- what is looked at: author and sequence of the logged rows and of the held rows, and the counts

abbrev ids : List Row → List (ℕ × ℕ)
ids [] = []
ids (r ∷ rs) = (r.author, r.seq) ∷ ids rs

pub record Seen : Type 0 where
  pub log : List (ℕ × ℕ)
  pub held : List (ℕ × ℕ)

abbrev see : Answer Merged → Answer Seen
see (Ok m) = done (record { log = ids m.store.log; held = ids (rows_of m.store.held) })
see (Err r) = refused r

abbrev counts : Answer Merged → Answer Report
counts (Ok m) = done m.report
counts (Err r) = refused r

abbrev output : Answer Merged → List ℕ
output (Ok m) = m.lines
output (Err r) = []

-- on an empty store with room for ten logged rows, at time 1,000: one batch, and two, one after the other
abbrev once : Limits → List BatchRow → Answer Merged
once l rows = merge 10 l 1000 (empty_store None) rows

abbrev twice : Limits → List BatchRow → List BatchRow → Answer Merged
twice l first second = and_then (once l first) (λ m. merge 10 l 1000 m.store second)

-- 1:1, which 2:1 needs
abbrev pub r11 : Row
r11 = row_of 5 1 1 [] []

-- stands for the definitions that an example opens
unfoldable pub computing : ℕ
unfolding limits_ok room_for be64 log_less merge validate_all validate own_future saturating in_time unexpired admit_all admit get look same_id same_stamp same_content same_entries same when_known enter work_less work_key stamp_key less stamp_less settle drain take_first first_ready past ready dominates observe put finish quotas payload_bytes lowest_over authors times count_if lower author_quota commit insert_all insert insert_row raise later fits report fate above_floor fate_detail line row_line lines rows_of
computing = 0

-- 01: "author 2's row 1 needing 1:1 is held, then 1:1 logs both", in stamp order
needing_is_held : see (once (limits 64 1000) (given 0 r21 ∷ [])) ≡ done (record { log = []; held = (2, 1) ∷ [] })
unfolding computing
needing_is_held = refl

then_both : see (twice (limits 64 1000) (given 0 r21 ∷ []) (given 0 r11 ∷ [])) ≡ done (record { log = (2, 1) ∷ (1, 1) ∷ []; held = [] })
unfolding computing
then_both = refl

-- 01: "limit 1 passes one held row, two is 14"
limit_one : see (once (limits 1 1000) (given 0 r21 ∷ [])) ≡ done (record { log = []; held = (2, 1) ∷ [] })
unfolding computing
limit_one = refl

limit_two : told_by (once (limits 1 1000) (given 0 r21 ∷ given 0 (row_of 3 3 1 ((1, 1) ∷ []) []) ∷ [])) ≡ told 14 1 0
unfolding computing
limit_two = refl

-- 01: "Quotas are compared after that": two rows pass limit 0 where both are logged
released_first : see (once (limits 0 1000) (given 0 r21 ∷ given 0 r11 ∷ [])) ≡ done (record { log = (2, 1) ∷ (1, 1) ∷ []; held = [] })
unfolding computing
released_first = refl

-- 01: "equal stamps of one author stand newest first"
newest_first : see (once (limits 64 1000) (given 0 (row_of 7 1 1 [] []) ∷ given 0 (row_of 7 1 2 [] []) ∷ given 0 (row_of 7 1 3 [] []) ∷ []))
    ≡ done (record { log = (1, 3) ∷ (1, 2) ∷ (1, 1) ∷ []; held = [] })
unfolding computing
newest_first = refl

-- 01: "A logged row is stale if its stamp is at or below the floor .. All three are logged": one stale at the floor, one applied, one rejected
all_fates : counts (merge 10 (limits 64 1000) 1000 (empty_store (Some (stamp_of 5 1))) (given 0 r11 ∷ given 0 (row_of 6 1 2 [] []) ∷ given 3 (row_of 7 1 3 [] []) ∷ []))
    ≡ done (record { applied = 1; stale = 1; rejected = 1; duplicates = 0; held = 0; expired = 0; dropped = 0 })
unfolding computing
all_fates = refl

stale_is_logged : see (merge 10 (limits 64 1000) 1000 (empty_store (Some (stamp_of 5 1))) (given 0 r11 ∷ [])) ≡ done (record { log = (1, 1) ∷ []; held = [] })
unfolding computing
stale_is_logged = refl

-- 01: "Outcomes are not compared; the first is kept": a row twice in a batch has the fate of its first outcome
first_is_kept : output (once (limits 64 1000) (given 0 r11 ∷ given 3 r11 ∷ [])) ≡ line 1 1 0 0
unfolding computing
first_is_kept = refl

first_is_rejected : output (once (limits 64 1000) (given 3 r11 ∷ given 0 r11 ∷ [])) ≡ line 1 1 4 0
unfolding computing
first_is_rejected = refl

-- a held row that comes again has the fate of the outcome that it came with first
held_is_kept : output (twice (limits 64 1000) (given 3 r21 ∷ []) (given 0 r21 ∷ given 0 r11 ∷ [])) ≡ line 1 1 0 0 ++ line 2 1 4 0
unfolding computing
held_is_kept = refl

-- a row that comes again is a duplicate, held or logged
held_again : counts (twice (limits 64 1000) (given 0 r21 ∷ []) (given 3 r21 ∷ []))
    ≡ done (record { applied = 0; stale = 0; rejected = 0; duplicates = 1; held = 1; expired = 0; dropped = 0 })
unfolding computing
held_again = refl

logged_again : counts (twice (limits 64 1000) (given 0 r11 ∷ []) (given 3 r11 ∷ []))
    ≡ done (record { applied = 0; stale = 0; rejected = 0; duplicates = 1; held = 0; expired = 0; dropped = 0 })
unfolding computing
logged_again = refl

-- stands for the definitions that read a batch's bytes
unfoldable pub reading : ℕ
unfolding read_batch read_rows read_row read_head get_head read_deps read_pairs read_pair read_part read_closing number get_varint get_u32 get_any only_shortest judge judged groups has_last value_of overlong part_of outcome_ok
reading = 0

-- 02: "in a batch the refusal is 3": 1:1 twice in a batch, its counter written as 00 and as 80 00
overlong_counter : read_batch (2 ∷ 5 ∷ 0 ∷ 1 ∷ 1 ∷ 1 ∷ 0 ∷ 0 ∷ 0 ∷ 1 ∷ 0 ∷ 0 ∷ 5 ∷ 0x80 ∷ 0 ∷ 1 ∷ 1 ∷ 1 ∷ 0 ∷ 0 ∷ 0 ∷ 1 ∷ 0 ∷ 0 ∷ []) ≡ refused Unreadable
unfolding reading
overlong_counter = refl

-- and before 4: a count of 65, written as C1 00
overlong_count : read_batch (0xC1 ∷ 0 ∷ []) ≡ refused Unreadable
unfolding reading
overlong_count = refl

-- 01: "If it is not its author's next it is dropped": a held row at the clock's number
dropped_row : counts (merge 10 (limits 64 1000) 1000 (record { log = r11 ∷ []; held = held 900 r11 ∷ []; floor = None; clock = (1, 1) ∷ []; compacted = []; marks = [] }) [])
    ≡ done (record { applied = 0; stale = 0; rejected = 0; duplicates = 0; held = 0; expired = 0; dropped = 1 })
unfolding computing
dropped_row = refl

-- ---- output

-- 01: "18 bytes: author 8 and sequence 8, big-endian, fate": author 258, an unknown tag 9
one_line : output (once (limits 64 1000) (closed 1 2 9 (row_of 5 258 1 [] []) ∷ []))
    ≡ 0 ∷ 0 ∷ 0 ∷ 0 ∷ 0 ∷ 0 ∷ 1 ∷ 2 ∷ 0 ∷ 0 ∷ 0 ∷ 0 ∷ 0 ∷ 0 ∷ 0 ∷ 1 ∷ 3 ∷ 9 ∷ []
unfolding computing
one_line = refl

-- 01: "for each logged row, in logging order": 2:1 waits for 1:1, though its stamp is the lesser
logging_order : output (once (limits 64 1000) (given 0 r21 ∷ given 0 r11 ∷ [])) ≡ line 1 1 0 0 ++ line 2 1 0 0
unfolding computing
logging_order = refl

-- 01: "fate (0 applied, 1 stale, 2 to 5 for outcomes 1 to 4), detail (0 for fates 0 and 1)"
fates : output (once (limits 64 1000)
    (closed 1 0 0 (row_of 5 1 1 [] []) ∷ closed 1 1 0 (row_of 5 1 2 [] []) ∷ closed 1 2 9 (row_of 5 1 3 [] []) ∷ closed 1 3 0 (row_of 5 1 4 [] [])
    ∷ closed 1 4 7 (row_of 5 1 5 [] []) ∷ []))
    ≡ line 1 1 0 0 ++ (line 1 2 2 0 ++ (line 1 3 3 9 ++ (line 1 4 4 0 ++ line 1 5 5 7)))
unfolding computing
fates = refl

stale_line : output (merge 10 (limits 64 1000) 1000 (empty_store (Some (stamp_of 5 1))) (closed 1 4 7 r11 ∷ closed 1 4 7 (row_of 6 1 2 [] []) ∷ []))
    ≡ line 1 1 1 0 ++ line 1 2 5 7
unfolding computing
stale_line = refl

-- 01: "output 18 × (held + batch rows) bytes; scratch 704 × (held + batch rows)": of two rows, one byte less is too short
room : room_for 2 (replicate 1408 0) (replicate 36 0) ∷ room_for 2 (replicate 1408 0) (replicate 35 0) ∷ room_for 2 (replicate 1407 0) (replicate 36 0) ∷ []
    ≡ true ∷ false ∷ false ∷ []
unfolding computing
room = refl

-- 01: "equal stamps of one author stand newest first": the order in which demand 3 compares logs
log_order : log_less (row_of 7 1 2 [] []) (row_of 7 1 1 [] []) ∷ log_less (row_of 7 1 1 [] []) (row_of 7 1 2 [] []) ∷ [] ≡ true ∷ false ∷ []
unfolding computing
log_order = refl

-- ---- refusals: what just passes and what is just refused, with number and values

-- 01: "max_pending 0 to 64; dependencies and max_deps 16; payload and max_payload 256"
settings_most : limits_ok (settings 64 0 0 0 0 16 256) ∷ limits_ok (settings 65 0 0 0 0 16 256) ∷ limits_ok (settings 64 0 0 0 0 17 256) ∷ limits_ok (settings 64 0 0 0 0 16 257) ∷ []
    ≡ true ∷ false ∷ false ∷ false ∷ []
unfolding computing
settings_most = refl

-- two batches on an empty store under the narrow settings
abbrev edge : List BatchRow → List BatchRow → List Told
edge good bad = told_by (once narrow good) ∷ told_by (once narrow bad) ∷ []

zero_sequence : edge (given 0 (row_of 5 3 1 [] []) ∷ []) (given 0 (row_of 5 3 0 [] []) ∷ []) ≡ accepted ∷ told 5 3 0 ∷ []
unfolding computing
zero_sequence = refl

foreign_stamp : edge (given 0 (stamped (stamp_of 5 3) (row_of 5 3 1 [] [])) ∷ []) (given 0 (stamped (stamp_of 5 4) (row_of 5 3 1 [] [])) ∷ [])
    ≡ accepted ∷ told 6 3 1 ∷ []
unfolding computing
foreign_stamp = refl

abbrev counting : ℕ → BatchRow
counting n = given 0 (stamped (record { wall_time = 5; logical_counter = n; actor_id = record { 0 = 3 } }) (row_of 5 3 1 [] []))

spent_counter : edge (counting 4294967294 ∷ []) (counting 4294967295 ∷ []) ≡ accepted ∷ told 7 3 1 ∷ []
unfolding computing
spent_counter = refl

payload_too_large : edge (given 0 (row_of 5 3 1 [] (1 ∷ 2 ∷ [])) ∷ []) (given 0 (row_of 5 3 1 [] (1 ∷ 2 ∷ 3 ∷ [])) ∷ []) ≡ accepted ∷ told 8 3 1 ∷ []
unfolding computing
payload_too_large = refl

too_many_causes : edge (given 0 (row_of 5 3 1 ((1, 1) ∷ []) []) ∷ []) (given 0 (row_of 5 3 1 ((1, 1) ∷ (2, 1) ∷ []) []) ∷ []) ≡ accepted ∷ told 9 3 1 ∷ []
unfolding computing
too_many_causes = refl

own_future_lem : edge (given 0 (row_of 5 3 2 ((3, 1) ∷ []) []) ∷ []) (given 0 (row_of 5 3 2 ((3, 2) ∷ []) []) ∷ []) ≡ accepted ∷ told 10 3 2 ∷ []
unfolding computing
own_future_lem = refl

bad_signature : edge (closed 1 0 0 (row_of 5 3 1 [] []) ∷ []) (closed 0 0 0 (row_of 5 3 1 [] []) ∷ []) ≡ accepted ∷ told 12 3 1 ∷ []
unfolding computing
bad_signature = refl

-- 01: "same author and sequence as a working row, other content": another payload
conflict : edge (given 0 r21 ∷ given 0 r21 ∷ []) (given 0 r21 ∷ given 0 (row_of 3 2 1 ((1, 1) ∷ []) (9 ∷ [])) ∷ []) ≡ accepted ∷ told 13 2 1 ∷ []
unfolding computing
conflict = refl

-- payload bytes are counted, signatures are not
held_bytes : edge (given 0 (signed (7 ∷ 7 ∷ 7 ∷ []) (row_of 3 2 1 ((1, 1) ∷ []) (1 ∷ 2 ∷ []))) ∷ [])
    (given 0 (row_of 3 2 1 ((1, 1) ∷ []) (1 ∷ 2 ∷ [])) ∷ given 0 (row_of 3 3 1 ((1, 1) ∷ []) (3 ∷ [])) ∷ []) ≡ accepted ∷ told 15 2 0 ∷ []
unfolding computing
held_bytes = refl

-- 01: "lowest author named": 7 and 4 hold two rows each, 5 holds one
author_overflow : edge (given 0 (row_of 1 7 2 [] []) ∷ given 0 (row_of 2 4 2 [] []) ∷ [])
    (given 0 (row_of 1 7 2 [] []) ∷ given 0 (row_of 1 7 3 [] []) ∷ given 0 (row_of 2 4 2 [] []) ∷ given 0 (row_of 2 4 3 [] []) ∷ given 0 (row_of 3 5 2 [] []) ∷ [])
    ≡ accepted ∷ told 16 1 4 ∷ []
unfolding computing
author_overflow = refl

-- a log with room for two rows
log_full : told_by (merge 2 (limits 64 1000) 1000 (empty_store None) (given 0 r11 ∷ given 0 r21 ∷ []))
    ∷ told_by (merge 2 (limits 64 1000) 1000 (empty_store None) (given 0 r11 ∷ given 0 r21 ∷ given 0 (row_of 8 1 2 [] []) ∷ [])) ∷ []
    ≡ accepted ∷ told 17 0 0 ∷ []
unfolding computing
log_full = refl

-- so many authors from an author on, each with number 1, and each with a watermark
unfoldable pub entries_from : ℕ → ℕ → List (ℕ × ℕ)
entries_from a zero = []
entries_from a (suc n) = (a, 1) ∷ entries_from (suc a) n

unfoldable pub marks_from : ℕ → ℕ → List Mark
marks_from a zero = []
marks_from a (suc n) = record { author = a; stamp = stamp_of 1 a } ∷ marks_from (suc a) n

-- a new author's first row, on a store whose clock has so many authors, and so many watermarks
abbrev another : ℕ → ℕ → Told
another clock marks =
    told_by (merge 10 (limits 64 1000) 1000 (record { log = []; held = []; floor = None; clock = entries_from 10 clock; compacted = []; marks = marks_from 10 marks })
    (given 0 r11 ∷ []))

authors_full : another 31 31 ∷ another 32 31 ∷ another 31 32 ∷ [] ≡ accepted ∷ told 18 0 0 ∷ told 18 0 0 ∷ []
unfolding computing entries_from marks_from
authors_full = refl

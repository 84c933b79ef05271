-- Closed examples of preparing and sealing, computed from the definitions: what each rule says on both sides of its boundary, and which refusal comes first.
use Rattle.std.specs.declared.option.Option.TheVariants.{None}
use Prim.Native.Nat.{ℕ, ◌-◌, ◌^◌}
use mathlib.Core.Path.{◌≡◌, refl}
use mathlib.Core.List.{[], ◌∷◌, ◌++◌}
use lib.ListN.{replicate, take}
use Rattle.words.specs.Names.{Seq, Bytes, Area, Clock}
use Rattle.words.specs.Be.{be64, get64}
use Rattle.error.specs.declared.Told.{Told}
use Rattle.error.specs.Answer.{done, accepted, told_by}
use Rattle.error.specs.Numbers.{told}
use Rattle.clock.specs.declared.hybrid.HybridClock.{HybridClock}
use Rattle.clock.specs.Vector.{clock_of}
use Rattle.clock.specs.Area.{clock_bytes}
use Rattle.row.specs.Rows.{Row}
use Rattle.row.specs.Unsigned.{read_unsigned}
use Rattle.replicated_log.specs.Store.{Store}
use Rattle.replicated_log.specs.Areas.{Areas, areas, capacity, counts_ok, sound_areas, long_enough, read_store}
use Rattle.merging.specs.Desk.{PrepareCall, next_seq, prepare_call, read_sealed, seal_tests, seal_row, seal_answer}
use Rattle.merging.specs.Group.{own, stamp_of, row_of, held, holding, r21}
use Rattle.merging.proofs.Examples.{computing, reading, r11, entries_from, marks_from}
use Rattle.merging.proofs.DemandInstance.{preparing, blank, blank_reads}

-- stands for the definitions that seal a row
sealing : ℕ
unfolding computing reading marks_from read_sealed read_unsigned seal_tests seal_row
sealing = 0

-- ---- preparing: what is looked at

abbrev clock_area : Clock → Area
clock_area es = clock_bytes (clock_of es)

-- author 1's desk at time 6
abbrev desk : (payload : Bytes) (clock : Area) → HybridClock → (issued : ℕ) (output : Area) → PrepareCall
desk payload clock hybrid issued output =
    record { author = 1; time = 6; payload = payload; hybrid = hybrid; clock = clock; issued = issued; output = output }

abbrev tells : PrepareCall → Told
tells c = told_by (prepare_call c).answer

-- a call with room for every row: its payload and its clock area alone matter
abbrev sizes : (payload : Bytes) (clock : Area) → Told
sizes payload clock = tells (desk payload clock (own 5 0) 0 (replicate 700 0))

-- ---- the next number

-- the author's number in the log's clock is the greater, the number last issued is, there is neither; another author's does not count
next_number : next_seq ((1, 3) ∷ []) 1 2 ∷ next_seq ((1, 3) ∷ []) 1 5 ∷ next_seq [] 1 0 ∷ next_seq ((2, 9) ∷ []) 1 0 ∷ [] ≡ 4 ∷ 6 ∷ 1 ∷ 1 ∷ []
unfolding preparing entries_from
next_number = refl

-- a call with room for every row: the log's clock and the number last issued alone matter
abbrev numbered : (clock : Clock) (issued : ℕ) → Told
numbered clock issued = tells (desk [] (clock_area clock) (own 5 0) issued (replicate 700 0))

-- 02: "27 when the next sequence cannot be formed": 2^64 - 1 is the last, by the number last issued or by the log's clock
last_number : numbered [] (2 ^ 64 - 2) ∷ numbered [] (2 ^ 64 - 1) ∷ numbered ((1, 2 ^ 64 - 2) ∷ []) 0 ∷ numbered ((1, 2 ^ 64 - 1) ∷ []) 0 ∷ []
    ≡ accepted ∷ told 27 0 0 ∷ accepted ∷ told 27 0 0 ∷ []
unfolding preparing entries_from
last_number = refl

-- ---- 26

-- 02: "26 when the payload is above 256 bytes or the log's clock above 16 authors"
too_large_payload : sizes (replicate 256 0) (clock_area (entries_from 10 16)) ∷ sizes (replicate 257 0) (clock_area (entries_from 10 16)) ∷ []
    ≡ accepted ∷ told 26 0 0 ∷ []
unfolding preparing entries_from
too_large_payload = refl

too_many_authors : sizes [] (clock_area (entries_from 10 16)) ∷ sizes [] (clock_area (entries_from 10 17)) ∷ [] ≡ accepted ∷ told 26 0 0 ∷ []
unfolding preparing entries_from
too_many_authors = refl

-- 02: "first of all": a payload too large beside an empty clock area, then that area alone
large_beside_short : sizes (replicate 257 0) [] ∷ sizes [] [] ∷ [] ≡ told 26 0 0 ∷ told 2 0 0 ∷ []
unfolding preparing entries_from
large_beside_short = refl

-- the count is looked at where its eight bytes stand, though the area is short; of seven bytes it is not
count_of_short : sizes [] (be64 17) ∷ sizes [] (be64 16) ∷ sizes [] (replicate 7 255) ∷ [] ≡ told 26 0 0 ∷ told 2 0 0 ∷ told 2 0 0 ∷ []
unfolding preparing entries_from
count_of_short = refl

-- and where the area breaks the rules for clocks
count_of_unsound : sizes [] (be64 17 ++ replicate 512 0) ∷ sizes [] (be64 40 ++ replicate 512 0) ∷ sizes [] (be64 16 ++ replicate 512 0) ∷ []
    ≡ told 26 0 0 ∷ told 26 0 0 ∷ told 1 0 0 ∷ []
unfolding preparing entries_from
count_of_unsound = refl

-- ---- the order of preparing

-- a clock with author 1, and one with author 1 twice, which breaks the rules
abbrev log11 : Area
log11 = clock_area ((1, 1) ∷ [])

abbrev unsound : Area
unsound = clock_area ((1, 1) ∷ (1, 2) ∷ [])

-- at time 6 the first can't count on, the second just can
abbrev spent : HybridClock
spent = own 6 (2 ^ 32 - 1)

abbrev unspent : HybridClock
unspent = own 6 (2 ^ 32 - 2)

-- every fault at once, then healed one by one: 26; 2 and 1 for the log's clock; 19; 27; 2 for the output, where 23 bytes are to be signed
prepare_order : tells (desk (replicate 257 0) (take 519 unsound) spent (2 ^ 64 - 1) (replicate 22 9))
    ∷ tells (desk (8 ∷ []) (take 519 unsound) spent (2 ^ 64 - 1) (replicate 22 9))
    ∷ tells (desk (8 ∷ []) unsound spent (2 ^ 64 - 1) (replicate 22 9))
    ∷ tells (desk (8 ∷ []) log11 spent (2 ^ 64 - 1) (replicate 22 9))
    ∷ tells (desk (8 ∷ []) log11 unspent (2 ^ 64 - 1) (replicate 22 9))
    ∷ tells (desk (8 ∷ []) log11 unspent (2 ^ 64 - 2) (replicate 22 9))
    ∷ tells (desk (8 ∷ []) log11 unspent (2 ^ 64 - 2) (replicate 23 9)) ∷ []
    ≡ told 26 0 0 ∷ told 2 0 0 ∷ told 1 0 0 ∷ told 19 0 0 ∷ told 27 0 0 ∷ told 2 0 0 ∷ accepted ∷ []
unfolding preparing entries_from
prepare_order = refl

-- 02: "here a refusal moves nothing": 27, and 2 for the output, though the stamp was formed
refused_moves_nothing : (prepare_call (desk (8 ∷ []) log11 unspent (2 ^ 64 - 1) (replicate 23 9))).left
    ∷ (prepare_call (desk (8 ∷ []) log11 unspent (2 ^ 64 - 2) (replicate 22 9))).left ∷ []
    ≡ record { hybrid = unspent; output = replicate 23 9 } ∷ record { hybrid = unspent; output = replicate 22 9 } ∷ []
unfolding preparing entries_from
refused_moves_nothing = refl

-- the last call of the order: the hybrid clock has moved on, and the bytes to sign are written
accepted_moves_on : (prepare_call (desk (8 ∷ []) log11 unspent (2 ^ 64 - 2) (replicate 23 9))).left
    ≡ record { hybrid = spent; output = 6 ∷ 255 ∷ 255 ∷ 255 ∷ 255 ∷ 15 ∷ 1 ∷ 1 ∷ 255 ∷ 255 ∷ 255 ∷ 255 ∷ 255 ∷ 255 ∷ 255 ∷ 255 ∷ 255 ∷ 1 ∷ 1 ∷ 1 ∷ 1 ∷ 1 ∷ 8 ∷ [] }
unfolding preparing entries_from
accepted_moves_on = refl

-- they go to the output's start; later bytes stay
later_bytes_stay : (prepare_call (desk (8 ∷ []) log11 (own 6 3) 1 (replicate 12 9))).left
    ≡ record { hybrid = own 6 4; output = 6 ∷ 4 ∷ 1 ∷ 1 ∷ 2 ∷ 1 ∷ 1 ∷ 1 ∷ 1 ∷ 8 ∷ 9 ∷ 9 ∷ [] }
unfolding preparing entries_from
later_bytes_stay = refl

-- ---- the row that is prepared

-- its dependencies are the log's clock pair for pair, the author's own entry and one of number 0 among them
whole_clock : (prepare_call (desk (8 ∷ []) (clock_area ((1, 3) ∷ (7, 0) ∷ (9, 2) ∷ [])) (own 5 0) 0 (replicate 14 0))).answer
    ≡ done (row_of 6 1 4 ((1, 3) ∷ (7, 0) ∷ (9, 2) ∷ []) (8 ∷ []))
unfolding preparing entries_from
whole_clock = refl

-- its stamp is the hybrid clock's, whoever the clock's actor is; sealing refuses such a row with 6
abbrev of_two : HybridClock
of_two = record { actor = record { 0 = 2 }; last_wall = 5; last_counter = 0; max_drift_ms = 60000 }

abbrev foreign : Seq → Clock → Row
foreign seq deps = record { stamp = stamp_of 6 2; author = 1; seq = seq; deps = deps; payload = 8 ∷ []; signature = [] }

foreign_clock : (prepare_call (desk (8 ∷ []) (clock_area []) of_two 0 (replicate 8 0))).answer ≡ done (foreign 1 [])
unfolding preparing entries_from
foreign_clock = refl

-- ---- the order of sealing, over areas

-- the bytes to sign of a row of author 1 with one dependency or none, and what is left over
abbrev to_sign : (stamper : ℕ) (seq : Seq) (deps over : Bytes) → Bytes
to_sign stamper seq deps over = 6 ∷ 0 ∷ stamper ∷ 1 ∷ seq ∷ deps ++ (1 ∷ 8 ∷ over)

abbrev on11 : Bytes
on11 = 1 ∷ 1 ∷ 1 ∷ []

abbrev on_none : Bytes
on_none = 0 ∷ []

abbrev seals : Areas → (bytes signature : Bytes) → Told
seals a bytes signature = told_by (seal_answer a bytes signature)

-- areas too short; areas whose head counts two logged rows, where one has room
abbrev short : Areas
short = areas [] [] []

abbrev overfull : Areas
overfull = areas (replicate 704 0) (replicate 45056 0) (be64 2 ++ replicate 2112 0)

-- every fault at once, then healed one by one: 2 and 1 for the store, 3 for the byte left over, 4 for the signature, 5, 6, 28
seal_order : seals short (to_sign 2 0 on11 (0 ∷ [])) (replicate 65 7)
    ∷ seals overfull (to_sign 2 0 on11 (0 ∷ [])) (replicate 65 7)
    ∷ seals blank (to_sign 2 0 on11 (0 ∷ [])) (replicate 65 7)
    ∷ seals blank (to_sign 2 0 on11 []) (replicate 65 7)
    ∷ seals blank (to_sign 2 0 on11 []) (replicate 64 7)
    ∷ seals blank (to_sign 2 1 on11 []) (replicate 64 7)
    ∷ seals blank (to_sign 1 1 on11 []) (replicate 64 7)
    ∷ seals blank (to_sign 1 1 on_none []) (replicate 64 7) ∷ []
    ≡ told 2 0 0 ∷ told 1 0 0 ∷ told 3 0 0 ∷ told 4 0 0 ∷ told 5 1 0 ∷ told 6 1 1 ∷ told 28 0 0 ∷ accepted ∷ []
unfolding sealing seal_answer read_store long_enough sound_areas counts_ok capacity get64
seal_order = rw blank_reads refl

-- what was read, with the signature that was handed in
reads_signed : read_sealed (to_sign 1 2 on11 []) (4 ∷ 2 ∷ [])
    ≡ done (record { stamp = stamp_of 6 1; author = 1; seq = 2; deps = (1, 1) ∷ []; payload = 8 ∷ []; signature = 4 ∷ 2 ∷ [] })
unfolding sealing
reads_signed = refl

-- ---- the order of sealing, over stores

-- author 10's row of sequence 0, which no clock counts, and so many authors with a watermark, author 10 the first
abbrev crowded : (marks : ℕ) → Store
crowded marks = record { log = row_of 1 10 0 [] [] ∷ []; held = []; floor = None; clock = []; compacted = []; marks = marks_from 10 marks }

abbrev logs : (cap : ℕ) → Store → Row → Told
logs cap s r = told_by (seal_row cap s r)

-- every fault at once, then healed one by one: 5, 6, 28, 17 for a log with room for one row, 18 for the watermarks
row_order : logs 1 (crowded 32) (foreign 0 ((1, 1) ∷ []))
    ∷ logs 1 (crowded 32) (foreign 1 ((1, 1) ∷ []))
    ∷ logs 1 (crowded 32) (row_of 6 1 1 ((1, 1) ∷ []) (8 ∷ []))
    ∷ logs 1 (crowded 32) (row_of 6 1 1 [] (8 ∷ []))
    ∷ logs 2 (crowded 32) (row_of 6 1 1 [] (8 ∷ []))
    ∷ logs 2 (crowded 31) (row_of 6 1 1 [] (8 ∷ [])) ∷ []
    ≡ told 5 1 0 ∷ told 6 1 1 ∷ told 28 0 0 ∷ told 17 0 0 ∷ told 18 0 0 ∷ accepted ∷ []
unfolding sealing
row_order = refl

-- ---- 28, and the rest of sealing

-- 1:1 and 2:1 are logged
abbrev both : Store
both =
    record {
      log = r21 ∷ r11 ∷ [];
      held = [];
      floor = None;
      clock = (1, 1) ∷ (2, 1) ∷ [];
      compacted = [];
      marks = record { author = 1; stamp = stamp_of 5 1 } ∷ record { author = 2; stamp = stamp_of 3 2 } ∷ [];
    }

abbrev causes : Clock → Told
causes deps = logs 10 both (row_of 6 1 2 deps [])

-- 02: "28 when the row's dependencies are not the log's clock, pair for pair": equal; one number off; one author off; a pair fewer; a pair of number 0 more
other_causes : causes ((1, 1) ∷ (2, 1) ∷ []) ∷ causes ((1, 1) ∷ (2, 2) ∷ []) ∷ causes ((1, 1) ∷ (3, 1) ∷ []) ∷ causes ((1, 1) ∷ [])
    ∷ causes ((1, 1) ∷ (2, 1) ∷ (9, 0) ∷ []) ∷ []
    ≡ accepted ∷ told 28 0 0 ∷ told 28 0 0 ∷ told 28 0 0 ∷ told 28 0 0 ∷ []
unfolding sealing
other_causes = refl

-- 02: "tests 5 and 6 but not 7 to 13": the last counter, its own future, far ahead of every time, other content than the logged 1:1
untested : logs 10 both
    (record {
      stamp = record { wall_time = 2 ^ 64 - 1; logical_counter = 2 ^ 32 - 1; actor_id = record { 0 = 1 } };
      author = 1;
      seq = 1;
      deps = (1, 1) ∷ (2, 1) ∷ [];
      payload = 8 ∷ [];
      signature = [];
    })
    ≡ accepted
unfolding sealing
untested = refl

-- 02: "and logs the row": 2:1, held since 900, has its causes now and stays held
held_stays : seal_row 10 (holding 900) r11
    ≡ done
    (record {
      log = r11 ∷ [];
      held = held 900 r21 ∷ [];
      floor = None;
      clock = (1, 1) ∷ [];
      compacted = [];
      marks = record { author = 1; stamp = stamp_of 5 1 } ∷ [];
    })
unfolding sealing
held_stays = refl

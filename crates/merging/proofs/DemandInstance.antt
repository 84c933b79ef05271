-- Demand 3 on two lists of calls over bytes, so that nobody need believe that its hypotheses can be met. Five rows come in two orders; one can't be
-- logged and stays held; one is prepared and sealed at its desk, and comes to the other in a batch. One batch and one sealing are refused, and one call sets the
-- floor.
use Rattle.std.specs.declared.option.Option.TheVariants.{None, Some}
use Prim.Native.Nat.{ℕ}
use mathlib.Core.Path.{◌≡◌, refl, ◌∙◌, sym, ap}
use mathlib.Core.Logic.{inl, inr}
use mathlib.Core.List.Memᴰ
use mathlib.Core.List.{List, [], ◌∷◌, ◌++◌, Memᴰ}
use native.Mathlib.Omega.{arith}
use lib.ListN.{replicate, take}
use Rattle.words.specs.Be.{bes, get64, column}
use Rattle.words.specs.Areas.{pad, put_at}
use Rattle.error.specs.declared.Refusal.TheVariants.{OtherCauses}
use Rattle.error.specs.Answer.{done}
use Rattle.clock.specs.Entries.{rising}
use Rattle.clock.specs.Hlc.{greater, send_l, send_c, send_event}
use Rattle.clock.specs.Hybrid.{now_call, issue_at}
use Rattle.clock.specs.Vector.{pairs, authors_of, numbers_of, zeros, entries, clock_of, sound}
use Rattle.codec.specs.Leb128.{group_then, groups_of, shortest}
use Rattle.codec.specs.Writing.{sized}
use Rattle.clock.specs.Area.{clock_at, zipped, clock_bytes}
use Rattle.row.specs.Rows.{Row, word_pairs, byte_list, stamp_ok}
use Rattle.row.specs.Unsigned.{read_unsigned}
use Rattle.row.specs.Wire.{stamped_bytes, pair_bytes, deps_bytes, unsigned_bytes}
use Rattle.row.specs.Slots.{encode_slots, slots_at}
use Rattle.row.proofs.ListTests.{list_bytes}
use Rattle.replicated_log.specs.Store.{MaybeStamp, Store, derive, never_falls, held_rise, no_twice, marks_rise, floor_ok, clock_ok, rules}
use Rattle.replicated_log.specs.Calls.{read_clock}
use Rattle.replicated_log.specs.Areas.{Areas, areas, capacity, floor_words, encode_marks, logged_rows, log_bytes, held_bytes, head_bytes, rows_of, stamp_at, floor_at, marks_at, decode_store, counts_ok, holds, sound_areas, long_enough, read_store}
use Rattle.merging.specs.Calls.{BatchCall, raise_floor}
use Rattle.merging.specs.Desk.{PrepareCall, too_large, next_seq, prepare_answer, prepare_ends, prepare_call, signed, read_sealed, seal_row, writable, seal_tests}
use Rattle.merging.specs.OwnRows.{CanPrepare, bytes_to_sign}
use Rattle.merging.specs.Offers.{Call, AllGiven, AllMayStand, Empty, batch_rows, offered, Accepted, accepted, Spans, OneContent, Within, Converges}
use Rattle.merging.specs.Group.{own, stamp_of, row_of, held, empty_store, r21}
use Rattle.merging.proofs.Examples.{limits, r11, computing, reading}
use Rattle.merging.proofs.Convergence.{convergence}
use Rattle.merging.proofs.OwnRows.{own_may_stand, refused_may_stand}
use Rattle.merging.proofs.Traces.{done_same}
use Rattle.merging.proofs.CallTraces.{answer_on, seal_on, Trace, trace, Traces, traced, StandsOn, AllStandOn, all_stand, refused_on}
use Rattle.merging.proofs.ConditionTests.{can_make, given_tested, one_content, one_tested, spanning, spans_tested, has, within_tested}
use Rattle.words.specs.Lists.{all}

-- ---- the calls

-- areas of nothing but zeros, with room for four logged rows
abbrev pub blank : Areas
blank = areas (replicate 2816 0) (replicate 45056 0) (replicate 2120 0)

-- beside 1:1 and 2:1, which needs it: 2:2; 3:2, whose author's first row never comes; and 1:2, which is prepared after 1:1 and signed
abbrev pub r22 : Row
r22 = row_of 7 2 2 [] (9 ∷ [])

abbrev pub r32 : Row
r32 = row_of 4 3 2 [] []

abbrev pub prepared12 : Row
prepared12 = row_of 6 1 2 ((1, 1) ∷ []) (8 ∷ [])

abbrev pub signature12 : List ℕ
signature12 = 4 ∷ 2 ∷ []

abbrev pub r12 : Row
r12 = signed prepared12 signature12

-- their bytes in a batch: stamp, author, sequence, dependencies, payload, signature; verdict 1, outcome 0, detail 0
abbrev pub bytes11 : List ℕ
bytes11 = 5 ∷ 0 ∷ 1 ∷ 1 ∷ 1 ∷ 0 ∷ 0 ∷ 0 ∷ 1 ∷ 0 ∷ 0 ∷ []

abbrev pub bytes21 : List ℕ
bytes21 = 3 ∷ 0 ∷ 2 ∷ 2 ∷ 1 ∷ 1 ∷ 1 ∷ 1 ∷ 0 ∷ 0 ∷ 1 ∷ 0 ∷ 0 ∷ []

abbrev pub bytes22 : List ℕ
bytes22 = 7 ∷ 0 ∷ 2 ∷ 2 ∷ 2 ∷ 0 ∷ 1 ∷ 9 ∷ 0 ∷ 1 ∷ 0 ∷ 0 ∷ []

abbrev pub bytes32 : List ℕ
bytes32 = 4 ∷ 0 ∷ 3 ∷ 3 ∷ 2 ∷ 0 ∷ 0 ∷ 0 ∷ 1 ∷ 0 ∷ 0 ∷ []

-- the bytes to sign
abbrev pub unsigned12 : List ℕ
unsigned12 = 6 ∷ 0 ∷ 1 ∷ 1 ∷ 2 ∷ 1 ∷ 1 ∷ 1 ∷ 1 ∷ 8 ∷ []

abbrev pub bytes12 : List ℕ
bytes12 = unsigned12 ++ (2 ∷ 4 ∷ 2 ∷ 1 ∷ 0 ∷ 0 ∷ [])

-- 1:1 with another payload and verdict 0, which is 12: a refused batch offers nothing
abbrev pub forged : List ℕ
forged = 5 ∷ 0 ∷ 1 ∷ 1 ∷ 1 ∷ 0 ∷ 1 ∷ 8 ∷ 0 ∷ 0 ∷ 0 ∷ 0 ∷ []

-- what a call brings at a time, under pending age 50
abbrev pub bringing : ℕ → List ℕ → BatchCall
bringing time bytes = record { limits = limits 64 50; time = time; batch = bytes; scratch = replicate 3520 0; output = replicate 90 0 }

-- the joined call with it and a hybrid clock at 5/0
abbrev pub bring : ℕ → List ℕ → Call
bring time bytes = Call.batch (own 5 0) (bringing time bytes)

-- the times of the accepted batches span 50 and 10
abbrev pub calls₁ : List Call
calls₁ = bring 1000 (3 ∷ bytes21 ++ bytes32 ++ bytes12) ∷ bring 1010 (1 ∷ forged) ∷ bring 1050 (2 ∷ bytes11 ++ bytes22) ∷ []

-- the sealing that is repeated is 28: the row's own number has come into the log's clock
abbrev pub calls₂ : List Call
calls₂ =
    bring 70 (1 ∷ bytes11) ∷ Call.floor (stamp_of 5 1) ∷ Call.seal unsigned12 signature12 ∷ Call.seal unsigned12 signature12
    ∷ bring 60 (2 ∷ bytes22 ++ bytes32) ∷ bring 65 (1 ∷ bytes21) ∷ []

-- author 1's desk at time 6, its hybrid clock at 5/0; it has the log's clock, and issued number 1 last
abbrev pub at_desk : PrepareCall
at_desk =
    record {
      author = 1;
      time = 6;
      payload = 8 ∷ [];
      hybrid = own 5 0;
      clock = clock_bytes (clock_of ((1, 1) ∷ []));
      issued = 1;
      output = replicate 12 0;
    }

-- ---- what they come to, computed

abbrev pub at : ℕ → Accepted
at time = record { time = time; age = 50 }

-- a store with the four rows logged, and 3:2 held since then
abbrev pub after : ℕ → MaybeStamp → Store
after time f =
    record {
      log = r21 ∷ r11 ∷ r12 ∷ r22 ∷ [];
      held = held time r32 ∷ [];
      floor = f;
      clock = (1, 2) ∷ (2, 2) ∷ [];
      compacted = [];
      marks = record { author = 1; stamp = stamp_of 6 1 } ∷ record { author = 2; stamp = stamp_of 7 2 } ∷ [];
    }

abbrev pub trace₁ : Trace
trace₁ = record { store = after 1000 None; offers = r21 ∷ r32 ∷ r12 ∷ r11 ∷ r22 ∷ []; accepts = at 1000 ∷ at 1050 ∷ [] }

abbrev pub trace₂ : Trace
trace₂ = record { store = after 60 (Some (stamp_of 5 1)); offers = r11 ∷ r12 ∷ r22 ∷ r32 ∷ r21 ∷ []; accepts = at 70 ∷ at 60 ∷ at 65 ∷ [] }

-- stands for the definitions that read a batch and trace calls
unfoldable pub tracing : ℕ
unfolding computing reading trace answer_on batch_rows raise_floor seal_on read_sealed read_unsigned seal_tests seal_row
tracing = 0

-- and that prepare a row
unfoldable pub preparing : ℕ
unfolding computing reading prepare_call prepare_ends prepare_answer writable too_large next_seq greater now_call issue_at send_event send_l send_c read_clock sound zeros rising entries pairs clock_at clock_of clock_bytes zipped column authors_of numbers_of pad bes get64 put_at unsigned_bytes stamped_bytes deps_bytes pair_bytes sized shortest groups_of group_then
preparing = 0

-- over the store as values and the batches' bytes
computed₁ : trace 4 calls₁ (empty_store None) ≡ trace₁
unfolding tracing
computed₁ = refl

computed₂ : trace 4 calls₂ (empty_store None) ≡ trace₂
unfolding tracing
computed₂ = refl

-- over all 49,992 bytes: they hold an empty store
pub blank_reads : read_store blank ≡ done (empty_store None)
unfolding computing read_store long_enough sound_areas counts_ok holds decode_store capacity log_bytes held_bytes head_bytes encode_slots logged_rows encode_marks floor_words floor_at stamp_at marks_at slots_at clock_at column entries clock_of clock_bytes zipped pairs authors_of numbers_of rules derive all never_falls held_rise no_twice marks_rise floor_ok clock_ok rising word_pairs pad bes get64
blank_reads = refl

pub room : capacity (replicate 2816 0) ≡ 4
unfolding capacity
room = refl

-- ---- the hypotheses

pub empty : Empty blank
empty = record { store = empty_store None; holds = blank_reads; log = refl; held = refl; clock = refl; marks = refl }

given₁ : AllGiven calls₁
unfolding can_make all byte_list
given₁ = given_tested calls₁ refl

pub given₂ : AllGiven calls₂
unfolding can_make all byte_list stamp_ok
given₂ = given_tested calls₂ refl

pub traces₁ : Traces blank calls₁ trace₁
traces₁ = rw computed₁ at (traced 4 calls₁ given₁ blank (empty_store None) blank_reads room)

pub traces₂ : Traces blank calls₂ trace₂
traces₂ = rw computed₂ at (traced 4 calls₂ given₂ blank (empty_store None) blank_reads room)

-- ---- each call may stand: the sealing is of a row that was prepared, and the repeated one is refused

prepares : (prepare_call at_desk).answer ≡ done prepared12
unfolding preparing
prepares = refl

to_sign_lem : bytes_to_sign at_desk prepared12 ≡ unsigned12
unfolding preparing
to_sign_lem = refl

can_prepare : CanPrepare at_desk
unfolding preparing byte_list
can_prepare =
    record {
      author = omega arith;
      time = omega arith;
      payload = list_bytes at_desk.payload refl;
      clock = list_bytes at_desk.clock refl;
      actor = omega arith;
      wall = omega arith;
      counter = omega arith;
    }

-- the stores on which the row is sealed, and sealed again
abbrev before_sealing : Store
before_sealing = (trace 4 (take 2 calls₂) (empty_store None)).store

abbrev after_sealing : Store
after_sealing = (trace 4 (take 3 calls₂) (empty_store None)).store

is_first : (y : Row) → Memᴰ y (r11 ∷ []) → y ≡ r11
is_first y m = elim (Memᴰ.cases_cons m) [ inl q ↦ q | inr k ↦ absurd (Memᴰ.not-nil k) ]

seals_own : StandsOn 4 before_sealing (r11 ∷ []) (Call.seal unsigned12 signature12)
unfolding tracing
seals_own a h room =
    rw to_sign_lem at (own_may_stand a (r11 ∷ []) at_desk prepared12 before_sealing signature12 can_prepare prepares h
    (λ m. let e : ◌≡◌ {A = ℕ} 2 1 = ap (λ (x : Row). x.seq) (is_first r12 m) in omega arith)
    (λ y n m k l. Memᴰ.not-nil (rw (is_first y m) at k))
    (λ y m e l. let q : y.seq ≡ 1 = ap (λ (x : Row). x.seq) (is_first y m) in omega arith)
    refl)

seals_again : StandsOn 4 after_sealing (r11 ∷ r12 ∷ []) (Call.seal unsigned12 signature12)
unfolding tracing
seals_again a h room = refused_may_stand a _ unsigned12 signature12 OtherCauses (refused_on 4 after_sealing unsigned12 signature12 refl a h room)

stand₁ : AllMayStand blank [] calls₁
unfolding AllStandOn
stand₁ = all_stand 4 calls₁ given₁ blank (empty_store None) blank_reads room [] (λ _ _ _. tt, (λ _ _ _. tt, (λ _ _ _. tt, tt)))

pub stand₂ : AllMayStand blank [] calls₂
unfolding tracing AllStandOn
stand₂ =
    all_stand 4 calls₂ given₂ blank (empty_store None) blank_reads room []
    (λ _ _ _. tt, (λ _ _ _. tt, (seals_own, (seals_again, (λ _ _ _. tt, (λ _ _ _. tt, tt))))))

one : OneContent (offered blank calls₁ ++ offered blank calls₂)
unfolding computing one_content all
one = rw (traces₁.offers, traces₂.offers) (one_tested _ refl)

spans₁ : Spans (accepted blank calls₁)
unfolding spanning all
spans₁ = rw traces₁.accepts (spans_tested _ refl)

pub spans₂ : Spans (accepted blank calls₂)
unfolding spanning all
spans₂ = rw traces₂.accepts (spans_tested _ refl)

-- ---- demand 3 of these lists

pub converges : Converges blank blank calls₁ calls₂
converges = convergence blank blank calls₁ calls₂ given₁ given₂ empty empty stand₁ stand₂ one spans₁ spans₂

to : Within (offered blank calls₁) (offered blank calls₂)
unfolding computing has all
to = rw (traces₁.offers, traces₂.offers) (within_tested _ _ refl)

from : Within (offered blank calls₂) (offered blank calls₁)
unfolding computing has all
from = rw (traces₁.offers, traces₂.offers) (within_tested _ _ refl)

-- so their logs, clocks and held rows agree, and these are they
pub record Shown : Type 0 where
  pub same_log : converges.store₁.log ≡ converges.store₂.log
  pub same_clock : converges.store₁.clock ≡ converges.store₂.clock
  pub same_held : rows_of converges.store₁.held ≡ rows_of converges.store₂.held
  pub ends₁ : converges.store₁ ≡ after 1000 None
  pub ends₂ : converges.store₂ ≡ after 60 (Some (stamp_of 5 1))

pub shown : Shown
shown =
    record {
      same_log = converges.agree.same_log to from;
      same_clock = converges.agree.same_clock to from;
      same_held = converges.agree.same_held to from;
      ends₁ = done_same (sym converges.holds₁ ∙ traces₁.holds);
      ends₂ = done_same (sym converges.holds₂ ∙ traces₂.holds);
    }

-- Ticket 13 on two lists of calls over bytes, so that nobody need believe that its hypotheses can be met. The second list is that of DemandInstance. The first is
-- offered three of its five rows, and lets two of them expire. One batch catches up, and a later one lets the row expire again that no store can log.
use mathlib.Core.Path.{◌≡◌, refl, ◌∙◌, sym, ap}
use Rattle.std.specs.declared.option.Option.TheVariants.{None}
use mathlib.Core.List.Memᴰ
use mathlib.Core.List.{List, [], ◌∷◌, ◌++◌}
use native.Mathlib.Omega.{arith}
use Rattle.error.specs.Answer.{done}
use Rattle.merging.specs.Batch.{read_batch}
use Rattle.replicated_log.specs.Store.{Store}
use Rattle.replicated_log.specs.Areas.{rows_of, read_store}
use Rattle.merging.specs.Calls.{BatchCall}
use Rattle.merging.specs.Delta.{DeltaReport, delta_call}
use Rattle.merging.specs.Offers.{Call, AllGiven, AllMayStand, after_call, run_calls, rows_read, offered, accepted, Spans, OneContent, Within}
use Rattle.merging.specs.Expiring.{AtAnyTimes, CarriesMissing, Equals, CatchesUp}
use Rattle.merging.specs.Group.{stamp_of, held, empty_store, r21, own}
use Rattle.merging.proofs.Examples.{r11, computing}
use Rattle.merging.proofs.Traces.{done_same}
use Rattle.merging.proofs.CallTraces.{Trace, trace, Traces, traced, AllStandOn, all_stand, is_accepted, accepted_on}
use Rattle.merging.proofs.ConditionTests.{can_make, given_tested, one_content, one_tested, has, within_tested, carries_tested}
use Rattle.merging.proofs.DemandInstance.{blank, r12, r22, r32, bytes11, bytes12, bytes21, bytes22, bytes32, bringing, bring, calls₂, at, trace₂, tracing, blank_reads, room, empty, given₂, traces₂, stand₂, spans₂}
use Rattle.merging.proofs.Expiring.{catching_up}
use Rattle.words.specs.Lists.{all}
use Rattle.row.specs.Rows.{byte_list}

-- ---- the calls

-- 2:1 and 3:2 wait from 1000 on and expire at 2000, under pending age 50. Then 1:1 is logged, and 3:2 waits again
abbrev pub late : List Call
late = bring 1000 (2 ∷ bytes21 ++ bytes32) ∷ bring 2000 (1 ∷ bytes11) ∷ bring 2010 (1 ∷ bytes32) ∷ []

-- it brings 1:2, 2:1 and 2:2, and 3:2, which waits and expires in that very call
abbrev pub catching_call : BatchCall
catching_call = bringing 3000 (4 ∷ bytes22 ++ bytes32 ++ bytes21 ++ bytes12)

abbrev pub catching : Call
catching = Call.batch (own 5 0) catching_call

-- ---- what they come to, computed

abbrev pub late_trace : Trace
late_trace =
    record {
      store =
          record {
            log = r11 ∷ [];
            held = held 2010 r32 ∷ [];
            floor = None;
            clock = (1, 1) ∷ [];
            compacted = [];
            marks = record { author = 1; stamp = stamp_of 5 1 } ∷ [];
          };
      offers = r21 ∷ r32 ∷ r11 ∷ r32 ∷ [];
      accepts = at 1000 ∷ at 2000 ∷ at 2010 ∷ [];
    }

computed : trace 4 late (empty_store None) ≡ late_trace
unfolding tracing
computed = refl

pub given : AllGiven late
unfolding can_make all byte_list
given = given_tested late refl

traces : Traces blank late late_trace
traces = rw computed at (traced 4 late given blank (empty_store None) blank_reads room)

given_catching : AllGiven (catching ∷ [])
unfolding can_make all byte_list
given_catching = given_tested (catching ∷ []) refl

-- ---- the hypotheses

pub stand : AllMayStand blank [] late
unfolding AllStandOn
stand = all_stand 4 late given blank (empty_store None) blank_reads room [] (λ _ _ _. tt, (λ _ _ _. tt, (λ _ _ _. tt, tt)))

one : OneContent (offered blank late ++ offered blank calls₂)
unfolding computing one_content all
one = rw (traces.offers, traces₂.offers) (one_tested _ refl)

pub within : Within (offered blank late) (offered blank calls₂)
unfolding computing has all
within = rw (traces.offers, traces₂.offers) (within_tested _ _ refl)

-- the times of the first list are further apart than the pending age
pub not_in_time : Spans (accepted blank late) → ⊥
not_in_time spans =
    let far = (rw traces.accepts at spans) (at 2000) (at 1000) (at 1000) (Memᴰ.tail (Memᴰ.head refl)) (Memᴰ.head refl) (Memᴰ.head refl) in
    omega (arith, far)

-- ---- ticket 13 of these lists

pub at_any_times : AtAnyTimes blank blank late calls₂
at_any_times =
    record {
      given₁ = given;
      given₂ = given₂;
      empty₁ = empty;
      empty₂ = empty;
      may_stand₁ = stand;
      may_stand₂ = stand₂;
      one_content_lem = one;
    }

pub catches : CatchesUp blank blank late calls₂
catches = catching_up blank blank late calls₂ at_any_times spans₂ within

ends₁ : catches.store₁ ≡ late_trace.store
ends₁ = done_same (sym catches.holds₁ ∙ traces.holds)

brings : CarriesMissing (offered blank calls₂) catches.store₁.log (rows_read (read_batch catching_call.batch))
unfolding tracing has all
brings = rw (traces₂.offers, ends₁) (carries_tested _ _ _ refl refl)

taken : (x : DeltaReport) × ((delta_call (run_calls blank late) (own 5 0) catching_call).answer ≡ done x)
unfolding tracing is_accepted
taken = accepted_on 4 late_trace.store (own 5 0) catching_call refl (run_calls blank late) traces.holds (traces.room ∙ room)

pub caught_up : Equals (after_call (run_calls blank late) catching) catches.store₂
caught_up = catches.caught_up (own 5 0) catching_call taken.0 (given_catching catching (Memᴰ.head refl)) taken.1 brings

-- 02: "a later batch may let its held rows expire again": 3:2, which the second still holds
abbrev pub later_calls : List Call
later_calls = late ++ (catching ∷ bring 9000 (0 ∷ []) ∷ [])

given_later : AllGiven later_calls
unfolding can_make all byte_list
given_later = given_tested later_calls refl

expired_again : (trace 4 later_calls (empty_store None)).store.held ≡ []
unfolding tracing
expired_again = refl

-- what the two stores have after the batch, and the first after the later one
pub record Shown : Type 0 where
  pub caught : caught_up.store.log ≡ r21 ∷ r11 ∷ r12 ∷ r22 ∷ []
  pub waits : rows_of caught_up.store.held ≡ r32 ∷ []
  pub later : (s : Store) × (read_store (run_calls blank later_calls) ≡ done s) × (s.held ≡ [])

pub shown : Shown
unfolding rows_of
shown =
    let ends₂ : catches.store₂ ≡ trace₂.store = done_same (sym catches.holds₂ ∙ traces₂.holds) in
    record {
      caught = caught_up.log ∙ ap (λ (s : Store). s.log) ends₂;
      waits = caught_up.held ∙ ap (λ (s : Store). rows_of s.held) ends₂;
      later = (_, (traced 4 later_calls given_later blank (empty_store None) blank_reads room).holds, expired_again);
    }

-- Each condition of ticket 13 is needed: without it what the ticket says is false. For each there are two lists of calls over bytes that meet all the others, and a
-- batch after which the stores differ.
use Prim.Native.Nat.{ℕ}
use mathlib.Core.Path.{◌≡◌, refl, ◌∙◌, sym, ap}
use mathlib.Core.Bool.{true}
use Rattle.std.specs.declared.option.Option.TheVariants.{None}
use mathlib.Core.List.Memᴰ
use mathlib.Core.List.{List, [], ◌∷◌, ◌++◌, Memᴰ}
use native.Mathlib.Omega.{arith}
use lib.ListN.{length}
use Rattle.error.specs.Answer.{done}
use Rattle.clock.specs.declared.hybrid.HybridClock.{HybridClock}
use Rattle.row.specs.Rows.{Row, byte_list}
use Rattle.replicated_log.specs.Store.{Store}
use Rattle.replicated_log.specs.Areas.{Areas, rows_of, read_store}
use Rattle.merging.specs.Batch.{read_batch}
use Rattle.merging.specs.Calls.{BatchCall}
use Rattle.merging.specs.Delta.{DeltaReport, delta_call}
use Rattle.merging.specs.Offers.{Call, Given, AllGiven, after_call, run_calls, Empty, rows_read, offered, accepted, Spans, OneContent, AllMayStand, Within}
use Rattle.merging.specs.Expiring.{AtAnyTimes, CarriesMissing, Equals}
use Rattle.merging.specs.Group.{empty_store, own}
use Rattle.merging.proofs.Traces.{done_same}
use Rattle.merging.proofs.CallTraces.{answer_on, trace, Traces, traced, AllStandOn, all_stand, is_accepted, accepted_on}
use Rattle.merging.proofs.ConditionTests.{can_make, given_tested, one_content, one_tested, spanning, spans_tested, has, within_tested, carries_tested}
use Rattle.merging.proofs.DemandInstance.{blank, bytes11, bytes12, bytes21, bytes22, bytes32, bringing, bring, calls₂, tracing, blank_reads, room, empty, given₂, spans₂}
use Rattle.merging.proofs.Expiring.{catching_up, runs_last}
use Rattle.merging.proofs.RowLists.{row_bytes}
use Rattle.merging.proofs.StoreRuns.{one_part}
use Rattle.merging.proofs.ExpiringInstance.{late, given, stand, at_any_times, within}
use Rattle.words.specs.Lists.{all}

-- ---- what ticket 13 says of the batch that catches up, under any conditions on the lists and on the batch

-- a condition on two lists
abbrev OnTwoLists : Type 1
OnTwoLists = (a₁ a₂ : Areas) (cs₁ cs₂ : List Call) → Type 0

-- a condition on the rows of the batch, by the second's offers and the first's store
abbrev OnBatch : Type 1
OnBatch = (offers : List Row) → Store → (rows : List Row) → Type 0

abbrev pub Equalling : OnTwoLists → OnBatch → Type 0
Equalling Lists Carries =
    (a₁ a₂ : Areas) (cs₁ cs₂ : List Call) → Lists a₁ a₂ cs₁ cs₂
    → (s₁ s₂ : Store) → read_store (run_calls a₁ cs₁) ≡ done s₁ → read_store (run_calls a₂ cs₂) ≡ done s₂
    → (hybrid : HybridClock) (c : BatchCall) (x : DeltaReport) → Given (Call.batch hybrid c) → (delta_call (run_calls a₁ cs₁) hybrid c).answer ≡ done x
    → Carries (offered a₂ cs₂) s₁ (rows_read (read_batch c.batch))
    → Equals (after_call (run_calls a₁ cs₁) (Call.batch hybrid c)) s₂

-- the conditions of the ticket
pub record FairSecond (a₁ a₂ : Areas) (cs₁ cs₂ : List Call) : Type 0 where
  pub lists : AtAnyTimes a₁ a₂ cs₁ cs₂
  pub spans : Spans (accepted a₂ cs₂)
  pub within : Within (offered a₁ cs₁) (offered a₂ cs₂)

abbrev pub as_ticket : OnBatch
as_ticket offers s rows = CarriesMissing offers s.log rows

-- with these it holds
pub equalling : Equalling FairSecond as_ticket
equalling a₁ a₂ cs₁ cs₂ fair s₁ s₂ reads₁ reads₂ j c x given e carries =
    let u = catching_up a₁ a₂ cs₁ cs₂ fair.lists fair.spans fair.within in
    let p₁ : u.store₁ ≡ s₁ = done_same (sym u.holds₁ ∙ reads₁) in
    let p₂ : u.store₂ ≡ s₂ = done_same (sym u.holds₂ ∙ reads₂) in
    rw p₂ at (u.caught_up j c x given e (rw p₁ carries))

-- ---- two lists on blank areas and a batch, computed

abbrev ending : List Call → Store
ending cs = (trace 4 cs (empty_store None)).store

abbrev joined : BatchCall → Call
joined c = Call.batch (own 5 0) c

-- what the claim says, in part, of the two stores after the batch
record Alike (s t : Store) : Type 0 where
  log : s.log ≡ t.log
  held : rows_of s.held ≡ rows_of t.held

traces : (cs : List Call) → AllGiven cs → Traces blank cs (trace 4 cs (empty_store None))
traces cs given = traced 4 cs given blank (empty_store None) blank_reads room

module _ (Lists : OnTwoLists) (Carries : OnBatch) (claim : Equalling Lists Carries)
    (cs₁ cs₂ : List Call) (c : BatchCall) (given₁ : AllGiven cs₁) (given₂ : AllGiven cs₂) (given : AllGiven (cs₁ ++ (joined c ∷ []))) where
  claimed : Lists blank blank cs₁ cs₂ → is_accepted (answer_on 4 (ending cs₁) c) ≡ true
      → Carries (trace 4 cs₂ (empty_store None)).offers (ending cs₁) (rows_read (read_batch c.batch))
      → Alike (ending (cs₁ ++ (joined c ∷ []))) (ending cs₂)
  claimed lists took carries =
      let t₁ = traces cs₁ given₁ in
      let t₂ = traces cs₂ given₂ in
      let (x, e) = accepted_on 4 (ending cs₁) (own 5 0) c took (run_calls blank cs₁) t₁.holds (t₁.room ∙ room) in
      let equals = claim blank blank cs₁ cs₂ lists (ending cs₁) (ending cs₂) t₁.holds t₂.holds (own 5 0) c x
      (given (joined c) (Memᴰ.append_right cs₁ (Memᴰ.head refl))) e (rw t₂.offers carries) in
      let p : ending (cs₁ ++ (joined c ∷ [])) ≡ equals.store =
      done_same (sym (traces (cs₁ ++ (joined c ∷ [])) given).holds ∙ ap read_store (runs_last blank cs₁ (joined c)) ∙ equals.holds) in
      rw p (record { log = equals.log; held = equals.held })

none_given : AllGiven []
none_given c m = absurd (Memᴰ.not-nil m)

-- ---- the rows that the first holds: 3:2 expires in the batch that does not carry it

abbrev pub not_held : OnBatch
not_held offers s rows = CarriesMissing offers (rows_of s.held ++ s.log) rows

pub held_needed : Equalling FairSecond not_held → ⊥
unfolding tracing is_accepted has all can_make byte_list
held_needed claim =
    let same = claimed FairSecond not_held claim late calls₂ (bringing 3000 (3 ∷ bytes22 ++ bytes21 ++ bytes12)) given given₂ (given_tested _ refl)
    (record { lists = at_any_times; spans = spans₂; within = within }) refl (carries_tested _ _ _ refl refl) in
    omega (arith, ap length same.held)

-- ---- no other row: the first holds 3:2, which was not offered to the second

abbrev pub any_other : OnBatch
any_other offers s rows = (r : Row) → Memᴰ r offers → (Memᴰ r s.log → ⊥) → Memᴰ r rows

empty_lists : AtAnyTimes blank blank [] []
unfolding offered
empty_lists =
    record {
      given₁ = none_given;
      given₂ = none_given;
      empty₁ = empty;
      empty₂ = empty;
      may_stand₁ = AllMayStand.none;
      may_stand₂ = AllMayStand.none;
      one_content_lem = λ r s m. absurd (Memᴰ.not-nil m);
    }

pub no_other_needed : Equalling FairSecond any_other → ⊥
unfolding tracing is_accepted all can_make byte_list offered accepted
no_other_needed claim =
    let same = claimed FairSecond any_other claim [] [] (bringing 1000 (1 ∷ bytes32)) none_given none_given (given_tested _ refl)
    (record { lists = empty_lists; spans = λ x y z m. absurd (Memᴰ.not-nil m); within = λ r m. m }) refl
    (λ r m. absurd (Memᴰ.not-nil m)) in
    omega (arith, ap length same.held)

-- ---- the limit on the second's times: it let 2:1 expire, and the first logs it

abbrev pub any_times : OnTwoLists
any_times a₁ a₂ cs₁ cs₂ = AtAnyTimes a₁ a₂ cs₁ cs₂ × Within (offered a₁ cs₁) (offered a₂ cs₂)

pub limit_needed : Equalling any_times as_ticket → ⊥
unfolding tracing is_accepted has all can_make byte_list offered
limit_needed claim =
    let lists : AtAnyTimes blank blank [] late =
    record {
      given₁ = none_given;
      given₂ = given;
      empty₁ = empty;
      empty₂ = empty;
      may_stand₁ = AllMayStand.none;
      may_stand₂ = stand;
      one_content_lem = one_part (λ r m. Memᴰ.append_left (offered blank calls₂) m) at_any_times.one_content_lem;
    } in
    let same = claimed any_times as_ticket claim [] late (bringing 3000 (3 ∷ bytes21 ++ bytes32 ++ bytes11)) none_given given (given_tested _ refl)
    (lists, λ r m. absurd (Memᴰ.not-nil m)) refl (carries_tested _ _ _ refl refl) in
    omega (arith, ap length same.log)

-- ---- one content: 1:1 has another payload at the first, and comes to each after its own

abbrev pub two_contents : OnTwoLists
two_contents a₁ a₂ cs₁ cs₂ =
    AllGiven cs₁ × AllGiven cs₂ × Empty a₁ × Empty a₂ × AllMayStand a₁ [] cs₁ × AllMayStand a₂ [] cs₂ × Spans (accepted a₂ cs₂)
    × Within (offered a₁ cs₁) (offered a₂ cs₂)

abbrev other11 : List ℕ
other11 = 5 ∷ 0 ∷ 1 ∷ 1 ∷ 1 ∷ 0 ∷ 1 ∷ 8 ∷ 0 ∷ 1 ∷ 0 ∷ 0 ∷ []

abbrev other_first : List Call
other_first = bring 1000 (1 ∷ other11) ∷ []

abbrev other_second : List Call
other_second = bring 1000 (1 ∷ bytes11) ∷ bring 1000 (1 ∷ other11) ∷ []

pub one_content_needed : Equalling two_contents as_ticket → ⊥
unfolding tracing is_accepted has all can_make byte_list AllStandOn spanning row_bytes
one_content_needed claim =
    let given₁ : AllGiven other_first = given_tested _ refl in
    let given₂ : AllGiven other_second = given_tested _ refl in
    let t₁ = traces other_first given₁ in
    let t₂ = traces other_second given₂ in
    let stand₁ = all_stand 4 other_first given₁ blank (empty_store None) blank_reads room [] (λ _ _ _. tt, tt) in
    let stand₂ = all_stand 4 other_second given₂ blank (empty_store None) blank_reads room [] (λ _ _ _. tt, (λ _ _ _. tt, tt)) in
    let spans : Spans (accepted blank other_second) = rw t₂.accepts (spans_tested _ refl) in
    let within : Within (offered blank other_first) (offered blank other_second) = rw (t₁.offers, t₂.offers) (within_tested _ _ refl) in
    let same = claimed two_contents as_ticket claim other_first other_second (bringing 1000 (1 ∷ bytes11)) given₁ given₂ (given_tested _ refl)
    (given₁, given₂, empty, empty, stand₁, stand₂, spans, within) refl (carries_tested _ _ _ refl refl) in
    let z : ◌≡◌ {A = ℕ} 1 0 = ap row_bytes same.log in
    omega (arith, z)

-- ---- the first's offers: it logs 1:1, which was not offered to the second

abbrev pub any_offers : OnTwoLists
any_offers a₁ a₂ cs₁ cs₂ = AtAnyTimes a₁ a₂ cs₁ cs₂ × Spans (accepted a₂ cs₂)

abbrev alone11 : List Call
alone11 = bring 1000 (1 ∷ bytes11) ∷ []

pub within_needed : Equalling any_offers as_ticket → ⊥
unfolding tracing is_accepted has all can_make byte_list AllStandOn offered accepted one_content
within_needed claim =
    let given₁ : AllGiven alone11 = given_tested _ refl in
    let lists : AtAnyTimes blank blank alone11 [] =
    record {
      given₁ = given₁;
      given₂ = none_given;
      empty₁ = empty;
      empty₂ = empty;
      may_stand₁ = all_stand 4 alone11 given₁ blank (empty_store None) blank_reads room [] (λ _ _ _. tt, tt);
      may_stand₂ = AllMayStand.none;
      one_content_lem = rw (traces alone11 given₁).offers (one_tested _ refl);
    } in
    let same = claimed any_offers as_ticket claim alone11 [] (bringing 1000 (0 ∷ [])) given₁ none_given (given_tested _ refl)
    (lists, λ x y z m. absurd (Memᴰ.not-nil m)) refl (carries_tested _ _ _ refl refl) in
    omega (arith, ap length same.log)

-- ---- sealings that ticket 1 lets stand: the second seals 2:1 when it holds 2:2, which then stays held

abbrev pub any_sealings : OnTwoLists
any_sealings a₁ a₂ cs₁ cs₂ =
    AllGiven cs₁ × AllGiven cs₂ × Empty a₁ × Empty a₂ × AllMayStand a₁ [] cs₁ × OneContent (offered a₁ cs₁ ++ offered a₂ cs₂) × Spans (accepted a₂ cs₂)
    × Within (offered a₁ cs₁) (offered a₂ cs₂)

-- 2:1 that needs nothing: its bytes to sign, and with an empty signature in a batch
abbrev unsigned21 : List ℕ
unsigned21 = 3 ∷ 0 ∷ 2 ∷ 2 ∷ 1 ∷ 0 ∷ 0 ∷ []

abbrev sealed_late : List Call
sealed_late = bring 1000 (1 ∷ bytes22) ∷ Call.seal unsigned21 [] ∷ []

pub sealings_needed : Equalling any_sealings as_ticket → ⊥
unfolding tracing is_accepted has all can_make byte_list offered one_content spanning
sealings_needed claim =
    let given₂ : AllGiven sealed_late = given_tested _ refl in
    let t₂ = traces sealed_late given₂ in
    let one : OneContent (offered blank sealed_late) = rw t₂.offers (one_tested _ refl) in
    let spans : Spans (accepted blank sealed_late) = rw t₂.accepts (spans_tested _ refl) in
    let same = claimed any_sealings as_ticket claim [] sealed_late (bringing 1000 (2 ∷ unsigned21 ++ (0 ∷ 1 ∷ 0 ∷ 0 ∷ []) ++ bytes22)) none_given given₂
    (given_tested _ refl) (none_given, given₂, empty, empty, AllMayStand.none, one, spans, λ r m. absurd (Memᴰ.not-nil m)) refl
    (carries_tested _ _ _ refl refl) in
    omega (arith, ap length same.log)

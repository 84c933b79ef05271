-- A list of calls over areas is a list of calls over the store that they hold: the store at its end, its offers and its accepted batches come from the
-- store as values and the calls' bytes. So does whether its sealings may stand.
use Prim.Native.Nat.{ℕ, ◌+◌, ◌<◌, ◌^◌}
use mathlib.Core.Path.{◌≡◌, refl, sym, ◌∙◌, ap}
use mathlib.Core.Bool.{Bool, true, false}
use mathlib.Core.List.Memᴰ
use mathlib.Core.List.{List, [], ◌∷◌, ◌++◌, append-nil}
use mathlib.Core.Logic.{inl, inr}
use lib.ListN.{length}
use Rattle.words.specs.Be.{AllBytes}
use Rattle.error.specs.declared.Refusal.{Refusal}
use Rattle.error.specs.declared.Refusal.TheVariants.{OverCapacity, ShortArea}
use Rattle.std.specs.declared.result.Result.TheVariants.{Ok, Err}
use Rattle.error.specs.Answer.{Answer, done, refused, nothing, and_then, unless}
use Rattle.clock.specs.declared.stamp.Timestamp.{Timestamp}
use Rattle.clock.proofs.LexicographicOrder.{clash}
use Rattle.clock.specs.declared.hybrid.HybridClock.{HybridClock}
use Rattle.row.specs.Rows.{Row}
use Rattle.replicated_log.specs.Store.{Store}
use Rattle.replicated_log.specs.Areas.{Areas, capacity, read_store, leave}
use Rattle.merging.specs.Batch.{limits_ok, read_batch}
use Rattle.merging.specs.Merging.{Merged, merge}
use Rattle.merging.specs.Calls.{BatchCall, room_for, batch_answer, batch_ends, batch_call, with_floor, set_floor_call}
use Rattle.merging.specs.Delta.{DeltaReport, delta_ends, delta_call}
use Rattle.merging.specs.Desk.{read_sealed, seal_row, seal_answer, seal_call}
use Rattle.merging.specs.Offers.{Call, AllGiven, after_call, run_calls, rows_read, row_read, when_accepted, offered_by, offered, Accepted, accepted_by, accepted, MayStand, AllMayStand}
use Rattle.merging.proofs.Traces.{call_answered, ends_by}
use Rattle.merging.proofs.StoreRuns.{accepting}
use Rattle.merging.proofs.Sealings.{seal_answered}
use Rattle.merging.proofs.AreasToStores.{batch_holds, batch_room, floor_holds, floor_room, seal_holds, seal_room}

-- a batch call's answer on a store, in whose log there is room for cap rows
unfoldable pub answer_on : ℕ → Store → BatchCall → Answer Merged
answer_on cap s c =
    unless (limits_ok c.limits) OverCapacity
    (and_then (read_batch c.batch) (λ rows.
    unless (room_for (length s.held + length rows) c.scratch c.output) ShortArea
    (merge cap c.limits c.time s rows)))

-- a sealing's answer on such a store
unfoldable pub seal_on : ℕ → Store → (bytes signature : List ℕ) → Answer (Unit × Store)
seal_on cap s bytes signature =
    and_then (read_sealed bytes signature) (λ r.
    and_then (seal_row cap s r) (λ s. done (nothing, s)))

-- what a list of calls comes to
pub record Trace : Type 0 where
  pub store : Store
  pub offers : List Row
  pub accepts : List Accepted

abbrev pub joined : List Row → Accepted → Trace → Trace
joined rows x t = record { store = t.store; offers = rows ++ t.offers; accepts = x ∷ t.accepts }

abbrev pub trace_batch : Answer Merged → Store → BatchCall → (Store → Trace) → Trace
trace_batch (Ok m) s c go = joined (rows_read (read_batch c.batch)) (accepting c.time c.limits) (go m.store)
trace_batch (Err r) s c go = go s

-- a sealing accepts no batch
abbrev pub offering : List Row → Trace → Trace
offering rows t = record { store = t.store; offers = rows ++ t.offers; accepts = t.accepts }

abbrev pub trace_seal : Answer (Unit × Store) → Store → List Row → (Store → Trace) → Trace
trace_seal (Ok (u, t)) s rows go = offering rows (go t)
trace_seal (Err f) s rows go = go s

unfoldable pub trace : ℕ → List Call → Store → Trace
trace cap [] s = record { store = s; offers = []; accepts = [] }
trace cap (Call.batch j c ∷ cs) s = trace_batch (answer_on cap s c) s c (λ s. trace cap cs s)
trace cap (Call.floor t ∷ cs) s = trace cap cs (with_floor s t)
trace cap (Call.seal bytes signature ∷ cs) s =
    trace_seal (seal_on cap s bytes signature) s (row_read (read_sealed bytes signature)) (λ s. trace cap cs s)

-- the calls over areas come to the same, and leave room for as many rows
pub record Traces (a : Areas) (cs : List Call) (t : Trace) : Type 0 where
  pub holds : read_store (run_calls a cs) ≡ done t.store
  pub room : capacity (run_calls a cs).log ≡ capacity a.log
  pub offers : offered a cs ≡ t.offers
  pub accepts : accepted a cs ≡ t.accepts

pub answer_on_lem : (a : Areas) (s : Store) → read_store a ≡ done s → (c : BatchCall) → batch_answer a c ≡ answer_on (capacity a.log) s c
unfolding batch_answer answer_on
answer_on_lem a s h c = rw h

room_after : (cs : List Call) {a b : Areas} → a ≡ b → capacity (run_calls a cs).log ≡ capacity (run_calls b cs).log
room_after cs e = ap (λ (x : Areas). capacity (run_calls x cs).log) e

-- a joined call, refused or accepted, and the calls behind it
module _ (cap : ℕ) (cs : List Call)
    (rest : (a : Areas) (s : Store) → read_store a ≡ done s → capacity a.log ≡ cap → Traces a cs (trace cap cs s))
    (a : Areas) (s : Store) (h : read_store a ≡ done s) (room : capacity a.log ≡ cap)
    (j : HybridClock) (c : BatchCall) (now : c.time < 2 ^ 64) (bytes : AllBytes c.batch) where
  abbrev call : Call
  call = Call.batch j c

  after_is : (x : Answer Merged) → batch_answer a c ≡ x → after_call a call ≡ (ends_by a j c x).left.lent.areas
  unfolding after_call batch_call delta_call
  after_is x e = ap (λ (y : Answer Merged). (ends_by a j c y).left.lent.areas) e

  offered_is : (x : Answer Merged) → batch_answer a c ≡ x → offered_by a call ≡ when_accepted (ends_by a j c x).answer (rows_read (read_batch c.batch))
  unfolding offered_by batch_call delta_call
  offered_is x e = ap (λ (y : Answer Merged). when_accepted (ends_by a j c y).answer (rows_read (read_batch c.batch))) e

  accepted_is : (x : Answer Merged) → batch_answer a c ≡ x → accepted_by a call ≡ when_accepted (ends_by a j c x).answer (accepting c.time c.limits ∷ [])
  unfolding accepted_by batch_call delta_call
  accepted_is x e = ap (λ (y : Answer Merged). when_accepted (ends_by a j c y).answer (accepting c.time c.limits ∷ [])) e

  by_answer : (x : Answer Merged) → batch_answer a c ≡ x → Traces a (call ∷ cs) (trace_batch x s c (λ s. trace cap cs s))
  unfolding run_calls offered accepted batch_ends delta_ends
  by_answer (Err f) e =
      let t = rest a s h room in
      record {
        holds = rw (after_is _ e) t.holds;
        room = room_after cs (after_is _ e) ∙ t.room;
        offers = rw (offered_is _ e, after_is _ e) t.offers;
        accepts = rw (accepted_is _ e, after_is _ e) t.accepts;
      }
  by_answer (Ok m) e =
      let w = call_answered a c m e in
      let t = rest _ m.store (batch_holds a s h c m now bytes w) (batch_room a s h c m now bytes w ∙ room) in
      record {
        holds = rw (after_is _ e) t.holds;
        room = room_after cs (after_is _ e) ∙ t.room ∙ batch_room a s h c m now bytes w;
        offers = rw (offered_is _ e, after_is _ e) (ap (λ (rows : List Row). rows_read (read_batch c.batch) ++ rows) t.offers);
        accepts = rw (accepted_is _ e, after_is _ e) (ap (λ (xs : List Accepted). accepting c.time c.limits ∷ xs) t.accepts);
      }

-- a batch that is accepted on a store, tested
unfoldable pub is_accepted : Answer Merged → Bool
is_accepted (Ok m) = true
is_accepted (Err r) = false

pub accepted_on : (cap : ℕ) (s : Store) (j : HybridClock) (c : BatchCall) → is_accepted (answer_on cap s c) ≡ true
    → (a : Areas) → read_store a ≡ done s → capacity a.log ≡ cap → (x : DeltaReport) × ((delta_call a j c).answer ≡ done x)
unfolding is_accepted batch_call batch_ends delta_call delta_ends
accepted_on cap s j c t a h room = by_test (batch_answer a c) (ap is_accepted (rw room at (answer_on_lem a s h c)) ∙ t)
  where
    by_test : (x : Answer Merged) → is_accepted x ≡ true → (y : DeltaReport) × ((ends_by a j c x).answer ≡ done y)
    by_test (Ok m) t = (_, refl)
    by_test (Err r) t = absurd (clash t refl)

seal_on_lem : (a : Areas) (s : Store) → read_store a ≡ done s → (bytes signature : List ℕ)
    → seal_answer a bytes signature ≡ seal_on (capacity a.log) s bytes signature
unfolding seal_answer seal_on
seal_on_lem a s h bytes signature = rw h

-- a sealing, refused or accepted, and the calls behind it
module _ (cap : ℕ) (cs : List Call)
    (rest : (a : Areas) (s : Store) → read_store a ≡ done s → capacity a.log ≡ cap → Traces a cs (trace cap cs s))
    (a : Areas) (s : Store) (h : read_store a ≡ done s) (room : capacity a.log ≡ cap)
    (bytes signature : List ℕ) (all : AllBytes bytes) (signs : AllBytes signature) where
  abbrev sealing : Call
  sealing = Call.seal bytes signature

  sealed_after : (x : Answer (Unit × Store)) → seal_answer a bytes signature ≡ x → after_call a sealing ≡ (leave a x).left
  unfolding after_call seal_call
  sealed_after x e = ap (λ (y : Answer (Unit × Store)). (leave a y).left) e

  sealed_offers : (x : Answer (Unit × Store)) → seal_answer a bytes signature ≡ x
      → offered_by a sealing ≡ when_accepted (leave a x).answer (row_read (read_sealed bytes signature))
  unfolding offered_by seal_call
  sealed_offers x e = ap (λ (y : Answer (Unit × Store)). when_accepted (leave a y).answer (row_read (read_sealed bytes signature))) e

  by_seal : (x : Answer (Unit × Store)) → seal_answer a bytes signature ≡ x
      → Traces a (sealing ∷ cs) (trace_seal x s (row_read (read_sealed bytes signature)) (λ s. trace cap cs s))
  unfolding run_calls offered accepted accepted_by
  by_seal (Err f) e =
      let t = rest a s h room in
      record {
        holds = rw (sealed_after _ e) t.holds;
        room = room_after cs (sealed_after _ e) ∙ t.room;
        offers = rw (sealed_offers _ e, sealed_after _ e) t.offers;
        accepts = rw (sealed_after _ e) t.accepts;
      }
  by_seal (Ok (nothing, u)) e =
      let w = seal_answered a bytes signature nothing u e in
      let left = seal_room a s h bytes signature u all signs w in
      let t = rest _ u (seal_holds a s h bytes signature u all signs w) (left ∙ room) in
      record {
        holds = rw (sealed_after _ e) t.holds;
        room = room_after cs (sealed_after _ e) ∙ t.room ∙ left;
        offers = rw (sealed_offers _ e, sealed_after _ e) (ap (λ (rows : List Row). row_read (read_sealed bytes signature) ++ rows) t.offers);
        accepts = rw (sealed_after _ e) t.accepts;
      }

-- a floor setting offers and accepts nothing
floor_first : (t : Timestamp) (a : Areas) (cs : List Call) (u : Trace) → capacity (set_floor_call a t).left.log ≡ capacity a.log
    → Traces (set_floor_call a t).left cs u → Traces a (Call.floor t ∷ cs) u
unfolding run_calls offered accepted after_call offered_by accepted_by
floor_first t a cs u e r = record { holds = r.holds; room = r.room ∙ e; offers = r.offers; accepts = r.accepts }

pub traced : (cap : ℕ) (cs : List Call) → AllGiven cs → (a : Areas) (s : Store) → read_store a ≡ done s → capacity a.log ≡ cap
    → Traces a cs (trace cap cs s)
unfolding run_calls offered accepted trace
traced cap [] given a s h room = record { holds = h; room = refl; offers = refl; accepts = refl }
traced cap (Call.batch j c ∷ cs) given a s h room =
    let g = given (Call.batch j c) (Memᴰ.head refl) in
    let same : batch_answer a c ≡ answer_on cap s c = rw room at (answer_on_lem a s h c) in
    by_answer cap cs (λ a s h room. traced cap cs (λ c m. given c (Memᴰ.tail m)) a s h room) a s h room j c g.0 g.1 _ same
traced cap (Call.floor t ∷ cs) given a s h room =
    let g = given (Call.floor t) (Memᴰ.head refl) in
    let r = traced cap cs (λ c m. given c (Memᴰ.tail m)) (set_floor_call a t).left (with_floor s t) (floor_holds a s h t g) (floor_room a s h t g ∙ room) in
    floor_first t a cs (trace cap cs (with_floor s t)) (floor_room a s h t g) r
traced cap (Call.seal bytes signature ∷ cs) given a s h room =
    let g = given (Call.seal bytes signature) (Memᴰ.head refl) in
    let same : seal_answer a bytes signature ≡ seal_on cap s bytes signature = rw room at (seal_on_lem a s h bytes signature) in
    by_seal cap cs (λ a s h room. traced cap cs (λ c m. given c (Memᴰ.tail m)) a s h room) a s h room bytes signature g.0 g.1 _ same

-- ---- whether each sealing may stand

-- a call may stand where the areas hold s, with room for cap rows
abbrev pub StandsOn : ℕ → Store → (before : List Row) → Call → Type 0
StandsOn cap s before c = (a : Areas) → read_store a ≡ done s → capacity a.log ≡ cap → MayStand a before c

-- each call of a list, where the calls before it lead
unfoldable pub AllStandOn : ℕ → Store → (before : List Row) → List Call → Type 0
AllStandOn cap s before [] = Unit
AllStandOn cap s before (c ∷ cs) =
    StandsOn cap s before c × AllStandOn cap (trace cap (c ∷ []) s).store (before ++ (trace cap (c ∷ []) s).offers) cs

pub all_stand : (cap : ℕ) (cs : List Call) → AllGiven cs → (a : Areas) (s : Store) → read_store a ≡ done s → capacity a.log ≡ cap → (before : List Row)
    → AllStandOn cap s before cs → AllMayStand a before cs
unfolding AllStandOn run_calls offered
all_stand cap [] given a s h room before stand = AllMayStand.none
all_stand cap (c ∷ cs) given a s h room before (stand, rest) =
    let t = traced cap (c ∷ []) (λ d m. given d (elim (Memᴰ.cases_cons m) [ inl q ↦ Memᴰ.head q | inr k ↦ absurd (Memᴰ.not-nil k) ])) a s h room in
    let offers : offered_by a c ≡ (trace cap (c ∷ []) s).offers = sym (append-nil (offered_by a c)) ∙ t.offers in
    AllMayStand.more {c = c} {cs = cs} (stand a h room)
    (rw offers
    (all_stand cap cs (λ d m. given d (Memᴰ.tail m)) (after_call a c) (trace cap (c ∷ []) s).store t.holds (t.room ∙ room)
    (before ++ (trace cap (c ∷ []) s).offers) rest))

-- a sealing that is refused on a store
pub refused_on : (cap : ℕ) (s : Store) (bytes signature : List ℕ) {f : Refusal} → seal_on cap s bytes signature ≡ refused f
    → (a : Areas) → read_store a ≡ done s → capacity a.log ≡ cap → (seal_call a bytes signature).answer ≡ refused f
unfolding seal_call
refused_on cap s bytes signature e a h room =
    let same : seal_answer a bytes signature ≡ seal_on cap s bytes signature = rw room at (seal_on_lem a s h bytes signature) in
    ap (λ (x : Answer (Unit × Store)). (leave a x).answer) (same ∙ e)

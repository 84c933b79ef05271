-- From the calls over bytes to the run on store values: each call gets the areas as the last one left them, and they hold the store of the run.
use Prim.Native.Nat.{ℕ, ◌<◌, ◌≤◌, ◌^◌}
use mathlib.Core.Path.{◌≡◌, refl, ap}
use mathlib.Core.Bool.{true}
use mathlib.Core.List.{List, [], ◌∷◌, ◌++◌, append_assoc, append-nil, Memᴰ}
use native.Mathlib.Omega.{arith}
use lib.ListN.{length}
use Rattle.words.specs.Be.{AllBytes}
use Rattle.std.specs.declared.result.Result.TheVariants.{Ok, Err}
use Rattle.error.specs.Answer.{Answer, done, refused, nothing}
use Rattle.clock.specs.declared.stamp.Timestamp.{Timestamp}
use Rattle.clock.specs.declared.hybrid.HybridClock.{HybridClock}
use Rattle.row.specs.Rows.{Row, stamp_ok}
use Rattle.replicated_log.specs.Store.{Store, rules}
use Rattle.replicated_log.specs.Areas.{Areas, capacity, read_store, write_store, leave}
use Rattle.replicated_log.specs.Insertion.{insert}
use Rattle.replicated_log.proofs.Store.Encoding.{capacity_write, read_write, read_rules, read_few, read_long}
use Rattle.replicated_log.proofs.Store.RulesKept.{insert_rules}
use Rattle.merging.specs.Batch.{read_batch}
use Rattle.merging.specs.Merging.{Merged, merge}
use Rattle.merging.specs.Calls.{BatchCall, batch_answer, batch_ends, batch_call, with_floor, set_floor_call}
use Rattle.merging.specs.Delta.{delta_ends, delta_call}
use Rattle.merging.specs.Desk.{read_sealed, seal_answer, seal_call}
use Rattle.merging.specs.Offers.{Call, Given, after_call, run_calls, rows_read, row_read, when_accepted, offered_by, offered, Accepted, accepted_by, accepted, MayStand, AllMayStand}
use Rattle.merging.specs.Trace.{Answered}
use Rattle.merging.proofs.Traces.{merge_went, call_answered, ends_by}
use Rattle.merging.proofs.RulesKept.{merge_rules, floor_rules}
use Rattle.merging.proofs.BatchRows.{brought}
use Rattle.merging.proofs.Sealings.{Seals, row_sealed, SealAnswered, seal_answered, own_next}
use Rattle.merging.proofs.SealedRows.{sealed_ok}
use Rattle.merging.proofs.StoreRuns.{accepting, Run}

-- ---- the areas after one call

module _ (a : Areas) (s : Store) (holds : read_store a ≡ done s) where
  -- after an accepted batch the merged store keeps the rules and fits
  module _ (c : BatchCall) (m : Merged) (now : c.time < 2 ^ 64) (bytes : AllBytes c.batch) (w : Answered a c m) where
    pub merges_here : merge (capacity a.log) c.limits c.time s w.rows ≡ done m
    merges_here =
        let p : w.store ≡ s = cc w.reads in
        rw p at w.merges

    batch_rules : rules m.store ≡ true
    batch_rules = merge_rules _ c.limits c.time s w.rows m merges_here w.limits now (brought c.batch bytes w.rows w.brings) (read_rules a s holds)

    batch_few : length m.store.log ≤ capacity a.log
    batch_few =
        let within = merge_went _ c.limits c.time s w.rows m merges_here in
        rw within.store within.within.log

    -- so they hold it, with room for as many rows
    pub batch_holds : read_store (write_store a m.store) ≡ done m.store
    batch_holds = read_write a m.store (read_long a s holds) batch_rules batch_few

    pub batch_room : capacity (write_store a m.store).log ≡ capacity a.log
    batch_room = capacity_write a m.store (read_long a s holds) batch_rules batch_few

  -- after a floor setting they hold the store with its floor alone changed: log, clock and held rows stay
  pub floor_holds : (t : Timestamp) → stamp_ok t ≡ true → read_store (set_floor_call a t).left ≡ done (with_floor s t)
  unfolding set_floor_call
  floor_holds t h = rw holds (read_write a (with_floor s t) (read_long a s holds) (floor_rules s t h (read_rules a s holds)) (read_few a s holds))

  pub floor_room : (t : Timestamp) → stamp_ok t ≡ true → capacity (set_floor_call a t).left.log ≡ capacity a.log
  unfolding set_floor_call
  floor_room t h = rw holds (capacity_write a (with_floor s t) (read_long a s holds) (floor_rules s t h (read_rules a s holds)) (read_few a s holds))

  -- after an accepted sealing the store with the row inserted keeps the rules and fits
  module _ (bytes signature : List ℕ) (t : Store) (all : AllBytes bytes) (signs : AllBytes signature) (w : SealAnswered a bytes signature t) where
    seals_here : Seals (capacity a.log) s w.row t
    seals_here =
        let p : w.store ≡ s = cc w.reads in
        row_sealed (capacity a.log) s w.row t (rw p at w.seals)

    seal_rules : rules (insert s w.row) ≡ true
    unfolding insert
    seal_rules =
        insert_rules s w.row (read_rules a s holds) (sealed_ok bytes signature all signs w.row w.brings)
        seals_here.within.clock seals_here.within.marks

    pub seal_holds : read_store (write_store a t) ≡ done t
    seal_holds = rw (← seals_here.store) (read_write a (insert s w.row) (read_long a s holds) seal_rules seals_here.within.log)

    pub seal_room : capacity (write_store a t).log ≡ capacity a.log
    seal_room = rw (← seals_here.store) (capacity_write a (insert s w.row) (read_long a s holds) seal_rules seals_here.within.log)

-- ---- the areas after every list of calls

-- the store that areas hold, and the run that led there
pub record Reaches (a : Areas) (o : List Row) (t : List Accepted) : Type 0 where
  pub store : Store
  pub holds : read_store a ≡ done store
  pub run : Run o t store

module _ (a : Areas) (o : List Row) (t : List Accepted) (r : Reaches a o t) where
  -- a joined call, refused or accepted
  after_batch : (j : HybridClock) (c : BatchCall) → c.time < 2 ^ 64 → AllBytes c.batch → (x : Answer Merged) → batch_answer a c ≡ x
      → Reaches (ends_by a j c x).left.lent.areas (o ++ when_accepted (ends_by a j c x).answer (rows_read (read_batch c.batch)))
      (t ++ when_accepted (ends_by a j c x).answer (accepting c.time c.limits ∷ []))
  unfolding batch_ends delta_ends
  after_batch j c now bytes (Err f) e = rw (append-nil o, append-nil t) r
  after_batch j c now bytes (Ok m) e =
      let w = call_answered a c m e in
      let h : read_store a ≡ done r.store = r.holds in
      let p : w.store ≡ r.store = cc w.reads in
      rw w.brings
      (record {
        store = m.store;
        holds = batch_holds a r.store h c m now bytes w;
        run = Run.batch _ c.limits c.time w.rows m (rw p at w.merges) r.run;
      })

  -- a sealing, refused or accepted
  after_seal : (bytes signature : List ℕ) → AllBytes bytes → AllBytes signature → MayStand a o (Call.seal bytes signature)
      → (x : Answer (Unit × Store)) → seal_answer a bytes signature ≡ x
      → Reaches (leave a x).left (o ++ when_accepted (leave a x).answer (row_read (read_sealed bytes signature))) t
  unfolding seal_call
  after_seal bytes signature all signs may (Err f) e = rw (append-nil o) r
  after_seal bytes signature all signs may (Ok (nothing, s)) e =
      let h : read_store a ≡ done r.store = r.holds in
      let w = seal_answered a bytes signature nothing s e in
      let seals = seals_here a r.store h bytes signature s all signs w in
      let own = may w.row (ap (λ (x : Answer (Unit × Store)). (leave a x).answer) e) w.brings in
      let p : w.store ≡ r.store = cc w.reads in
      rw w.brings
      (record {
        store = s;
        holds = seal_holds a r.store h bytes signature s all signs w;
        run =
            Run.seal _ w.row s (rw p at w.seals) (own_next w.row own r.store h seals.causes)
            (record {
              not_it = own.not_it;
              none_depends = λ y n m k l. own.none_depends y n m k (omega arith);
              none_later = λ y m e l. own.none_later y m (cc) (omega arith);
            })
            r.run;
      })

  after_call_lem : (c : Call) → Given c → MayStand a o c → Reaches (after_call a c) (o ++ offered_by a c) (t ++ accepted_by a c)
  unfolding after_call offered_by accepted_by batch_call delta_call seal_call
  after_call_lem (Call.batch j c) g may = after_batch j c g.0 g.1 (batch_answer a c) refl
  after_call_lem (Call.floor x) g may =
      rw (append-nil o, append-nil t)
      (record { store = with_floor r.store x; holds = floor_holds a r.store r.holds x g; run = Run.floor x r.run })
  after_call_lem (Call.seal bytes signature) g may = rw (append-nil t) (after_seal bytes signature g.0 g.1 may (seal_answer a bytes signature) refl)

pub after_calls : (cs : List Call) → ((c : Call) → Memᴰ c cs → Given c) → (a : Areas) (o : List Row) (t : List Accepted)
    → AllMayStand a o cs → Reaches a o t → Reaches (run_calls a cs) (o ++ offered a cs) (t ++ accepted a cs)
unfolding run_calls offered accepted
after_calls [] given a o t may r = rw (append-nil o, append-nil t) r
after_calls (c ∷ cs) given a o t (AllMayStand.more may rest) r =
    rw (← (append_assoc o (offered_by a c) (offered (after_call a c) cs)), ← (append_assoc t (accepted_by a c) (accepted (after_call a c) cs)))
    (after_calls cs (λ d m. given d (Memᴰ.tail m)) (after_call a c) (o ++ offered_by a c) (t ++ accepted_by a c) rest
    (after_call_lem a o t r c (given c (Memᴰ.head refl)) may))

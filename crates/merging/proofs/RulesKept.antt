-- An accepted batch and a floor setting keep the store's rules.
use Rattle.std.specs.declared.option.Option.TheVariants.{None, Some}
use Prim.Native.Nat.{ℕ, ◌≤◌, ◌<◌, ◌^◌}
use mathlib.Core.Path.{◌≡◌, refl, sym}
use mathlib.Core.Logic.{inl, inr}
use mathlib.Core.Bool.{Bool, true, false, not}
use mathlib.Core.List.Memᴰ
use mathlib.Core.List.{List, [], ◌∷◌, Memᴰ}
use native.Mathlib.Omega.{arith}
use lib.Dec.{eqb, leb}
use lib.ListN.{length}
use borrow.Author.Tests.{eqb-true, leb-true, lt-ltb, not-true, not-false}
use Rattle.words.specs.Choice.{pick}
use Rattle.words.proofs.Words.{test}
use Rattle.words.proofs.Conjunction.{and_left, and_right, and_both}
use Rattle.error.specs.Answer.{done}
use Rattle.clock.specs.declared.stamp.Timestamp.{Timestamp}
use Rattle.clock.specs.Order.{stamp_less}
use Rattle.row.specs.Rows.{Row, HeldRow, work_less, outcome_ok, row_ok, held_ok, stamp_ok}
use Rattle.row.specs.Reading.{BatchRow}
use Rattle.replicated_log.specs.Store.{MaybeStamp, Store, below_next, held_rise, same_id, absent_from, no_twice, floor_ok, rules}
use Rattle.replicated_log.specs.Areas.{rows_of}
use Rattle.merging.specs.Batch.{Limits, limits_ok}
use Rattle.merging.specs.Merging.{unexpired, Admitted, arrived, admit_all, quotas, Drained, settle, above_floor, commit, Merged, merge}
use Rattle.merging.specs.Calls.{raise_floor, with_floor}
use Rattle.merging.specs.Offers.{Sorted}
use Rattle.merging.specs.Trace.{Went}
use Rattle.merging.proofs.Traces.{unless_done, merge_went}
use Rattle.replicated_log.proofs.Store.Rules.{all_head, all_tail, all_cons, all_nil, all_rows, Kept, kept, keep}
use Rattle.replicated_log.proofs.Store.RulesKept.{insert_all_rules}
use Rattle.merging.specs.Least.{Taken}
use Rattle.merging.proofs.SortedLists.{place, place_cases, place_sorted}
use Rattle.merging.proofs.RowOrders.{work_trans, work_total}
use Rattle.merging.proofs.RowLists.{goes_before, enter_rows, unexpired_old, sorted_unexpired}
use Rattle.merging.proofs.DrainInduction.{taken_rows, taken_sorted, settled, settle_every}
use Rattle.merging.proofs.Admission.{Admits, old, again, new, admitted, admit_every}
use Rattle.words.specs.Lists.{all}

-- ---- tests of each, and of neighbours

module _ {A : Type 0} (p : A → Bool) where
  pub all_every : (l : List A) → all p l ≡ true → (x : A) → Memᴰ x l → p x ≡ true
  all_every [] h x m = absurd (Memᴰ.not-nil m)
  all_every (y ∷ l) h x m = elim (Memᴰ.cases_cons m) [
    | inl e ↦ rw e (all_head p y l h)
    | inr k ↦ all_every l (all_tail p y l h) x k
  ]

  pub every_all : (l : List A) → ((x : A) → Memᴰ x l → p x ≡ true) → all p l ≡ true
  every_all [] f = all_nil p
  every_all (y ∷ l) f = all_cons p y l (f y (Memᴰ.head refl)) (every_all l (λ x m. f x (Memᴰ.tail m)))

-- 01: "held rows rise by stamp, author, sequence": each is below every later one
rise_sorted : (hs : List HeldRow) → held_rise hs ≡ true → Sorted work_less (rows_of hs)
unfolding held_rise below_next rows_of
rise_sorted [] h = Sorted.none
rise_sorted (k ∷ []) h = Sorted.more (λ y m. absurd (Memᴰ.not-nil m)) Sorted.none
rise_sorted (k ∷ j ∷ hs) h = first (rise_sorted (j ∷ hs) (and_right (work_less k.row j.row) _ h))
  where
    first : Sorted work_less (j.row ∷ rows_of hs) → Sorted work_less (k.row ∷ j.row ∷ rows_of hs)
    first (Sorted.more f s) =
        let l : work_less k.row j.row ≡ true = and_left _ _ h in
        Sorted.more {r = k.row} {rows = j.row ∷ rows_of hs} (λ y m. elim (Memᴰ.cases_cons m) [ inl e ↦ rw e l | inr n ↦ work_trans k.row j.row y l (f y n) ]) (Sorted.more f s)

sorted_rise : (hs : List HeldRow) → Sorted work_less (rows_of hs) → held_rise hs ≡ true
unfolding held_rise below_next rows_of
sorted_rise [] s = refl
sorted_rise (k ∷ []) s = refl
sorted_rise (k ∷ j ∷ hs) (Sorted.more f s) = and_both _ _ (f j.row (Memᴰ.head refl)) (sorted_rise (j ∷ hs) s)

-- 01: "with no author and sequence twice": each differs from every later one
unfoldable pub differ : Row → Row → Bool
differ r s = not (same_id r s)

absent_differ : (k : HeldRow) (hs : List HeldRow) → absent_from k hs ≡ true → (y : Row) → Memᴰ y (rows_of hs) → differ k.row y ≡ true
unfolding absent_from rows_of differ
absent_differ k [] h y m = absurd (Memᴰ.not-nil m)
absent_differ k (j ∷ hs) h y m = elim (Memᴰ.cases_cons m) [
  | inl e ↦ rw e (and_left _ _ h)
  | inr n ↦ absent_differ k hs (and_right (not (same_id k.row j.row)) _ h) y n
]

differ_absent : (k : HeldRow) (hs : List HeldRow) → ((y : Row) → Memᴰ y (rows_of hs) → differ k.row y ≡ true) → absent_from k hs ≡ true
unfolding absent_from rows_of differ
differ_absent k [] f = refl
differ_absent k (j ∷ hs) f = and_both _ _ (f j.row (Memᴰ.head refl)) (differ_absent k hs (λ y m. f y (Memᴰ.tail m)))

twice_sorted : (hs : List HeldRow) → no_twice hs ≡ true → Sorted differ (rows_of hs)
unfolding no_twice rows_of
twice_sorted [] h = Sorted.none
twice_sorted (k ∷ hs) h = Sorted.more (absent_differ k hs (and_left _ _ h)) (twice_sorted hs (and_right (absent_from k hs) _ h))

sorted_twice : (hs : List HeldRow) → Sorted differ (rows_of hs) → no_twice hs ≡ true
unfolding no_twice rows_of
sorted_twice [] s = refl
sorted_twice (k ∷ hs) (Sorted.more f s) = and_both _ _ (differ_absent k hs f) (sorted_twice hs s)

is_different : (r s : Row) → (r.author ≡ s.author → r.seq ≡ s.seq → ⊥) → differ r s ≡ true
unfolding differ same_id
is_different r s f = elim (test (eqb r.author s.author)) [
  | inl h ↦ elim (test (eqb r.seq s.seq)) [ inl k ↦ absurd (f (eqb-true _ _ h) (eqb-true _ _ k)) | inr k ↦ rw (h, k) ]
  | inr h ↦ rw h
]

-- ---- the working rows

-- in order, and none twice
pub record InOrder (hs : List HeldRow) : Type 0 where
  pub rises : Sorted work_less (rows_of hs)
  pub differs : Sorted differ (rows_of hs)

-- a row that differs from all goes anywhere
place_differs : (stays : Row → Bool) (r : Row) {l : List Row} → ((x : Row) → Memᴰ x l → (differ r x ≡ true) × (differ x r ≡ true)) → Sorted differ l
    → Sorted differ (place stays r l)
unfolding place
place_differs stays r f Sorted.none = Sorted.more (λ y m. absurd (Memᴰ.not-nil m)) Sorted.none
place_differs stays r f (Sorted.more {r = x} {rows = l} h s) = elim (test (stays x)) [
  | inl e ↦ rw e (Sorted.more {r = x} {rows = place stays r l}
      (λ y m. elim (place_cases stays r l m) [ inl p ↦ rw p (f x (Memᴰ.head refl)).1 | inr k ↦ h y k ])
      (place_differs stays r (λ y m. f y (Memᴰ.tail m)) s))
  | inr e ↦ rw e (Sorted.more {r = r} {rows = x ∷ l} (λ y m. (f y m).0) (Sorted.more h s))
]

module _ (clock : List (ℕ × ℕ)) (time : ℕ) where
  order_admit : (p : List Row) (a : Admitted) (b : BatchRow) (r : Admitted) → Admits clock time a b r → InOrder a.working → InOrder r.working
  order_admit p a b r (old l) i = i
  order_admit p a b r (again m e f c) i = i
  order_admit p a b r (new l f) i =
      let rows = enter_rows (arrived time b) a.working in
      record {
        rises =
            rw rows (place_sorted work_less work_trans (goes_before b.row) b.row (λ x m t. work_total b.row x (f x m) (not-true _ t))
            (λ x m t. not-false _ t) i.rises);
        differs =
            rw rows (place_differs (goes_before b.row) b.row
            (λ x m. (is_different b.row x (f x m), is_different x b.row (λ e q. f x m (sym e) (sym q)))) i.differs);
      }

  order_admits : (rows : List BatchRow) (a r : Admitted) → admit_all clock time a rows ≡ done r → InOrder a.working → InOrder r.working
  order_admits rows a r e i =
      admitted clock time (λ p w. InOrder w) rows (λ p a b r m d i. order_admit p a b r d i) rows (λ b m. m) [] a r e i

order_taken : {h : HeldRow} {rest w : List HeldRow} → Taken h rest w → InOrder w → InOrder rest
order_taken t k = record { rises = taken_sorted work_less (taken_rows t) k.rises; differs = taken_sorted differ (taken_rows t) k.differs }

order_settle : (s : Store) (a : Admitted) → InOrder a.working → InOrder (settle s a).waiting
order_settle s a i =
    (settled (λ c w l d. InOrder w) (λ c w l d h rest e t q k. order_taken t k) (λ c w l d h rest e t q k. order_taken t k) s a i).0

-- the working rows of a store that keeps its rules, after any batch
pub working_order : (s : Store) (cutoff time : ℕ) (rows : List BatchRow) (a : Admitted) → rules s ≡ true
    → admit_all s.clock time (record { working = unexpired cutoff s.held; duplicates = 0 }) rows ≡ done a → InOrder a.working
working_order s cutoff time rows a sound e =
    let k = kept s sound in
    order_admits s.clock time rows _ a e
    (record {
      rises = sorted_unexpired work_less cutoff s.held (rise_sorted s.held k.keys);
      differs = sorted_unexpired differ cutoff s.held (twice_sorted s.held k.ids);
    })

-- ---- an accepted batch

-- 14 passed: at most 64 rows wait on
few_waiting : (l : Limits) (hs : List HeldRow) {u : Unit} → limits_ok l ≡ true → quotas l hs ≡ done u → length hs ≤ 64
unfolding limits_ok quotas
few_waiting l hs o q =
    let (p, r) = unless_done (leb (length hs) l.max_pending) _ _ q in
    omega (arith, leb-true (length hs) l.max_pending p, leb-true l.max_pending 64 (and_left _ _ (and_left _ _ o)))

held_ok_lem : (h : HeldRow) → row_ok h.row ≡ true → h.arrival < 2 ^ 64 → outcome_ok h.outcome h.detail ≡ true → held_ok h ≡ true
unfolding held_ok
held_ok_lem h r a o = and_both _ _ (and_both _ _ r (lt-ltb _ _ a)) o

-- what a batch must bring: rows within capacity, outcomes as they may be
abbrev pub Brings : List BatchRow → Type 0
Brings rows = (b : BatchRow) → Memᴰ b rows → (row_ok b.row ≡ true) × (outcome_ok b.closing.outcome b.closing.detail ≡ true)

module _ (cap : ℕ) (l : Limits) (time : ℕ) (s : Store) (rows : List BatchRow) (m : Merged) (e : merge cap l time s rows ≡ done m)
    (limits : limits_ok l ≡ true) (now : time < 2 ^ 64) (brings : Brings rows) (sound : rules s ≡ true) where
  abbrev w : Went cap l time s rows m
  w = merge_went cap l time s rows m e

  k : Kept s
  k = kept s sound

  abbrev d : Drained
  d = settle s w.admitted

  working_ok : (h : HeldRow) → Memᴰ h w.admitted.working → held_ok h ≡ true
  working_ok =
      admit_every s.clock time (λ h. held_ok h ≡ true) rows _ w.admitted w.admits
      (λ b n. held_ok_lem (arrived time b) (brings b n).0 now (brings b n).1)
      (λ h n. all_every held_ok s.held k.held_rows h (unexpired_old _ s.held h n))

  drained_ok : ((h : HeldRow) → Memᴰ h d.waiting → held_ok h ≡ true) × ((h : HeldRow) → Memᴰ h d.logged → held_ok h ≡ true)
  drained_ok = settle_every (λ h. held_ok h ≡ true) s w.admitted working_ok

  waiting_order : InOrder d.waiting
  waiting_order = order_settle s w.admitted (working_order s _ time rows w.admitted sound w.admits)

  -- the store with the rows that wait on, before the logged ones are inserted
  abbrev base : Store
  base = record { log = s.log; held = d.waiting; floor = s.floor; clock = s.clock; compacted = s.compacted; marks = s.marks }

  base_rules : rules base ≡ true
  base_rules =
      keep _ (record {
        rows = k.rows;
        held_rows = every_all held_ok d.waiting drained_ok.0;
        stamps = k.stamps;
        marked = k.marked;
        keys = sorted_rise d.waiting waiting_order.rises;
        ids = sorted_twice d.waiting waiting_order.differs;
        clock = k.clock;
        compacted = k.compacted;
        derived = k.derived;
        marks_few = k.marks_few;
        marks_rise_lem = k.marks_rise_lem;
        marks = k.marks;
        floor = k.floor;
        held_few = few_waiting l d.waiting limits w.quota;
      })

  logged_ok : all row_ok (rows_of d.logged) ≡ true
  logged_ok = all_rows d.logged (every_all held_ok d.logged drained_ok.1)

  -- an accepted batch keeps the rules
  pub merge_rules : rules m.store ≡ true
  unfolding commit
  merge_rules =
      rw w.store (insert_all_rules base (rows_of d.logged) base_rules logged_ok w.within.clock w.within.marks)

-- ---- a floor setting

raised_ok : (f : MaybeStamp) (t : Timestamp) → floor_ok f ≡ true → stamp_ok t ≡ true → floor_ok (raise_floor f t) ≡ true
unfolding raise_floor above_floor floor_ok
raised_ok None t o h = h
raised_ok (Some f) t o h = elim (stamp_less f t) as (λ b. floor_ok (pick b (Some t) (Some f)) ≡ true) [ true ↦ h | false ↦ o ]

pub floor_rules : (s : Store) (t : Timestamp) → stamp_ok t ≡ true → rules s ≡ true → rules (with_floor s t) ≡ true
floor_rules s t h sound =
    let k = kept s sound in
    keep _ (record {
      rows = k.rows;
      held_rows = k.held_rows;
      stamps = k.stamps;
      marked = k.marked;
      keys = k.keys;
      ids = k.ids;
      clock = k.clock;
      compacted = k.compacted;
      derived = k.derived;
      marks_few = k.marks_few;
      marks_rise_lem = k.marks_rise_lem;
      marks = k.marks;
      floor = raised_ok s.floor t k.floor h;
      held_few = k.held_few;
    })

-- What holds of a store and the rows offered to it, and that logging a row, admitting a row and draining keep it.
use Prim.Native.Nat.{ℕ, suc, ◌≤◌, ◌<◌}
use mathlib.Core.Path.{◌≡◌, refl, sym, ◌∙◌, ap}
use mathlib.Core.Logic.{◌⊎◌, inl, inr}
use mathlib.Core.Bool.{true, false}
use mathlib.Core.List.{List, [], ◌∷◌, ◌++◌, append_assoc, append-nil, Memᴰ}
use native.Mathlib.Omega.{arith}
use lib.Dec.{eqb}
use borrow.Author.Tests.{eqb-true, eqb-false, not-true, not-false}
use Rattle.words.proofs.Words.{test}
use Rattle.error.specs.Answer.{done}
use Rattle.clock.specs.declared.stamp.Timestamp.{Timestamp}
use Rattle.clock.specs.Order.{stamp_less}
use Rattle.clock.specs.Entries.{get, observe}
use Rattle.clock.proofs.LexicographicOrder.{stamp_total}
use Rattle.clock.proofs.RisingAuthors.{Rises, observe_rises}
use Rattle.row.specs.Rows.{Row, HeldRow, work_less}
use Rattle.row.specs.Reading.{BatchRow}
use Rattle.replicated_log.specs.Store.{Store}
use Rattle.replicated_log.specs.Areas.{rows_of}
use Rattle.merging.specs.Merging.{ready, Admitted, arrived, admit_all, settle}
use Rattle.merging.specs.Offers.{batch_rows, count, CausalListing, log_less, Sorted, Within, OneContent}
use Rattle.merging.specs.Least.{Taken}
use Rattle.merging.proofs.SortedLists.{place, place_self, place_old, place_cases, count_place, place_sorted}
use Rattle.merging.proofs.RowOrders.{work_trans, work_irrefl, work_total, log_below, log_level, log_trans}
use Rattle.merging.proofs.ClockLaws.{observe_put, get_next, get_others, Positive, positive_put}
use Rattle.merging.proofs.CausalListings.{count_none, count_same, count_other, count_last, count_not_last, last_old, last_self, last_cases, listed_more, listed_offered, listed_last, listed_bound, listed_at}
use Rattle.merging.proofs.RowLists.{rows_mem, rows_last, goes_before, enter_rows, older, insert_place, insert_last}
use Rattle.merging.proofs.DrainInduction.{taken_self, taken_rest, taken_cases, taken_rows, taken_sorted, taken_apart, ready_seq, ready_deps, EndsIn, settled}
use Rattle.merging.proofs.Admission.{Admits, old, again, new, admits, admits_same, admitted}
use Rattle.merging.proofs.RowContent.{one_row_lem}
use Rattle.replicated_log.specs.Insertion.{insert_row, insert, insert_all}

-- refusals 5 and 6: an offered row has a sequence above 0, and its stamp is its author's
pub record Valid (r : Row) : Type 0 where
  pub first : 0 < r.seq
  pub own : r.stamp.actor_id.0 ≡ r.author

abbrev pub AllValid : List Row → Type 0
AllValid o = (y : Row) → Memᴰ y o → Valid y

-- `o` what is offered, `p` the part of it that is admitted, `c` the clock, `ls` a causal listing of the logged rows, `g` the log, `w` the held rows
pub record Inv (o p : List Row) (c : List (ℕ × ℕ)) (ls g w : List Row) : Type 0 where
  pub listing : CausalListing o ls
  pub clock : (a : ℕ) → get c a ≡ count a ls
  pub rises : Rises 0 c
  pub positive : Positive c
  pub held : Within w o
  pub all : (y : Row) → Memᴰ y p → Memᴰ y ls ⊎ Memᴰ y w
  pub ahead : (y : Row) → Memᴰ y w → count y.author ls < y.seq
  pub held_sorted : Sorted work_less w
  pub log_sorted : Sorted log_less g
  pub log_listed : Within g ls
  pub listed_log : Within ls g
  pub counted : (a : ℕ) → count a g ≡ count a ls

-- the same under more offers, with fewer rows held and others admitted, as long as each of these is listed or held
pub weaker : {few many p q : List Row} {c : List (ℕ × ℕ)} {ls g w v : List Row} → Within few many → Within v w → Sorted work_less v
    → ((y : Row) → Memᴰ y q → Memᴰ y ls ⊎ Memᴰ y v) → Inv few p c ls g w → Inv many q c ls g v
weaker more fewer sorted all i =
    record {
      listing = listed_more more i.listing;
      clock = i.clock;
      rises = i.rises;
      positive = i.positive;
      held = λ y m. more y (i.held y (fewer y m));
      all = all;
      ahead = λ y m. i.ahead y (fewer y m);
      held_sorted = sorted;
      log_sorted = i.log_sorted;
      log_listed = i.log_listed;
      listed_log = i.listed_log;
      counted = i.counted;
    }

-- a listed row is at or below the clock
pub listed_low : {o p : List Row} {c : List (ℕ × ℕ)} {ls g w : List Row} → Inv o p c ls g w → (x : Row) → Memᴰ x ls → x.seq ≤ get c x.author
listed_low i x m = omega (arith, (listed_bound i.listing x m).1, i.clock x.author)

count_cons : (a : ℕ) (r : Row) (g ls : List Row) → count a g ≡ count a ls → count a (r ∷ g) ≡ count a (ls ++ (r ∷ []))
count_cons a r g ls e = elim (test (eqb r.author a)) [
  | inl h ↦ omega (arith, count_same a r g (eqb-true _ _ h), count_last a ls r (eqb-true _ _ h))
  | inr h ↦ omega (arith, count_other a r g (eqb-false _ _ h), count_not_last a ls r (eqb-false _ _ h))
]

count_insert : (a : ℕ) (r : Row) (g : List Row) → count a (insert_row r g) ≡ count a (r ∷ g)
unfolding count
count_insert a r g = rw (insert_place r g) (count_place (λ (x : Row). eqb x.author a) (older r) r g)

module _ (o : List Row) (one : OneContent o) (valid : AllValid o) where
  module _ {p : List Row} {c : List (ℕ × ℕ)} {ls g w : List Row} (i : Inv o p c ls g w) where
    -- and an offered row at or below the clock is listed
    pub low_listed : (x : Row) → Memᴰ x o → x.seq ≤ get c x.author → Memᴰ x ls
    low_listed x m h =
        let (y, k, a, n) = listed_at i.listing x.author x.seq (omega (arith, (valid x m).first, count_none x.author)) (omega (arith, i.clock x.author)) in
        mathlib.Core.List.Memᴰ.cast (sym (one y x (listed_offered i.listing y k) m a n)) k

    -- a row is logged
    module _ {rest : List Row} (r : Row) (rd : ready c r ≡ true) (t : Taken r rest w) (e : r.seq ≡ suc (get c r.author)) where
      new_in_listing : Memᴰ r ls → ⊥
      new_in_listing m = omega (arith, listed_low i r m)

      -- equal stamps are one author's, so the new row has the higher sequence
      logged_before : (x : Row) → Memᴰ x g → older r x ≡ false → log_less r x ≡ true
      logged_before x m f = elim (test (stamp_less r.stamp x.stamp)) [
        | inl h ↦ log_below r x h
        | inr h ↦
            let s : r.stamp ≡ x.stamp = stamp_total r.stamp x.stamp h f in
            let k : Memᴰ x ls = i.log_listed x m in
            let q : x.author ≡ r.author =
            sym (valid x (listed_offered i.listing x k)).own ∙ sym (ap (λ (z : Timestamp). z.actor_id.0) s) ∙ (valid r (i.held r (taken_self t))).own in
            log_level r x s (omega (arith, listed_low i x k, ap (get c) q))
      ]

      clock_moves : (a : ℕ) → get (observe c r.author r.seq) a ≡ count a (ls ++ (r ∷ []))
      clock_moves a = elim (test (eqb r.author a)) [
        | inl h ↦
            let q : r.author ≡ a = eqb-true _ _ h in
            omega (arith, get_next c r.author r.seq e a q, count_last a ls r q, i.clock a, ap (get c) q)
        | inr h ↦
            let q : r.author ≡ a → ⊥ = eqb-false _ _ h in
            omega (arith, get_others c r.author r.seq e a q, count_not_last a ls r q, i.clock a)
      ]

      still_ahead : (y : Row) → Memᴰ y rest → count y.author (ls ++ (r ∷ [])) < y.seq
      still_ahead y m =
          let before : count y.author ls < y.seq = i.ahead y (taken_rest t y m) in
          elim (test (eqb r.author y.author)) [
            | inl h ↦
                let q : r.author ≡ y.author = eqb-true _ _ h in
                let ne : r.seq ≡ y.seq → ⊥ =
                λ s. taken_apart work_less work_irrefl t i.held_sorted (mathlib.Core.List.Memᴰ.cast (one r y (i.held r (taken_self t)) (i.held y (taken_rest t y m)) q s) m) in
                omega (arith, ne, count_last y.author ls r q, i.clock r.author, ap (λ (a : ℕ). count a ls) q)
            | inr h ↦ omega (arith, count_not_last y.author ls r (eqb-false _ _ h))
          ]

      pub keeps_log : Inv o p (observe c r.author r.seq) (ls ++ (r ∷ [])) (insert_row r g) rest
      keeps_log =
          record {
            listing =
                listed_last r i.listing (i.held r (taken_self t)) new_in_listing (e ∙ ap suc (i.clock r.author))
                (λ a n m. omega (arith, ready_deps c r rd a n m, i.clock a));
            clock = clock_moves;
            rises = observe_rises r.author r.seq c i.rises;
            positive = rw (observe_put c r.author r.seq e) (positive_put c r.author r.seq (omega arith) i.positive);
            held = λ y m. i.held y (taken_rest t y m);
            all = λ y m. elim (i.all y m) [
              | inl k ↦ inl (last_old ls r k)
              | inr k ↦ elim (taken_cases t y k) [ inl q ↦ inl (mathlib.Core.List.Memᴰ.cast q (last_self ls r)) | inr q ↦ inr q ]
            ];
            ahead = still_ahead;
            held_sorted = taken_sorted work_less t i.held_sorted;
            log_sorted = rw (insert_place r g) (place_sorted log_less log_trans (older r) r (λ x m f. log_below x r f) logged_before i.log_sorted);
            log_listed = λ y m. elim (place_cases (older r) r g (rw (insert_place r g) at m)) [
              | inl q ↦ mathlib.Core.List.Memᴰ.cast q (last_self ls r)
              | inr k ↦ last_old ls r (i.log_listed y k)
            ];
            listed_log = λ y m. rw (insert_place r g) (elim (last_cases ls r m) [
              | inl q ↦ mathlib.Core.List.Memᴰ.cast q (place_self (older r) r g)
              | inr k ↦ place_old (older r) r g (i.listed_log y k)
            ]);
            counted = λ a. count_insert a r g ∙ count_cons a r g ls (i.counted a);
          }

    -- a ready row is its author's next, so that none is dropped
    pub is_next : {rest : List Row} (r : Row) → ready c r ≡ true → Taken r rest w → r.seq ≡ suc (get c r.author)
    is_next r rd t = omega (arith, ready_seq c r rd, i.ahead r (taken_self t), i.clock r.author)

    -- a row that is there already is admitted
    pub keeps_known : (r : Row) → Memᴰ r ls ⊎ Memᴰ r w → Inv o (p ++ (r ∷ [])) c ls g w
    keeps_known r k =
        weaker (λ y m. m) (λ y m. m) i.held_sorted (λ y m. elim (last_cases p r m) [
          | inl q ↦ elim k [ inl j ↦ inl (mathlib.Core.List.Memᴰ.cast q j) | inr j ↦ inr (mathlib.Core.List.Memᴰ.cast q j) ]
          | inr j ↦ i.all y j
        ]) i

    -- a new row is admitted
    pub keeps_new : (r : Row) → Memᴰ r o → get c r.author < r.seq → ((y : Row) → Memᴰ y w → r.author ≡ y.author → r.seq ≡ y.seq → ⊥)
        → Inv o (p ++ (r ∷ [])) c ls g (place (goes_before r) r w)
    keeps_new r ro h ne =
        record {
          listing = i.listing;
          clock = i.clock;
          rises = i.rises;
          positive = i.positive;
          held = λ y m. elim (place_cases (goes_before r) r w m) [ inl q ↦ mathlib.Core.List.Memᴰ.cast q ro | inr k ↦ i.held y k ];
          all = λ y m. elim (last_cases p r m) [
            | inl q ↦ inr (mathlib.Core.List.Memᴰ.cast q (place_self (goes_before r) r w))
            | inr j ↦ elim (i.all y j) [ inl k ↦ inl k | inr k ↦ inr (place_old (goes_before r) r w k) ]
          ];
          ahead = λ y m. elim (place_cases (goes_before r) r w m) [ inl q ↦ rw q (omega (arith, i.clock r.author)) | inr k ↦ i.ahead y k ];
          held_sorted =
              place_sorted work_less work_trans (goes_before r) r (λ x m f. work_total r x (ne x m) (not-true _ f)) (λ x m f. not-false _ f) i.held_sorted;
          log_sorted = i.log_sorted;
          log_listed = i.log_listed;
          listed_log = i.listed_log;
          counted = i.counted;
        }

  -- a row of the batch is admitted
  module _ (c : List (ℕ × ℕ)) (time : ℕ) (ls g : List Row) where
    keeps_admit : (p : List Row) (a : Admitted) (b : BatchRow) (r : Admitted) → Memᴰ b.row o → Admits c time a b r
        → Inv o p c ls g (rows_of a.working) → Inv o (p ++ (b.row ∷ [])) c ls g (rows_of r.working)
    keeps_admit p a b r bo (old h) i = keeps_known i b.row (inl (low_listed i b.row bo (omega arith)))
    keeps_admit p a b r bo (again {h = h} m e f s) i =
        let k : Memᴰ h.row (rows_of a.working) = rows_mem a.working m in
        keeps_known i b.row (inr (mathlib.Core.List.Memᴰ.cast (one b.row h.row bo (i.held h.row k) e f) k))
    keeps_admit p a b r bo (new h f) i = rw (enter_rows (arrived time b) a.working) (keeps_new i b.row bo h f)

    pub keeps_admits : (rows : List BatchRow) → ((b : BatchRow) → Memᴰ b rows → Memᴰ b.row o) → (p : List Row) (a r : Admitted)
        → admit_all c time a rows ≡ done r → Inv o p c ls g (rows_of a.working) → Inv o (p ++ batch_rows rows) c ls g (rows_of r.working)
    keeps_admits rows sub p a r e i =
        admitted c time (λ p w. Inv o p c ls g (rows_of w)) rows (λ p a b r m d i. keeps_admit p a b r (sub b m) d i) rows (λ b m. m) p a r e i

    -- none of these is a conflict, so that the whole batch is admitted
    pub all_admitted : (rows : List BatchRow) → ((b : BatchRow) → Memᴰ b rows → Memᴰ b.row o) → (p : List Row) (a : Admitted)
        → Inv o p c ls g (rows_of a.working) → (r : Admitted) × (admit_all c time a rows ≡ done r)
    unfolding admit_all
    all_admitted [] sub p a i = (a, refl)
    all_admitted (b ∷ rows) sub p a i =
        let bo = sub b (mathlib.Core.List.Memᴰ.head refl) in
        let (x, e) = admits_same c time a b (λ h m q n. ((one_row_lem h.row b.row).1 (sym (one b.row h.row bo (i.held h.row (rows_mem a.working m)) q n))).2) in
        let (r, f) = all_admitted rows (λ y m. sub y (mathlib.Core.List.Memᴰ.tail m)) (p ++ (b.row ∷ [])) x (keeps_admit p a b x bo (admits c time a b x e) i) in
        (r, rw e f)

  -- the working rows are drained, and nothing is dropped
  pub record Settled (p : List Row) (s : Store) (ls : List Row) (c : List (ℕ × ℕ)) (w l : List HeldRow) (dropped : ℕ) : Type 0 where
    pub inv : Inv o p c (ls ++ rows_of l) (insert_all s (rows_of l)).log (rows_of w)
    pub none_dropped : dropped ≡ 0

  module _ (p : List Row) (s : Store) (ls : List Row) where
    settles_log : (c : List (ℕ × ℕ)) (w l : List HeldRow) (d : ℕ) (h : HeldRow) (rest : List HeldRow) → ready c h.row ≡ true → Taken h rest w
        → h.row.seq ≡ suc (get c h.row.author) → Settled p s ls c w l d → Settled p s ls (observe c h.row.author h.row.seq) rest (l ++ (h ∷ [])) d
    unfolding insert
    settles_log c w l d h rest rd t e k =
        let i = keeps_log k.inv h.row rd (taken_rows t) e in
        let rows = rows_last l h in
        let store = insert_last s (rows_of l) h.row in
        record {
          inv = rw (rows, store, ← (append_assoc ls (rows_of l) (h.row ∷ []))) i;
          none_dropped = k.none_dropped;
        }

    pub settles : (a : Admitted) → Inv o p s.clock ls s.log (rows_of a.working) → EndsIn (Settled p s ls) (settle s a)
    unfolding insert_all rows_of
    settles a i =
        settled (Settled p s ls) settles_log
        (λ c w l d h rest rd t ne k. absurd (ne (is_next k.inv h.row rd (taken_rows t))))
        s a
        (record { inv = rw (append-nil ls) i; none_dropped = refl })

-- Document 02, ticket 13. Where times are any, held rows may expire: what is known of the log stays, and that each offered row is logged or held is lost until
-- one batch brings all that is not logged.
use Prim.Native.Nat.{ℕ, ◌≤◌, ◌<◌, ◌^◌}
use mathlib.Core.Path.{◌≡◌, refl, sym, ◌∙◌, ap}
use mathlib.Core.Logic.{◌↔◌, ◌⊎◌, inl, inr}
use mathlib.Core.List.Memᴰ
use mathlib.Core.List.{List, [], ◌∷◌, ◌++◌, append_assoc, append-nil, Memᴰ, Sublistᴰ}
use native.Mathlib.Omega.{arith}
use Rattle.words.proofs.Words.{lt_or_le}
use Rattle.words.specs.Be.{AllBytes}
use lib.ListN.{length}
use Rattle.std.specs.declared.result.Result.TheVariants.{Ok, Err}
use Rattle.error.specs.Answer.{Answer, done, refused, nothing}
use Rattle.clock.specs.declared.hybrid.HybridClock.{HybridClock}
use Rattle.clock.specs.Entries.{get}
use Rattle.row.specs.Rows.{Row}
use Rattle.row.specs.Reading.{BatchRow}
use Rattle.replicated_log.specs.Store.{Store}
use Rattle.replicated_log.specs.Areas.{Areas, rows_of, read_store}
use Rattle.replicated_log.specs.Insertion.{insert}
use Rattle.replicated_log.proofs.Store.Rules.{kept, clock_few}
use Rattle.replicated_log.proofs.Store.Encoding.{read_rules}
use Rattle.merging.specs.Batch.{Limits, read_batch, validate_all}
use Rattle.merging.specs.Merging.{staying, Admitted, starting, admit_all, settle, commit, quotas, Merged, merge}
use Rattle.merging.specs.Calls.{BatchCall, batch_answer, batch_ends, batch_call}
use Rattle.merging.specs.Delta.{DeltaReport, delta_ends, delta_call}
use Rattle.merging.specs.Offers.{Call, Given, after_call, run_calls, batch_rows, rows_read, offered_by, offered, Accepted, accepted, Spans, OneContent, Within, log_less, Follows, Agree}
use Rattle.merging.specs.Expiring.{AtAnyTimes, CarriesMissing, Equals, CatchesUp, Ticket13, AsWritten, Ticket13AsWritten, EnoughToSend, CatchUpAccepted, ClocksTell}
use Rattle.merging.proofs.Traces.{not_refused, done_same, insert_held, merge_went, merge_goes, call_answered, answers_merge, ends_by}
use Rattle.merging.proofs.SortedLists.{sorted_sublist, sorted_unique}
use Rattle.merging.proofs.RowOrders.{log_trans, log_irrefl}
use Rattle.merging.proofs.CausalListings.{listed_offered, listed_until}
use Rattle.merging.proofs.RowLists.{unexpired_rows, sorted_unexpired, same_quotas}
use Rattle.merging.proofs.Invariant.{AllValid, Inv, weaker, listed_low, low_listed, all_admitted}
use Rattle.merging.proofs.Sealings.{row_sealed}
use Rattle.merging.proofs.StoreRuns.{Run, start, batch, floor, seal, Ended, valid_offers, ended_start, batch_row_lem, more_offers, ended_settled, ended_batch, keeps_seal, one_part, good}
use Rattle.merging.proofs.StoreAgreement.{follows, agree}
use Rattle.merging.proofs.Watermarks.{Marked, marks_many, settle_marked, run_marked}
use Rattle.merging.proofs.AreasToStores.{Reaches, merges_here, batch_holds}
use Rattle.merging.proofs.Convergence.{reached}

-- ---- every run, at any times

-- what holds after it: of the offered rows only those that are listed are known to be admitted
record Loose (o : List Row) (s : Store) : Type 0 where
  listing : List Row
  inv : Inv o listing s.clock listing s.log (rows_of s.held)

-- of the admitted rows these
admitting : {o p q : List Row} {c : List (ℕ × ℕ)} {ls g w : List Row} → ((y : Row) → Memᴰ y q → Memᴰ y ls ⊎ Memᴰ y w) → Inv o p c ls g w → Inv o q c ls g w
admitting all i = weaker (λ y m. m) (λ y m. m) i.held_sorted all i

-- the rows that a batch finds held when those are gone that it lets expire
unexpired_inv : {o : List Row} {s : Store} (L : Loose o s) (l : Limits) (time : ℕ) → Inv o L.listing s.clock L.listing s.log (rows_of (staying l time s))
unexpired_inv {s = s} L l time =
    weaker (λ y m. m) (unexpired_rows _ s.held) (sorted_unexpired _ _ s.held L.inv.held_sorted) (λ y m. inl m) L.inv

loose : {o : List Row} {t : List Accepted} {s : Store} → Run o t s → OneContent o → Loose o s
unfolding insert
loose (start {s = s} el eh ec em) one =
    let E = ended_start s el eh ec in
    record { listing = E.listing; inv = admitting (λ y m. inl m) E.inv }
loose (batch {o = o} {s = s} cap l time rows m e run) one =
    let L = loose run (one_part (λ y k. Memᴰ.append_left (batch_rows rows) k) one) in
    let E = ended_batch {p = L.listing} one (valid_offers (batch cap l time rows m e run)) s l time rows (λ y k. Memᴰ.append_right o k) L.listing
    (more_offers (λ y k. Memᴰ.append_left (batch_rows rows) k) (unexpired_inv L l time)) cap m e in
    record { listing = E.listing; inv = admitting (λ y m. inl m) E.inv }
loose (floor x run) one =
    let L = loose run one in
    record { listing = L.listing; inv = L.inv }
loose (seal {o = o} {s = s} cap r s' e next fresh run) one =
    let L = loose run (one_part (λ y k. Memᴰ.append_left (r ∷ []) k) one) in
    let seals = row_sealed cap s r s' e in
    let i = keeps_seal r one (valid_offers (seal cap r s' e next fresh run)) next seals.causes fresh.not_it L.inv in
    rw (← seals.store) (record { listing = L.listing ++ (r ∷ []); inv = admitting (λ y m. inl m) i })

-- ---- two stores, the second's offers fair

module _ {o₁ o₂ : List Row} {s₁ s₂ : Store} (L : Loose o₁ s₁) (E : Ended o₂ o₂ s₂) (one : OneContent o₂) (valid : AllValid o₂) (w : Within o₁ o₂) where
  f₂ : Follows o₂ s₂
  f₂ = follows o₂ s₂ E

  i₁ : Inv o₂ L.listing s₁.clock L.listing s₁.log (rows_of s₁.held)
  i₁ = more_offers w L.inv

  -- a logged row of the first ends a causal listing of the second's offers
  logged_too : Within s₁.log s₂.log
  logged_too r m = (f₂.logged r).1 (listed_until i₁.listing r (i₁.log_listed r m))

  part_of : Sublistᴰ s₁.log s₂.log
  part_of = sorted_sublist log_less log_trans log_irrefl s₁.log s₂.log i₁.log_sorted f₂.log_order logged_too

  -- the second's logged rows above the first's clock, and those that it holds, are all that the first has not logged
  enough : {rows : List Row}
      → ((r : Row) → Memᴰ r rows ↔ ((Memᴰ r s₂.log × (get s₁.clock r.author < r.seq)) ⊎ Memᴰ r (rows_of s₂.held)))
      → CarriesMissing o₂ s₁.log rows
  enough sent =
      record {
        every = λ r m new. (sent r).1 (elim (E.inv.all r m) [
          | inl k ↦ inl (
            E.inv.listed_log r k,
            elim (lt_or_le (get s₁.clock r.author) r.seq) [
              | inl q ↦ q
              | inr q ↦ absurd (new (i₁.listed_log r (low_listed o₂ one valid i₁ r m q)))
            ],
          )
          | inr k ↦ inr k
        ]);
        no_other = λ r m. elim ((sent r).0 m) [
          | inl k ↦ listed_offered E.inv.listing r (E.inv.log_listed r k.0)
          | inr k ↦ E.inv.held r k
        ];
      }

  module _ (rows : List BatchRow) (c : CarriesMissing o₂ s₁.log (batch_rows rows)) where
    -- an offered row is listed, or the batch brings it
    listed_or_brought : (y : Row) → Memᴰ y o₂ → Memᴰ y L.listing ⊎ Memᴰ y (batch_rows rows)
    listed_or_brought y m = elim (lt_or_le (get s₁.clock y.author) y.seq) [
      | inl h ↦ inr (c.every y m (λ k. omega (arith, listed_low i₁ y (i₁.log_listed y k))))
      | inr h ↦ inl (low_listed o₂ one valid i₁ y m h)
    ]

    before : (l : Limits) (time : ℕ) → Inv o₂ L.listing s₁.clock L.listing s₁.log (rows_of (staying l time s₁))
    before l time = more_offers w (unexpired_inv L l time)

    -- so after the batch the first has all that was offered to the second
    ended_caught_up : (l : Limits) (time : ℕ) (a : Admitted) → admit_all s₁.clock time (starting (staying l time s₁)) rows ≡ done a
        → Ended o₂ o₂ (commit s₁ (settle s₁ a))
    ended_caught_up l time a e =
        let E = ended_settled {p = L.listing} one valid s₁ l time rows c.no_other L.listing (before l time) a e in
        record {
          listing = E.listing;
          inv = admitting (λ y k. elim (listed_or_brought y k) [
            | inl q ↦ E.inv.all y (Memᴰ.append_left (batch_rows rows) q)
            | inr q ↦ E.inv.all y (Memᴰ.append_right L.listing q)
          ]) E.inv;
          idle = E.idle;
        }

    -- and the two agree
    agree_caught_up : (l : Limits) (time : ℕ) (a : Admitted) → admit_all s₁.clock time (starting (staying l time s₁)) rows ≡ done a
        → Agree o₂ o₂ (commit s₁ (settle s₁ a)) s₂
    agree_caught_up l time a e =
        let E₁ = ended_caught_up l time a e in
        agree o₂ o₂ (commit s₁ (settle s₁ a)) s₂ E₁.inv.rises E.inv.rises (follows o₂ (commit s₁ (settle s₁ a)) E₁) f₂

    -- within the quotas, and where there is room, it is accepted
    merges : (l : Limits) (time cap : ℕ) → validate_all l time rows ≡ done nothing → quotas l s₂.held ≡ done nothing
        → length s₂.log ≤ cap → length s₂.clock ≤ 32 → Marked s₁ → (m : Merged) × (merge cap l time s₁ rows ≡ done m)
    unfolding commit
    merges l time cap passes quota few authors marked =
        let (a, e) = all_admitted o₂ one valid s₁.clock time L.listing s₁.log rows (λ b k. c.no_other b.row (batch_row_lem rows b k)) L.listing _ (before l time) in
        let same = agree_caught_up l time a e in
        let log : (commit s₁ (settle s₁ a)).log ≡ s₂.log = same.same_log (λ r k. k) (λ r k. k) in
        let clock : (commit s₁ (settle s₁ a)).clock ≡ s₂.clock = same.same_clock (λ r k. k) (λ r k. k) in
        let held : rows_of (settle s₁ a).waiting ≡ rows_of s₂.held =
        ap rows_of (sym (insert_held _ (rows_of (settle s₁ a).logged))) ∙ same.same_held (λ r k. k) (λ r k. k) in
        let marks = marks_many (commit s₁ (settle s₁ a)) (settle_marked s₁ a marked) in
        merge_goes cap l time s₁ rows a passes e (same_quotas l _ s₂.held held ∙ quota)
        (record { log = rw log few; clock = rw clock authors; marks = rw (marks, clock) authors })

  module _ (a : Areas) (holds : read_store a ≡ done s₁) (j : HybridClock) (c : BatchCall) (now : c.time < 2 ^ 64) (bytes : AllBytes c.batch)
      (x : DeltaReport) (brings : CarriesMissing o₂ s₁.log (rows_read (read_batch c.batch))) where
    equal_after : (y : Answer Merged) → batch_answer a c ≡ y → (ends_by a j c y).answer ≡ done x → Equals (ends_by a j c y).left.lent.areas s₂
    unfolding batch_ends delta_ends
    equal_after (Err r) e q = absurd (not_refused q)
    equal_after (Ok m) e q =
        let v = call_answered a c m e in
        let went = merge_went _ c.limits c.time s₁ v.rows m (merges_here a s₁ holds c m now bytes v) in
        let same : Agree o₂ o₂ m.store s₂ =
        rw went.store (agree_caught_up v.rows (rw v.brings at brings) c.limits c.time went.admitted went.admits) in
        record {
          store = m.store;
          holds = batch_holds a s₁ holds c m now bytes v;
          log = same.same_log (λ r k. k) (λ r k. k);
          clock = same.same_clock (λ r k. k) (λ r k. k);
          held = same.same_held (λ r k. k) (λ r k. k);
        }

-- ---- one more call at the end of a list

pub runs_last : (a : Areas) (cs : List Call) (c : Call) → run_calls a (cs ++ (c ∷ [])) ≡ after_call (run_calls a cs) c
unfolding run_calls
runs_last a [] c = refl
runs_last a (d ∷ cs) c = runs_last (after_call a d) cs c

offers_last : (a : Areas) (cs : List Call) (c : Call) → offered a (cs ++ (c ∷ [])) ≡ offered a cs ++ offered_by (run_calls a cs) c
unfolding run_calls offered
offers_last a [] c = append-nil (offered_by a c)
offers_last a (d ∷ cs) c =
    ap (λ (rows : List Row). offered_by a d ++ rows) (offers_last (after_call a d) cs c)
    ∙ sym (append_assoc (offered_by a d) (offered (after_call a d) cs) (offered_by (run_calls (after_call a d) cs) c))

-- an accepted batch offers its rows
accepted_offers : (a : Areas) (cs : List Call) (j : HybridClock) (c : BatchCall) (x : DeltaReport) → (delta_call (run_calls a cs) j c).answer ≡ done x
    → offered a (cs ++ (Call.batch j c ∷ [])) ≡ offered a cs ++ rows_read (read_batch c.batch)
unfolding offered_by
accepted_offers a cs j c x e = rw (offers_last a cs (Call.batch j c), e)

-- ---- over areas

module _ (a₁ a₂ : Areas) (cs₁ cs₂ : List Call) (h : AtAnyTimes a₁ a₂ cs₁ cs₂) where
  r₁ : Reaches (run_calls a₁ cs₁) (offered a₁ cs₁) (accepted a₁ cs₁)
  r₁ = reached a₁ cs₁ h.given₁ h.may_stand₁ h.empty₁

  r₂ : Reaches (run_calls a₂ cs₂) (offered a₂ cs₂) (accepted a₂ cs₂)
  r₂ = reached a₂ cs₂ h.given₂ h.may_stand₂ h.empty₂

  one₂ : OneContent (offered a₂ cs₂)
  one₂ = one_part (λ y m. Memᴰ.append_right (offered a₁ cs₁) m) h.one_content_lem

  loose₁ : Loose (offered a₁ cs₁) r₁.store
  loose₁ = loose r₁.run (one_part (λ y m. Memᴰ.append_left (offered a₂ cs₂) m) h.one_content_lem)

  -- the same of the stores that are read
  loose_at : (s₁ : Store) → read_store (run_calls a₁ cs₁) ≡ done s₁ → Loose (offered a₁ cs₁) s₁ × Marked s₁
  loose_at s₁ reads =
      let e = done_same (sym r₁.holds ∙ reads) in
      (rw e at loose₁, rw e at (run_marked r₁.run))

  module _ (spans : Spans (accepted a₂ cs₂)) where
    ended₂ : Ended (offered a₂ cs₂) (offered a₂ cs₂) r₂.store
    ended₂ = (good r₂.run one₂ spans).ended

    ended_at : (s₂ : Store) → read_store (run_calls a₂ cs₂) ≡ done s₂ → Ended (offered a₂ cs₂) (offered a₂ cs₂) s₂
    ended_at s₂ reads = rw (done_same (sym r₂.holds ∙ reads)) at ended₂

    part_here : Within (offered a₁ cs₁) (offered a₂ cs₂) → Sublistᴰ r₁.store.log r₂.store.log
    part_here w = part_of loose₁ ended₂ one₂ (valid_offers r₂.run) w

    equal_here : Within (offered a₁ cs₁) (offered a₂ cs₂)
        → (j : HybridClock) (c : BatchCall) (x : DeltaReport) → Given (Call.batch j c) → (delta_call (run_calls a₁ cs₁) j c).answer ≡ done x
        → CarriesMissing (offered a₂ cs₂) r₁.store.log (rows_read (read_batch c.batch))
        → Equals (after_call (run_calls a₁ cs₁) (Call.batch j c)) r₂.store
    unfolding after_call delta_call batch_call
    equal_here w j c x given e brings =
        equal_after loose₁ ended₂ one₂ (valid_offers r₂.run) w (run_calls a₁ cs₁) r₁.holds j c given.0 given.1 x brings
        (batch_answer (run_calls a₁ cs₁) c) refl e

    catches_up : Within (offered a₁ cs₁) (offered a₂ cs₂) → CatchesUp a₁ a₂ cs₁ cs₂
    catches_up w =
        record {
          store₁ = r₁.store;
          store₂ = r₂.store;
          holds₁ = r₁.holds;
          holds₂ = r₂.holds;
          part = part_here w;
          caught_up = equal_here w;
        }

    -- where the batch that catches up is among the offers, so are its rows
    in_its_words : AsWritten a₁ a₂ cs₁ cs₂
    in_its_words =
        record {
          store₁ = r₁.store;
          store₂ = r₂.store;
          holds₁ = r₁.holds;
          holds₂ = r₂.holds;
          part = λ same. part_here same.0;
          caught_up =
              λ j c x given e same every.
              let w = rw (accepted_offers a₁ cs₁ j c x e) at same.0 in
              rw (runs_last a₁ cs₁ (Call.batch j c))
              (equal_here (λ y m. w y (Memᴰ.append_left (rows_read (read_batch c.batch)) m)) j c x given e
              (record { every = every; no_other = λ y m. w y (Memᴰ.append_right (offered a₁ cs₁) m) }));
        }

pub catching_up : Ticket13
catching_up a₁ a₂ cs₁ cs₂ h spans w = catches_up a₁ a₂ cs₁ cs₂ h spans w

pub as_written : Ticket13AsWritten
as_written a₁ a₂ cs₁ cs₂ h spans = in_its_words a₁ a₂ cs₁ cs₂ h spans

-- ---- what a desk does that was away

pub enough_to_send : EnoughToSend
enough_to_send a₁ a₂ cs₁ cs₂ h spans w s₁ s₂ reads₁ reads₂ rows sent =
    enough (loose_at a₁ a₂ cs₁ cs₂ h s₁ reads₁).0 (ended_at a₁ a₂ cs₁ cs₂ h spans s₂ reads₂) (one₂ a₁ a₂ cs₁ cs₂ h) (valid_offers (r₂ a₁ a₂ cs₁ cs₂ h).run) w sent

pub catch_up_accepted : CatchUpAccepted
unfolding delta_call delta_ends batch_call batch_ends
catch_up_accepted a₁ a₂ cs₁ cs₂ h spans w s₁ s₂ reads₁ reads₂ j c rows limits brings room passes carries quota few =
    let (L, marked) = loose_at a₁ a₂ cs₁ cs₂ h s₁ reads₁ in
    let (m, e) = merges L (ended_at a₁ a₂ cs₁ cs₂ h spans s₂ reads₂) (one₂ a₁ a₂ cs₁ cs₂ h) (valid_offers (r₂ a₁ a₂ cs₁ cs₂ h).run) w
    rows carries c.limits c.time _ passes quota few (clock_few s₂.clock (kept s₂ (read_rules _ s₂ reads₂)).clock) marked in
    (_, ap (λ (x : Answer Merged). (ends_by (run_calls a₁ cs₁) j c x).answer) (answers_merge (run_calls a₁ cs₁) c s₁ rows limits reads₁ brings room ∙ e))

-- with equal clocks each logs what the other does
module _ {o : List Row} (one : OneContent o) (valid : AllValid o) {p₁ p₂ : List Row} {c₁ c₂ : List (ℕ × ℕ)} {ls₁ ls₂ g₁ g₂ w₁ w₂ : List Row} (same : c₁ ≡ c₂)
    (i₁ : Inv o p₁ c₁ ls₁ g₁ w₁) (i₂ : Inv o p₂ c₂ ls₂ g₂ w₂) where
  logged_there : Within g₁ g₂
  logged_there r m =
      let k = i₁.log_listed r m in
      i₂.listed_log r (low_listed o one valid i₂ r (listed_offered i₁.listing r k) (rw same at (listed_low i₁ r k)))

pub clocks_tell : ClocksTell
clocks_tell a₁ a₂ cs₁ cs₂ h s₁ s₂ reads₁ reads₂ same =
    let q₁ = r₁ a₁ a₂ cs₁ cs₂ h in
    let q₂ = r₂ a₁ a₂ cs₁ cs₂ h in
    let L₁ = (loose_at a₁ a₂ cs₁ cs₂ h s₁ reads₁).0 in
    let L₂ : Loose (offered a₂ cs₂) s₂ = rw (done_same (sym q₂.holds ∙ reads₂)) at (loose q₂.run (one₂ a₁ a₂ cs₁ cs₂ h)) in
    let valid : AllValid (offered a₁ cs₁ ++ offered a₂ cs₂) =
    λ y m. elim (Memᴰ.append_cases (offered a₁ cs₁) m) [ inl k ↦ valid_offers q₁.run y k | inr k ↦ valid_offers q₂.run y k ] in
    let i₁ = more_offers (λ y m. Memᴰ.append_left (offered a₂ cs₂) m) L₁.inv in
    let i₂ = more_offers (λ y m. Memᴰ.append_right (offered a₁ cs₁) m) L₂.inv in
    sorted_unique log_less log_trans log_irrefl s₁.log s₂.log i₁.log_sorted i₂.log_sorted
    (logged_there h.one_content_lem valid same i₁ i₂) (logged_there h.one_content_lem valid (sym same) i₂ i₁)

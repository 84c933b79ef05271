-- What admitting a row of a batch does, and an induction over the rows of a batch.
use Prim.Native.Nat.{ℕ, ◌≤◌, ◌<◌}
use mathlib.Core.Path.{◌≡◌, refl}
use mathlib.Core.Logic.{inl, inr}
use mathlib.Core.Bool.{true, false}
use mathlib.Core.List.Memᴰ
use mathlib.Core.List.{List, [], ◌∷◌, ◌++◌, append_assoc, append-nil, Memᴰ}
use lib.Dec.{leb, eqb}
use borrow.Author.Tests.{leb-true, leb-false, eqb-true, eq-eqb}
use Rattle.words.specs.Choice.{pick}
use Rattle.words.proofs.Conjunction.{and_left, and_right, and_both}
use Rattle.error.specs.Answer.{done}
use Rattle.clock.specs.Entries.{get}
use Rattle.row.specs.Rows.{Row, HeldRow}
use Rattle.row.specs.Reading.{BatchRow}
use Rattle.replicated_log.specs.Store.{same_id}
use Rattle.replicated_log.specs.Areas.{rows_of}
use Rattle.merging.specs.Merging.{same_content, Known, absent, present, look, enter, Admitted, arrived, duplicate, when_known, admit, admit_all}
use Rattle.merging.specs.Offers.{batch_rows}
use Rattle.merging.proofs.Traces.{unless_done, then_done}
use Rattle.clock.proofs.LexicographicOrder.{clash}
use Rattle.merging.proofs.SortedLists.{place_cases}
use Rattle.merging.proofs.RowLists.{enter_place}

-- no working row has this author and sequence
abbrev pub Fresh : Row → List HeldRow → Type 0
Fresh r ws = (y : Row) → Memᴰ y (rows_of ws) → r.author ≡ y.author → r.seq ≡ y.seq → ⊥

pub data Looked (r : Row) (ws : List HeldRow) : Known → Type 0 where
  unseen : Fresh r ws → Looked r ws absent
  seen : {h : HeldRow} → Memᴰ h ws → r.author ≡ h.row.author → r.seq ≡ h.row.seq → Looked r ws (present h)

looked_past : (r : Row) (k : HeldRow) (ws : List HeldRow) (p : Known) → same_id r k.row ≡ false → Looked r ws p → Looked r (k ∷ ws) p
unfolding rows_of same_id
looked_past r k ws absent e (unseen f) = unseen (λ y m p q. elim (Memᴰ.cases_cons m) [
  | inl d ↦ clash (and_both _ _ (eq-eqb r.author k.row.author (rw d at p)) (eq-eqb r.seq k.row.seq (rw d at q))) e
  | inr j ↦ f y j p q
])
looked_past r k ws (present h) e (seen m p q) = seen (Memᴰ.tail m) p q

pub looked : (r : Row) (ws : List HeldRow) → Looked r ws (look r ws)
unfolding look rows_of same_id
looked r [] = unseen (λ y m. absurd (Memᴰ.not-nil m))
looked r (k ∷ ws) =
    (elim (same_id r k.row) as (λ b. same_id r k.row ≡ b → Looked r (k ∷ ws) (pick b (present k) (look r ws))) [
      | true ↦ λ e. seen (Memᴰ.head refl) (eqb-true _ _ (and_left _ _ e)) (eqb-true _ _ (and_right (eqb r.author k.row.author) _ e))
      | false ↦ λ e. looked_past r k ws (look r ws) e (looked r ws)
    ]) refl

-- the three ways in which a row of a batch is admitted
pub data Admits (clock : List (ℕ × ℕ)) (time : ℕ) (a : Admitted) (b : BatchRow) : Admitted → Type 0 where
  old : b.row.seq ≤ get clock b.row.author → Admits clock time a b (duplicate a)
  again : {h : HeldRow} → Memᴰ h a.working → b.row.author ≡ h.row.author → b.row.seq ≡ h.row.seq → same_content h.row b.row ≡ true
      → Admits clock time a b (duplicate a)
  new : get clock b.row.author < b.row.seq → Fresh b.row a.working
      → Admits clock time a b (record { working = enter (arrived time b) a.working; duplicates = a.duplicates })

module _ (clock : List (ℕ × ℕ)) (time : ℕ) where
  admits_known : (a : Admitted) (b : BatchRow) (r : Admitted) (k : Known) → Looked b.row a.working k → get clock b.row.author < b.row.seq
      → when_known k time b a ≡ done r → Admits clock time a b r
  unfolding when_known
  admits_known a b r absent (unseen f) l e =
      let p : r ≡ record { working = enter (arrived time b) a.working; duplicates = a.duplicates } = cc in
      rw p (new l f)
  admits_known a b r (present h) (seen m p q) l e =
      let (t, f) = unless_done (same_content h.row b.row) _ _ e in
      let d : r ≡ duplicate a = cc in
      rw d (again m p q t)

  pub admits : (a : Admitted) (b : BatchRow) (r : Admitted) → admit clock time a b ≡ done r → Admits clock time a b r
  unfolding admit
  admits a b r =
      (elim (leb b.row.seq (get clock b.row.author)) as
      (λ t. leb b.row.seq (get clock b.row.author) ≡ t
      → pick t (done (duplicate a)) (when_known (look b.row a.working) time b a) ≡ done r → Admits clock time a b r) [
        | true ↦ λ t e.
            let d : r ≡ duplicate a = cc in
            rw d (old (leb-true _ _ t))
        | false ↦ λ t e. admits_known a b r (look b.row a.working) (looked b.row a.working) (leb-false _ _ t) e
      ]) refl

  -- where working rows of its author and sequence have its content, a row is admitted
  pub admits_same : (a : Admitted) (b : BatchRow)
      → ((h : HeldRow) → Memᴰ h a.working → b.row.author ≡ h.row.author → b.row.seq ≡ h.row.seq → same_content h.row b.row ≡ true)
      → (r : Admitted) × (admit clock time a b ≡ done r)
  unfolding admit when_known
  admits_same a b same =
      elim (leb b.row.seq (get clock b.row.author)) as
      (λ t. (r : Admitted) × (pick t (done (duplicate a)) (when_known (look b.row a.working) time b a) ≡ done r)) [
        | true ↦ (duplicate a, refl)
        | false ↦ by_known (look b.row a.working) (looked b.row a.working)
      ]
    where
      by_known : (k : Known) → Looked b.row a.working k → (r : Admitted) × (when_known k time b a ≡ done r)
      by_known absent (unseen f) = (_, refl)
      by_known (present h) (seen m p q) = (duplicate a, rw (same h m p q))

  -- what holds of the rows admitted so far and the working rows, and is kept by each row, holds of the whole batch
  module _ (P : List Row → List HeldRow → Type 0) (all : List BatchRow)
      (step : (p : List Row) (a : Admitted) (b : BatchRow) (r : Admitted) → Memᴰ b all → Admits clock time a b r → P p a.working
      → P (p ++ (b.row ∷ [])) r.working) where
    pub admitted : (rows : List BatchRow) → ((b : BatchRow) → Memᴰ b rows → Memᴰ b all) → (p : List Row) (a r : Admitted)
        → admit_all clock time a rows ≡ done r → P p a.working → P (p ++ batch_rows rows) r.working
    unfolding admit_all batch_rows
    admitted [] sub p a r e h =
        let d : a ≡ r = cc in
        rw (append-nil p, ← d) h
    admitted (b ∷ rows) sub p a r e h =
        let (x, e₁, e₂) = then_done (admit clock time a b) _ e in
        let k = admitted rows (λ y m. sub y (Memᴰ.tail m)) (p ++ (b.row ∷ [])) x r e₂ (step p a b x (sub b (Memᴰ.head refl)) (admits a b x e₁) h) in
        rw (append_assoc p (b.row ∷ []) (batch_rows rows)) at k

  -- what holds of each working row and of each that arrives holds of the working rows after the batch
  pub admit_every : (Q : HeldRow → Type 0) (rows : List BatchRow) (a r : Admitted) → admit_all clock time a rows ≡ done r
      → ((b : BatchRow) → Memᴰ b rows → Q (arrived time b)) → ((h : HeldRow) → Memᴰ h a.working → Q h)
      → (h : HeldRow) → Memᴰ h r.working → Q h
  admit_every Q rows a r e now f =
      admitted (λ p w. (h : HeldRow) → Memᴰ h w → Q h) rows every rows (λ b m. m) [] a r e f
    where
      every : (p : List Row) (a : Admitted) (b : BatchRow) (r : Admitted) → Memᴰ b rows → Admits clock time a b r
          → ((h : HeldRow) → Memᴰ h a.working → Q h) → (h : HeldRow) → Memᴰ h r.working → Q h
      every p a b r m (old l) g h n = g h n
      every p a b r m (again k q s c) g h n = g h n
      every p a b r m (new l k) g h n =
          elim (place_cases _ (arrived time b) a.working (rw (enter_place (arrived time b) a.working) at n)) [
            | inl q ↦ rw q (now b m)
            | inr j ↦ g h j
          ]

-- The held slots, gathered at the front and spread to their places.
use Prim.Native.Nat.{ℕ, zero, suc, ◌+◌, ◌-◌, ◌*◌, ◌≤◌, ◌<◌}
use mathlib.Core.Path.{◌≡◌, refl, sym, ◌∙◌, ap}
use mathlib.Core.Bool.{true}
use mathlib.Core.Logic.{inl, inr}
use mathlib.Core.List.{List, ◌++◌, append_assoc}
use native.Mathlib.Omega.{arith}
use native.Mathlib.Nat.{add-zero, zero-add}
use native.Mathlib.Numerals.{add-one}
use lib.ListN.{length, take, drop, replicate, length-drop}
use lib.Seq.{length-take-le, take-add, drop-drop}
use borrow.Author.Tests.{lt-ltb, le-ltb}
use borrow.Rule.Slice.PartMut.{put_mid, Post-is}
use Rattle.words.specs.Be.{get64, column}
use Rattle.words.specs.Areas.{put_at, pad}
use Rattle.words.proofs.Words.{lt_or_le, length_pad}
use Rattle.row.specs.Rows.{HeldRow}
use Rattle.row.specs.Slots.{slot_at, encode_held, encode_slots}
use Rattle.row.specs.Reading.{read_row}
use Rattle.row.proofs.CanonicalSlot.{slot_bytes}
use Rattle.replicated_log.specs.Areas.{held_bytes}
use Rattle.working.specs.Inside.References.{is_read, arrived_by, ref_ok, work_row, work_rows}
use Rattle.working.specs.Inside.Scratch.{Working}
use Rattle.working.proofs.ScratchColumns.{refs_of, ref_there}
use Rattle.working.proofs.ReferenceRows.{ok_held, ok_batch, work_held, work_batch}
use Rattle.commit.specs.Inside.HeldSlots.{ref_at, SlotSet, SlotsRise, held_before, BatchRefs, Gathered, Spread}

-- ---- how many references are to held slots
module _ (s : List ℕ) where
  before_held : (p : ℕ) → ref_at s p < 64 → held_before s (p + 1) ≡ held_before s p + 1
  unfolding held_before
  before_held p h = rw (add-one p, lt-ltb (ref_at s p) 64 h) (omega arith)

  before_batch : (p : ℕ) → 64 ≤ ref_at s p → held_before s (p + 1) ≡ held_before s p
  unfolding held_before
  before_batch p h = rw (add-one p, le-ltb (ref_at s p) 64 h)

  before_next : (p : ℕ) → (held_before s p ≤ held_before s (p + 1)) × (held_before s (p + 1) ≤ held_before s p + 1)
  before_next p = elim (lt_or_le (ref_at s p) 64) [
    | inl h ↦ (omega (arith, before_held p h), omega (arith, before_held p h))
    | inr h ↦ (omega (arith, before_batch p h), omega (arith, before_batch p h))
  ]

  -- no more than there are
  before_few : (p : ℕ) → held_before s p ≤ p
  unfolding held_before
  before_few zero = omega arith
  before_few (suc p) = omega (arith, before_few p, rw (add-one p) at (before_next p))

  -- the place of a held slot at the front: one for each
  before_less : (i p : ℕ) → i < p → ref_at s i < 64 → held_before s i < held_before s p
  before_less i zero l h = absurd (omega arith)
  before_less i (suc p) l h = elim (lt_or_le i p) [
    | inl m ↦ omega (arith, before_less i p m h, rw (add-one p) at (before_next p))
    | inr m ↦
        let e : i ≡ p = omega arith in
        omega (arith, rw (e, add-one p) at (before_held i h), ap (held_before s) e)
  ]

  -- references that rise, all below b, are at most b
  before_below : (n p b : ℕ) → SlotsRise s n → p ≤ n → ((i : ℕ) → i < p → ref_at s i < 64 → ref_at s i < b) → held_before s p ≤ b
  unfolding held_before
  before_below n zero b r l f = omega arith
  before_below n (suc p) b r l f = elim (lt_or_le (ref_at s p) 64) [
    | inl h ↦
        let k : held_before s p ≤ ref_at s p = before_below n p (ref_at s p) r (omega arith) (λ i m o. r.rise i p m (omega arith) o h) in
        omega (arith, k, f p (omega arith) h, rw (add-one p) at (before_held p h))
    | inr h ↦
        let k : held_before s p ≤ b = before_below n p b r (omega arith) (λ i m o. f i (omega arith) o) in
        omega (arith, k, rw (add-one p) at (before_batch p h))
  ]

  -- so none lies below its place at the front
  before_ref_lem : (n p : ℕ) → SlotsRise s n → p < n → ref_at s p < 64 → held_before s p ≤ ref_at s p
  before_ref_lem n p r l h = before_below n p (ref_at s p) r (omega arith) (λ i m o. r.rise i p m l o h)

-- ---- gathering
-- the held references of the first p entries have their slots at the front, the others theirs where they were
pub record Gathering (held₀ held s : List ℕ) (n kept p : ℕ) : Type 0 where
  pub same : length held ≡ length held₀
  pub counts : kept ≡ held_before s p
  pub few : kept ≤ p
  pub moved : (i : ℕ) → i < p → ref_at s i < 64 → slot_at held (704 * held_before s i) ≡ slot_at held₀ (704 * ref_at s i)
  pub still : (i : ℕ) → p ≤ i → i < n → ref_at s i < 64 → slot_at held (704 * ref_at s i) ≡ slot_at held₀ (704 * ref_at s i)
  pub behind : drop 45056 held ≡ drop 45056 held₀

pub gather_start : (held s : List ℕ) (n : ℕ) → Gathering held held s n 0 0
unfolding held_before
gather_start held s n = record {
  same = refl;
  counts = refl;
  few = omega arith;
  moved = λ i l. absurd (omega arith);
  still = λ i l m h. refl;
  behind = refl;
}

module _ (held₀ held s : List ℕ) (n kept p k : ℕ) (e : k ≡ get64 s (16 * p)) (l : p < n) (g : Gathering held₀ held s n kept p) where
  pub gather_from : SlotsRise s n → k < 64 → kept ≤ k
  gather_from r h = omega (arith, g.counts, before_ref_lem s n p r l (omega arith))

  pub gather_held : (t : List ℕ) → SlotsRise s n → k < 64 → SlotSet held t kept (slot_at held (704 * k)) → Gathering held₀ t s n (kept + 1) (p + 1)
  gather_held t r h w =
      let o : ref_at s p < 64 = omega arith in
      record {
        same = w.same ∙ g.same;
        counts = omega (arith, g.counts, before_held s p o);
        few = omega (arith, g.few);
        moved = λ i m a. elim (lt_or_le i p) [
          | inl b ↦ w.else (held_before s i) (λ q. omega (arith, before_less s i p b a, g.counts)) ∙ g.moved i b a
          | inr b ↦
              let q : i ≡ p = omega arith in
              rw (q, ← g.counts) (w.here ∙ ap (λ (x : ℕ). slot_at held (704 * x)) e ∙ g.still p (omega arith) l o)
        ];
        still = λ i m a b.
            w.else (ref_at s i) (λ q. omega (arith, gather_from r h, r.rise p i (omega arith) a o b)) ∙ g.still i (omega arith) a b;
        behind = w.behind ∙ g.behind;
      }

  pub gather_batch : 64 ≤ k → Gathering held₀ held s n kept (p + 1)
  gather_batch h =
      record {
        same = g.same;
        counts = g.counts ∙ sym (before_batch s p (omega arith));
        few = omega (arith, g.few);
        moved = λ i m a. elim (lt_or_le i p) [
          | inl b ↦ g.moved i b a
          | inr b ↦
              let q : i ≡ p = omega arith in
              absurd (omega (arith, ap (ref_at s) q))
        ];
        still = λ i m a b. g.still i (omega arith) a b;
        behind = g.behind;
      }

pub gather_end : (held₀ held s : List ℕ) (n kept p : ℕ) → p ≡ n → Gathering held₀ held s n kept p → Gathered held₀ held s n kept
gather_end held₀ held s n kept p e g =
    record {
      same = g.same;
      counts = g.counts ∙ ap (held_before s) e;
      moved = λ i m h. g.moved i (omega arith) h;
      behind = g.behind;
    }

-- ---- spreading
-- the places from p on have their rows, those below are as they were
pub record Spreading (held₀ held batch s : List ℕ) (n time left p : ℕ) : Type 0 where
  pub upto : p ≤ n
  pub same : length held ≡ length held₀
  pub counts : left ≡ held_before s p
  pub few : left ≤ p
  pub front : (q : ℕ) → q < p → slot_at held (704 * q) ≡ slot_at held₀ (704 * q)
  pub kept : (i : ℕ) → p ≤ i → i < n → ref_at s i < 64 → slot_at held (704 * i) ≡ slot_at held₀ (704 * held_before s i)
  pub written : (i : ℕ) → p ≤ i → i < n → 64 ≤ ref_at s i → slot_at held (704 * i) ≡ encode_held (arrived_by time (read_row batch (ref_at s i - 64)))
  pub behind : drop 45056 held ≡ drop 45056 held₀

pub spread_start : (held batch s : List ℕ) (n time left : ℕ) → left ≡ held_before s n → Spreading held held batch s n time left n
spread_start held batch s n time left e =
    record {
      upto = omega arith;
      same = refl;
      counts = e;
      few = omega (arith, before_few s n);
      front = λ q l. refl;
      kept = λ i l m. absurd (omega arith);
      written = λ i l m. absurd (omega arith);
      behind = refl;
    }

module _ (held₀ held batch s : List ℕ) (n time left p k : ℕ) (e : k ≡ get64 s (16 * (p - 1))) (l : 0 < p)
    (g : Spreading held₀ held batch s n time left p) where
  last_is : p - 1 + 1 ≡ p
  last_is = omega arith

  left_held : k < 64 → left ≡ held_before s (p - 1) + 1
  left_held h = g.counts ∙ rw last_is at (before_held s (p - 1) (omega arith))

  left_batch : 64 ≤ k → left ≡ held_before s (p - 1)
  left_batch h = g.counts ∙ rw last_is at (before_batch s (p - 1) (omega arith))

  pub spread_left : k < 64 → 0 < left
  spread_left h = omega (arith, left_held h)

  pub spread_held : (t : List ℕ) → k < 64 → SlotSet held t (p - 1) (slot_at held (704 * (left - 1))) → Spreading held₀ t batch s n time (left - 1) (p - 1)
  spread_held t h w =
      let c : left - 1 ≡ held_before s (p - 1) = omega (arith, left_held h) in
      record {
        upto = omega (arith, g.upto);
        same = w.same ∙ g.same;
        counts = c;
        few = omega (arith, c, before_few s (p - 1));
        front = λ q m. w.else q (λ z. omega arith) ∙ g.front q (omega arith);
        kept = λ i m a b. elim (lt_or_le (p - 1) i) [
          | inl y ↦ w.else i (λ z. omega arith) ∙ g.kept i (omega arith) a b
          | inr y ↦
              let q : i ≡ p - 1 = omega arith in
              rw (q, ← c) (w.here ∙ g.front (left - 1) (omega (arith, c, before_few s (p - 1))))
        ];
        written = λ i m a b. elim (lt_or_le (p - 1) i) [
          | inl y ↦ w.else i (λ z. omega arith) ∙ g.written i (omega arith) a b
          | inr y ↦
              let q : i ≡ p - 1 = omega arith in
              absurd (omega (arith, ap (ref_at s) q))
        ];
        behind = w.behind ∙ g.behind;
      }

  pub spread_batch : (t : List ℕ) → 64 ≤ k → SlotSet held t (p - 1) (encode_held (arrived_by time (read_row batch (k - 64)))) → Spreading held₀ t batch s n time left (p - 1)
  spread_batch t h w =
      let c : left ≡ held_before s (p - 1) = left_batch h in
      record {
        upto = omega (arith, g.upto);
        same = w.same ∙ g.same;
        counts = c;
        few = omega (arith, c, before_few s (p - 1));
        front = λ q m. w.else q (λ z. omega arith) ∙ g.front q (omega arith);
        kept = λ i m a b. elim (lt_or_le (p - 1) i) [
          | inl y ↦ w.else i (λ z. omega arith) ∙ g.kept i (omega arith) a b
          | inr y ↦
              let q : i ≡ p - 1 = omega arith in
              absurd (omega (arith, ap (ref_at s) q))
        ];
        written = λ i m a b. elim (lt_or_le (p - 1) i) [
          | inl y ↦ w.else i (λ z. omega arith) ∙ g.written i (omega arith) a b
          | inr y ↦
              let q : i ≡ p - 1 = omega arith in
              rw (q, ← e) w.here
        ];
        behind = w.behind ∙ g.behind;
      }

  pub spread_read : BatchRefs batch s n → 64 ≤ k → is_read (read_row batch (k - 64)) ≡ true
  spread_read b h = rw e (b.read (p - 1) (omega (arith, g.upto)) (omega arith))

pub spread_end : (held₀ held batch s : List ℕ) (n time left p : ℕ) → p ≡ 0 → Spreading held₀ held batch s n time left p → Spread held₀ held batch s n time
spread_end held₀ held batch s n time left p l g =
    record {
      same = g.same;
      kept = λ i m h. g.kept i (omega arith) m h;
      written = λ i m h. g.written i (omega arith) m h;
      behind = g.behind;
    }

-- ---- both: the slots of the working rows
working_ok : (held batch s : List ℕ) (n i : ℕ) → Working held batch s n → i < n → ref_ok held batch (ref_at s i) ≡ true
working_ok held batch s n i w l = ref_there held batch s n i (ref_at s i) (refs_of held batch (column s 0 n) w.refs) l refl

pub batch_refs : (held batch s : List ℕ) (n : ℕ) → Working held batch s n → BatchRefs batch s n
batch_refs held batch s n w = record { read = λ i l h. ok_batch held batch (ref_at s i) h (working_ok held batch s n i w l) }

-- slots that hold the rows of references, one after the other
rows_there : (held batch s t : List ℕ) (time n a at : ℕ)
    → ((i : ℕ) → i < n → slot_at t (a + 704 * i) ≡ encode_held (work_row held batch time (get64 s (at + 16 * i))))
    → take (704 * n) (drop a t) ≡ encode_slots (work_rows held batch time (column s at n))
unfolding work_rows column encode_slots
rows_there held batch s t time zero a at f = refl
rows_there held batch s t time (suc n) a at f =
    let m : 704 * suc n ≡ 704 + 704 * n = omega arith in
    let h : slot_at t a ≡ encode_held (work_row held batch time (get64 s at)) = simp add-zero at (f 0 (omega arith)) in
    rw (m, take-add 704 (704 * n) (drop a t), drop-drop 704 a t, h)
    (ap (λ (l : List ℕ). encode_held (work_row held batch time (get64 s at)) ++ l)
    (rows_there held batch s t time n (a + 704) (at + 16) (λ i l.
    let p : a + 704 * suc i ≡ a + 704 + 704 * i = omega arith in
    let q : at + 16 * suc i ≡ at + 16 + 16 * i = omega arith in
    rw (p, q) at (f (suc i) (omega arith)))))

module _ (held h₁ h₂ batch s : List ℕ) (n time kept : ℕ) (w : Working held batch s n) (g : Gathered held h₁ s n kept) (d : Spread h₁ h₂ batch s n time) where
  place : (i : ℕ) → i < n → slot_at h₂ (704 * i) ≡ encode_held (work_row held batch time (ref_at s i))
  place i l = elim (lt_or_le (ref_at s i) 64) [
    | inl h ↦
        d.kept i l h ∙ g.moved i l h ∙ slot_bytes (slot_at held (704 * ref_at s i)) (ok_held held batch (ref_at s i) h (working_ok held batch s n i w l))
        ∙ ap encode_held (sym (work_held held batch (ref_at s i) time h))
    | inr h ↦ d.written i l h ∙ ap encode_held (sym (work_batch held batch (ref_at s i) time h))
  ]

  rows : List HeldRow
  rows = work_rows held batch time (column s 0 n)

  front : take (704 * n) h₂ ≡ encode_slots rows
  unfolding rows
  front = rows_there held batch s h₂ time n 0 0 (λ i l. simp zero-add (place i l))

  long : length h₂ ≡ length held
  long = d.same ∙ g.same

  padded : (x : List ℕ) (m : ℕ) → length x ≡ m → pad 45056 x ≡ x ++ replicate (45056 - m) 0
  unfolding pad
  padded x m e = rw e

  -- what lies behind them is cleared
  pub held_rows : (v : List ℕ) → n ≤ 64 → 45056 ≤ length held → v ≡ replicate (length (take (45056 - 704 * n) (drop (704 * n) h₂))) 0
      → put_mid (704 * n) (45056 - 704 * n) h₂ v ≡ put_at held 0 (held_bytes (work_rows held batch time (column s 0 n)))
  unfolding rows held_bytes put_at
  held_rows v l m b =
      let few : length (encode_slots rows) ≡ 704 * n = sym (ap length front) ∙ length-take-le (704 * n) h₂ (omega (arith, long)) in
      let rest : length (take (45056 - 704 * n) (drop (704 * n) h₂)) ≡ 45056 - 704 * n =
      length-take-le (45056 - 704 * n) (drop (704 * n) h₂) (simp length-drop (omega (arith, long))) in
      let full : length (pad 45056 (encode_slots rows)) ≡ 45056 = length_pad 45056 (encode_slots rows) (omega arith) in
      rw (b, rest, Post-is (704 * n) 45056 h₂ (omega arith), front, d.behind, g.behind, full, padded (encode_slots rows) (704 * n) few)
      (sym (append_assoc (encode_slots rows) (replicate (45056 - 704 * n) 0) (drop 45056 held)))

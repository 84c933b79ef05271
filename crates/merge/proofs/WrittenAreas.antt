-- The areas after a batch and after a floor setting: the bytes of the new store.
use Rattle.std.specs.declared.option.Option.TheVariants.{None, Some}
use Prim.Native.Nat.{ℕ, ◌+◌, ◌*◌}
use mathlib.Core.Path.{◌≡◌, refl, sym, ◌∙◌, ap}
use mathlib.Core.Bool.{Bool, true, false}
use mathlib.Core.Logic.{inl, inr}
use mathlib.Core.List.{List, [], ◌∷◌, ◌++◌, append_assoc}
use native.Mathlib.Nat.{zero-add}
use native.Mathlib.Omega.{arith}
use lib.ListN.{length, take, drop, length-append}
use lib.Seq.{take_at, drop_at, drop-drop}
use Rattle.words.specs.Be.{be64, bes}
use Rattle.words.specs.Choice.{pick}
use Rattle.words.specs.Areas.{put_at, pad}
use Rattle.words.proofs.Puts.{length_be, length_bes}
use Rattle.words.proofs.Words.{test}
use Rattle.error.specs.declared.Refusal.{Refusal}
use Rattle.error.specs.Answer.{done, refused, nothing, ends}
use Rattle.clock.specs.declared.stamp.Timestamp.{Timestamp}
use Rattle.clock.specs.Vector.{clock_of}
use Rattle.clock.specs.Area.{clock_bytes}
use Rattle.row.specs.Rows.{Row, HeldRow}
use Rattle.replicated_log.specs.Store.{MaybeStamp, Store}
use Rattle.replicated_log.specs.Areas.{Areas, areas, capacity, read_store, write_store, head_bytes, encode_marks, floor_words, floor_at, rows_of, decode_store}
use Rattle.replicated_log.specs.Inside.StoreChanges.{Stored}
use Rattle.replicated_log.proofs.Store.Encoding.{write_read}
use Rattle.replicated_log.proofs.Store.HeadBytes.{length_head}
use Rattle.replicated_log.proofs.Store.Rules.{kept}
use Rattle.replicated_log.proofs.Calls.Changes.{read_stored, written}
use Rattle.replicated_log.proofs.Calls.Queries.{Passed, stopped}
use Rattle.replicated_log.proofs.Calls.Restoration.{all_held_same}
use Rattle.merging.specs.Merging.{Drained, above_floor, commit}
use Rattle.merging.specs.Calls.{raise_floor, with_floor, set_floor_call}
use Rattle.replicated_log.specs.Insertion.{insert, insert_all}
use Rattle.clock.specs.Order.{stamp_key}
use Rattle.replicated_log.specs.Calls.{check_call}

-- a part replaced by one of its length
pub put_mid : (p q r s : List ℕ) (n : ℕ) → length p ≡ n → length q ≡ length r → put_at (p ++ (q ++ s)) n r ≡ p ++ (r ++ s)
unfolding put_at
put_mid p q r s n e f =
    let a : take n (p ++ (q ++ s)) ≡ p = take_at p (q ++ s) n e in
    let b : drop (n + length r) (p ++ (q ++ s)) ≡ s =
    sym (drop-drop (length r) n (p ++ (q ++ s))) ∙ ap (drop (length r)) (drop_at p (q ++ s) n e) ∙ drop_at q s (length r) f in
    rw (a, b) (append_assoc p r s)

-- ---- the held rows replaced

abbrev pub with_held : Store → List HeldRow → Store
with_held s hs =
    record {
      log = s.log;
      held = hs;
      floor = s.floor;
      clock = s.clock;
      compacted = s.compacted;
      marks = s.marks;
    }

pub insert_held : (s : Store) (hs : List HeldRow) (rows : List Row) → insert_all (with_held s hs) rows ≡ with_held (insert_all s rows) hs
unfolding insert_all insert
insert_held s hs [] = refl
insert_held s hs (r ∷ rows) = insert_held (insert s r) hs rows

pub commit_is : (s : Store) (d : Drained) → commit s d ≡ with_held (insert_all s (rows_of d.logged)) d.waiting
unfolding commit
commit_is s d = insert_held s d.waiting (rows_of d.logged)

-- what stands behind the counts
abbrev tail : Store → List ℕ
tail s = clock_bytes (clock_of s.clock) ++ (clock_bytes (clock_of s.compacted) ++ (be64 (length s.marks) ++ pad 1024 (encode_marks s.marks)))

head_held : (s : Store) (hs : List HeldRow) (x : List ℕ) → put_at (head_bytes s ++ x) 8 (be64 (length hs)) ≡ head_bytes (with_held s hs) ++ x
unfolding head_bytes bes
head_held s hs x =
    let n : List ℕ = be64 (length s.log) in
    let f : List ℕ = bes (floor_words s.floor) in
    let a : (v : List ℕ) → (n ++ (v ++ f)) ++ tail s ++ x ≡ n ++ (v ++ (f ++ (tail s ++ x))) = λ v.
    append_assoc (n ++ (v ++ f)) (tail s) x ∙ append_assoc n (v ++ f) (tail s ++ x) ∙ ap (λ (y : List ℕ). n ++ y) (append_assoc v f (tail s ++ x)) in
    ap (λ (y : List ℕ). put_at y 8 (be64 (length hs))) (a (be64 (length s.held)))
    ∙ put_mid n (be64 (length s.held)) (be64 (length hs)) (f ++ (tail s ++ x)) 8 (length_be _) (length_be _ ∙ sym (length_be _))
    ∙ sym (a (be64 (length hs)))

length_same : (s : Store) (hs : List HeldRow) → length (head_bytes (with_held s hs)) ≡ length (head_bytes s)
unfolding head_bytes
length_same s hs = simp (length-append, length_bes) refl

-- a head of full length
pub put_head : (s : Store) (x : List ℕ) → length (head_bytes s) ≡ 2120 → put_at x 0 (head_bytes s) ≡ head_bytes s ++ drop 2120 x
unfolding put_at
put_head s x l = rw (l, zero-add 2120)

module _ (a : Areas) (s : Store) (e : read_store a ≡ done s) (rows : List Row) (hs : List HeldRow) where
  abbrev new : Store
  new = with_held (insert_all s rows) hs

  pub batch_written : (log middle : List ℕ) → Stored log middle (capacity a.log) (insert_all s rows) (drop (704 * capacity a.log) a.log) (drop 2120 a.head)
      → (log ≡ (write_store a new).log) × (put_at middle 8 (be64 (length hs)) ≡ (write_store a new).head)
  unfolding write_store
  batch_written log middle d =
      let w = written a s e log middle (insert_all s rows) d (all_held_same s rows) in
      let l : length (head_bytes (insert_all s rows)) ≡ 2120 = length_head (insert_all s rows) (kept (insert_all s rows) d.kept) in (
        w.0,
        ap (λ (y : List ℕ). put_at y 8 (be64 (length hs))) d.head_is ∙ head_held (insert_all s rows) hs (drop 2120 a.head)
            ∙ sym (put_head new a.head (length_same (insert_all s rows) hs ∙ l)),
      )

-- ---- the floor raised

floor_is : (f : MaybeStamp) (t : Timestamp) → raise_floor f t ≡ pick (above_floor f t) (Some t) f
unfolding raise_floor
floor_is f t = refl

length_floor : (f : MaybeStamp) → length (bes (floor_words f)) ≡ 32
unfolding floor_words stamp_key
length_floor None = length_bes _
length_floor (Some t) = length_bes _

abbrev set_floor : Store → MaybeStamp → Store
set_floor s f =
    record {
      log = s.log;
      held = s.held;
      floor = f;
      clock = s.clock;
      compacted = s.compacted;
      marks = s.marks;
    }

head_floor_lem : (s : Store) (f : MaybeStamp) (x : List ℕ) → put_at (head_bytes s ++ x) 16 (bes (floor_words f)) ≡ head_bytes (set_floor s f) ++ x
unfolding head_bytes bes
head_floor_lem s f x =
    let n : List ℕ = be64 (length s.log) in
    let h : List ℕ = be64 (length s.held) in
    let a : (v : List ℕ) → (n ++ (h ++ v)) ++ tail s ++ x ≡ (n ++ h) ++ (v ++ (tail s ++ x)) = λ v.
    append_assoc (n ++ (h ++ v)) (tail s) x ∙ ap (λ (y : List ℕ). y ++ (tail s ++ x)) (sym (append_assoc n h v)) ∙ append_assoc (n ++ h) v (tail s ++ x) in
    ap (λ (y : List ℕ). put_at y 16 (bes (floor_words f))) (a (bes (floor_words s.floor)))
    ∙ put_mid (n ++ h) (bes (floor_words s.floor)) (bes (floor_words f)) (tail s ++ x) 16
    (length-append n h ∙ omega (arith, length_be (length s.log), length_be (length s.held))) (length_floor s.floor ∙ sym (length_floor f))
    ∙ sym (a (bes (floor_words f)))

length-set : (s : Store) (f : MaybeStamp) → length (head_bytes (set_floor s f)) ≡ length (head_bytes s)
unfolding head_bytes
length-set s f =
    length-append (bes (length s.log ∷ length s.held ∷ floor_words f)) (tail s)
    ∙ ap (λ (n : ℕ). n + length (tail s)) (counts f ∙ sym (counts s.floor)) ∙ sym (length-append (bes (length s.log ∷ length s.held ∷ floor_words s.floor)) (tail s))
  where
    counts : (f : MaybeStamp) → length (bes (length s.log ∷ length s.held ∷ floor_words f)) ≡ 48
    counts f = length_bes (length s.log ∷ length s.held ∷ floor_words f) ∙ omega (arith, length_floor f, length_bes (floor_words f))

module _ (a : Areas) (s : Store) (e : read_store a ≡ done s) (t : Timestamp) where
  abbrev floored : Store
  floored = with_floor s t

  head_set : above_floor s.floor t ≡ true → put_at a.head 16 (bes (1 ∷ stamp_key t)) ≡ (write_store a floored).head
  unfolding write_store floor_words
  head_set h =
      let d = read_stored a s e in
      let f : raise_floor s.floor t ≡ Some t = floor_is s.floor t ∙ rw h in
      let l : length (head_bytes (set_floor s (Some t))) ≡ 2120 = length-set s (Some t) ∙ length_head s (kept s d.kept) in
      rw f (ap (λ (y : List ℕ). put_at y 16 (bes (floor_words (Some t)))) d.head_is ∙ head_floor_lem s (Some t) (drop 2120 a.head)
      ∙ sym (put_head (set_floor s (Some t)) a.head l))

  head_kept : above_floor s.floor t ≡ false → a.head ≡ (write_store a floored).head
  unfolding write_store
  head_kept h =
      let f : raise_floor s.floor t ≡ s.floor = floor_is s.floor t ∙ rw h in
      rw f (ap (λ (b : Areas). b.head) (sym (write_read a s e)))

  pub floor_leaves : (head : List ℕ) → head ≡ pick (above_floor s.floor t) (put_at a.head 16 (bes (1 ∷ stamp_key t))) a.head
      → ends (done nothing) (areas a.log a.held head) ≡ set_floor_call a t
  unfolding set_floor_call write_store
  floor_leaves head h =
      let p : a.log ≡ (write_store a floored).log = ap (λ (b : Areas). b.log) (sym (write_read a s e)) in
      let q : a.held ≡ (write_store a floored).held = ap (λ (b : Areas). b.held) (sym (write_read a s e)) in
      let r : head ≡ (write_store a floored).head =
      elim (test (above_floor s.floor t)) [ inl k ↦ h ∙ rw k (head_set k) | inr k ↦ h ∙ rw k (head_kept k) ] in
      rw e (λ i. ends (done nothing) (areas (p i) (q i) (r i)))

-- ---- what the code asks and writes

module _ (f : MaybeStamp) (t : Timestamp) (head : List ℕ) (r : MaybeStamp) (b : Bool) (e : r ≡ f) (k : b ≡ above_floor r t) where
  told : above_floor f t ≡ b
  told = rw (← e) (sym k)

  pub raise_set : (out : List ℕ) → b ≡ true → out ≡ put_at head 16 (bes (1 ∷ t.wall_time ∷ t.logical_counter ∷ t.actor_id.0 ∷ []))
      → out ≡ pick (above_floor f t) (put_at head 16 (bes (1 ∷ stamp_key t))) head
  unfolding stamp_key
  raise_set out h o = o ∙ rw (told, h)

  pub raise_not : b ≡ false → head ≡ pick (above_floor f t) (put_at head 16 (bes (1 ∷ stamp_key t))) head
  raise_not h = rw (told, h)

-- a refused floor setting
pub floor_refused : (a : Areas) (t : Timestamp) (r : Refusal) → refused r ≡ check_call a → ends (refused r) (areas a.log a.held a.head) ≡ set_floor_call a t
unfolding set_floor_call
floor_refused a t r e = rw (stopped a e)

pub floor_set : (a : Areas) (t : Timestamp) (p : Passed a) (head : List ℕ)
    → head ≡ pick (above_floor (floor_at a.head 16) t) (put_at a.head 16 (bes (1 ∷ stamp_key t))) a.head
    → ends (done nothing) (areas a.log a.held head) ≡ set_floor_call a t
unfolding decode_store
floor_set a t p head h = floor_leaves a (decode_store a) p.read t head h

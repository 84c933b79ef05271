-- The authors and payloads of working rows: what is counted of those that are left.
use Prim.Native.Nat.{ℕ, zero, suc, ◌+◌, ◌-◌, ◌*◌, ◌≤◌, ◌<◌}
use mathlib.Core.Path.{◌≡◌, refl, sym, ◌∙◌, ap}
use mathlib.Core.Bool.{Bool, true, false}
use mathlib.Core.Logic.{inl, inr}
use mathlib.Core.List.{List, [], ◌∷◌, ◌++◌}
use native.Mathlib.Numerals.{add-one}
use native.Mathlib.Omega.{arith}
use lib.Dec.{ltb, eqb}
use lib.ListN.{length, take, drop, get_or, set, length-drop}
use lib.Seq.{length-take-le, take-suc-set}
use borrow.Author.Tests.{le-ltb, le-leb, lt-leb, ltb-true, ltb-false}
use Rattle.std.proofs.Common.{Option, Some, None, MatchOption, count_by, All, filter}
use Rattle.std.specs.List.{Contains}
use Rattle.std.proofs.lemmas.List.Recursion.{is_count_by}
use Rattle.std.proofs.lemmas.List.Sums.{count_by-le-length}
use Rattle.words.specs.Be.{get64, column}
use Rattle.words.proofs.Words.{test, lt_or_le}
use Rattle.std.specs.declared.result.Result.TheVariants.{Ok, Err}
use Rattle.error.specs.Answer.{done, refused, Got, got, nothing}
use Rattle.error.specs.declared.Refusal.TheVariants.{HeldOverflow, HeldBytes, AuthorOverflow}
use Rattle.clock.proofs.LexicographicOrder.{clash}
use Rattle.codec.specs.Reading.{part_of}
use Rattle.codec.proofs.ReadSteps.{after_got, got_value}
use Rattle.row.specs.Rows.{Row, HeldRow}
use Rattle.row.specs.Slots.{slot_at, slot_ok, decode_held}
use Rattle.row.specs.Reading.{BatchRow, read_head, read_deps, read_part, read_closing, batch_row, read_row}
use Rattle.row.specs.Calls.{ReadsRow}
use Rattle.row.specs.declared.RowRead.{RowRead}
use Rattle.row.proofs.Operations.{word_part, slot_bounds, payload_length}
use Rattle.row.proofs.CanonicalSlot.{slot_length}
use Rattle.row.proofs.ReadRows.{PartGot, part_got}
use Rattle.merging.specs.Merging.{Over, nobody, author, authors, times, lower, lowest_over, payload_bytes, author_quota, quotas}
use Rattle.batch.specs.declared.MergeLimits.{MergeLimits}
use Rattle.batch.specs.Settings.{limits_of}
use Rattle.working.specs.Inside.References.{ref_ok, refs_ok, is_read, arrived_by, work_row, work_rows}
use Rattle.working.specs.Inside.Looks.{ref_row, batch_row_at}
use Rattle.working.proofs.ScratchColumns.{Refs, refs_of, refs_at, cells_at, cells_more, length_cells}
use Rattle.working.proofs.ScratchColumns.Refs.{none, more}
use Rattle.working.proofs.Entrance.{read_row_at, read_fits}
use Rattle.working.proofs.ReferenceRows.{ok_held, ok_batch, row_held, row_batch, row_time}
use Rattle.quota.specs.Inside.Authors.{authors_of, over_of}
use Rattle.words.specs.Lists.{count_if}

-- ---- the columns of scratch, entry by entry
pub ref_at_lem : (held batch s : List ℕ) (at n i k : ℕ) → refs_ok held batch (column s at n) ≡ true → i < n → k ≡ get64 s (at + 16 * i) → ref_ok held batch k ≡ true
ref_at_lem held batch s at n i k r h e =
    let q : get_or (column s at n) i 0 ≡ k = cells_at s at n i h ∙ sym e in
    rw q at (refs_at (refs_of held batch (column s at n) r) i (rw (length_cells s at n) h))

-- those from entry i up to entry n
unfoldable pub left : List ℕ → ℕ → ℕ → ℕ → List ℕ
left s at n i = column s (at + 16 * i) (n - i)

pub left_all : (s : List ℕ) (at n : ℕ) → left s at n 0 ≡ column s at n
unfolding left
left_all s at n =
    let e : at + 16 * 0 ≡ at = omega arith in
    let f : n - 0 ≡ n = omega arith in
    rw (e, f)

pub left_next : (s : List ℕ) (at n i : ℕ) → i < n → left s at n i ≡ get64 s (at + 16 * i) ∷ left s at n (i + 1)
unfolding left column
left_next s at n i h =
    let e : n - i ≡ suc (n - (i + 1)) = omega arith in
    let f : at + 16 * (i + 1) ≡ at + 16 * i + 16 = omega arith in
    rw (e, f)

pub left_none : (s : List ℕ) (at n i : ℕ) → n ≤ i → left s at n i ≡ []
unfolding left column
left_none s at n i h =
    let e : n - i ≡ 0 = omega arith in
    rw e

-- ---- the authors of the rows
module _ (held batch : List ℕ) where
  authors_append : (x y : List ℕ) → authors_of held batch (x ++ y) ≡ authors_of held batch x ++ authors_of held batch y
  unfolding authors_of
  authors_append [] y = refl
  authors_append (k ∷ x) y = ap (λ (l : List ℕ). (ref_row held batch k).author ∷ l) (authors_append x y)

  -- the first i are loaded
  unfoldable pub Loaded : List ℕ → List ℕ → ℕ → Type 0
  Loaded s as' i = take i as' ≡ authors_of held batch (column s 0 i)

  pub load_start : (s as' : List ℕ) → Loaded s as' 0
  unfolding Loaded authors_of column
  load_start s as' = refl

  pub load_turn : (s as' : List ℕ) (i k a : ℕ) → i < length as' → k ≡ get64 s (16 * i) → a ≡ (ref_row held batch k).author → Loaded s as' i → Loaded s (set as' i a) (i + 1)
  unfolding Loaded authors_of
  load_turn s as' i k a h ek ea g =
      let e : get64 s (0 + 16 * i) ≡ k = ap (get64 s) (omega arith) ∙ sym ek in
      let q : authors_of held batch (column s 0 (i + 1)) ≡ take i as' ++ (a ∷ []) =
      ap (authors_of held batch) (cells_more s 0 i) ∙ authors_append (column s 0 i) _ ∙ rw (e, ← g, ← ea) in
      rw (add-one i) (take-suc-set as' i a h) ∙ sym q

  pub load_end : (s as' : List ℕ) (n i : ℕ) → i ≤ n → n ≤ i → Loaded s as' i → take n as' ≡ authors_of held batch (column s 0 n)
  unfolding Loaded
  load_end s as' n i h k g =
      let e : n ≡ i = omega arith in
      rw e g

-- ---- how often an author stands among them
pub times_is : (a : ℕ) (l : List ℕ) → times a l ≡ count_by (λ b. eqb b a) l
unfolding times count_if
times_is a l =
    is_count_by (times a) (λ b. eqb b a) refl (λ b k. elim (test (eqb b a)) [
      | inl e ↦ rw e (omega arith)
      | inr e ↦ rw e
    ]) l

-- ---- the lowest author above the limit
unfoldable least : List ℕ → Over
least [] = nobody
least (a ∷ l) = lower a (least l)

lowest_is : (limit : ℕ) (all l : List ℕ) → lowest_over limit all l ≡ least (filter (λ a. ltb limit (times a all)) l)
unfolding lowest_over least
lowest_is limit all [] = refl
lowest_is limit all (a ∷ l) = elim (test (ltb limit (times a all))) [
  | inl e ↦ rw e (ap (lower a) (lowest_is limit all l))
  | inr e ↦ rw e (lowest_is limit all l)
]

-- none of these is lower
abbrev NoneBelow : ℕ → Over → Type 0
NoneBelow m nobody = Unit {0}
NoneBelow m (author b) = m ≤ b

none_below : (m : ℕ) (l : List ℕ) → All (λ x. m ≤ x) l → NoneBelow m (least l)
unfolding least lower
none_below m [] h = tt
none_below m (a ∷ l) h = of (least l) (h 0 0 (omega arith)) (none_below m l (λ k d q. h (suc k) d (omega arith)))
  where
    of : (x : Over) → m ≤ a → NoneBelow m x → NoneBelow m (lower a x)
    of nobody p q = p
    of (author b) p q = elim (test (ltb b a)) [
      | inl e ↦ rw e q
      | inr e ↦ rw e p
    ]

lower_least : (m : ℕ) (x : Over) → NoneBelow m x → author m ≡ lower m x
unfolding lower
lower_least m nobody h = refl
lower_least m (author b) h = rw (le-ltb b m h)

lower_past : (m a : ℕ) → m ≤ a → author m ≡ lower a (author m)
unfolding lower
lower_past m a h = elim (test (ltb m a)) [
  | inl e ↦ rw e
  | inr e ↦ rw e (ap author (omega (arith, ltb-false m a e)))
]

least_is : (m : ℕ) (l : List ℕ) → Contains l m → All (λ x. m ≤ x) l → author m ≡ least l
unfolding least
least_is m [] (k, p, e) h = absurd (omega arith)
least_is m (a ∷ l) (zero, p, e) h = rw e (lower_least m (least l) (none_below m l (λ k d q. h (suc k) d (omega arith))))
least_is m (a ∷ l) (suc k, p, e) h =
    lower_past m a (h 0 0 (omega arith)) ∙ ap (lower a) (least_is m l (k, omega arith, e) (λ k d q. h (suc k) d (omega arith)))

least_none : (l : List ℕ) → length l ≡ 0 → nobody ≡ least l
unfolding least
least_none [] h = refl
least_none (a ∷ l) h = absurd (omega arith)

-- so it is the least of those that stand more often
pub lowest_from_least : (limit : ℕ) (all l : List ℕ) (r : Option ℕ)
    → MatchOption r (length (filter (λ a. ltb limit (times a all)) l) ≡ 0)
    (λ m. Contains (filter (λ a. ltb limit (times a all)) l) m × All (λ x. m ≤ x) (filter (λ a. ltb limit (times a all)) l))
    → over_of r ≡ lowest_over limit all l
lowest_from_least limit all l None h = least_none _ h ∙ sym (lowest_is limit all l)
lowest_from_least limit all l (Some m) h = least_is m _ h.0 h.1 ∙ sym (lowest_is limit all l)

-- none where the limit is as many as all
times_few : (a : ℕ) (l : List ℕ) → times a l ≤ length l
times_few a l = rw (times_is a l) (count_by-le-length _ l)

none_over : (limit : ℕ) (all l : List ℕ) → length all ≤ limit → nobody ≡ lowest_over limit all l
unfolding lowest_over
none_over limit all [] h = refl
none_over limit all (a ∷ l) h = rw (le-ltb limit (times a all) (omega (arith, times_few a all))) (none_over limit all l h)

length_authors : (held batch ks : List ℕ) → length (authors_of held batch ks) ≡ length ks
unfolding authors_of
length_authors held batch [] = refl
length_authors held batch (k ∷ ks) = ap suc (length_authors held batch ks)

module _ (held batch s : List ℕ) (n limit : ℕ) where
  abbrev theirs : List ℕ
  theirs = authors_of held batch (column s 0 n)

  pub over_none : n ≤ limit → nobody ≡ lowest_over limit theirs theirs
  over_none h = none_over limit theirs theirs (omega (arith, length_authors held batch (column s 0 n), length_cells s 0 n))

  pub over_loaded : (as' : List ℕ) (x : Over) → take n as' ≡ theirs → x ≡ lowest_over limit (take n as') (take n as') → x ≡ lowest_over limit theirs theirs
  over_loaded as' x e g = rw e at g

-- ---- the same of the rows
module _ (held batch : List ℕ) (time : ℕ) where
  same_author : (k : ℕ) → (work_row held batch time k).row.author ≡ (ref_row held batch k).author
  same_author k = sym (ap (λ (r : Row). r.author) (row_time held batch k time))

  pub length_work : (ks : List ℕ) → length (work_rows held batch time ks) ≡ length ks
  unfolding work_rows
  length_work [] = refl
  length_work (k ∷ ks) = ap suc (length_work ks)

  authors_are : (ks : List ℕ) → authors (work_rows held batch time ks) ≡ authors_of held batch ks
  unfolding authors work_rows authors_of
  authors_are [] = refl
  authors_are (k ∷ ks) = rw (same_author k) (ap (λ (l : List ℕ). (ref_row held batch k).author ∷ l) (authors_are ks))

  pub lowest_rows : (limit : ℕ) (ks : List ℕ)
      → lowest_over limit (authors (work_rows held batch time ks)) (authors (work_rows held batch time ks)) ≡ lowest_over limit (authors_of held batch ks) (authors_of held batch ks)
  lowest_rows limit ks = rw (authors_are ks)

-- ---- the payload of a row
pub held_payload : (held : List ℕ) (at w : ℕ) → slot_ok (slot_at held at) ≡ true → w ≡ get64 held (at + 48)
    → (w ≡ length (decode_held (slot_at held at)).row.payload) × (w ≤ 256)
unfolding decode_held
held_payload held at w t e =
    let f : get64 (slot_at held at) 48 ≡ w = word_part held at 704 48 (omega arith) ∙ sym e in
    let b : w ≤ 256 = omega (arith, (slot_bounds held at t).payload, f) in
    let l : length (drop 384 (slot_at held at)) ≡ 320 = length-drop 384 (slot_at held at) ∙ rw (slot_length (slot_at held at) t) in
    (sym (rw f (length-take-le w (drop 384 (slot_at held at)) (omega arith))), b)

pub batch_payload : (s : List ℕ) (at : ℕ) (r : RowRead) (next : ℕ) → ReadsRow s at (got r next)
    → (r.op.payload.len ≡ length (batch_row_at s at).payload) × (r.op.payload.len ≤ 256)
batch_payload s at r next d =
    let fits = read_fits s at r next d in
    (sym (payload_length s r.op fits) ∙ ap (λ (x : Row). length x.payload) (read_row_at s at r next d), fits.payload)

-- ---- the payloads of all
module _ (held batch s : List ℕ) (n : ℕ) where
  unfoldable pub Summed : ℕ → ℕ → Type 0
  Summed bytes i = (time : ℕ) → bytes + payload_bytes (work_rows held batch time (left s 0 n i)) ≡ payload_bytes (work_rows held batch time (column s 0 n))

  pub sum_start : Summed 0 0
  unfolding Summed
  sum_start time = rw (left_all s 0 n) (omega arith)

  pub sum_turn : (bytes i k len : ℕ) → i < n → k ≡ get64 s (16 * i) → len ≡ length (ref_row held batch k).payload → Summed bytes i → Summed (bytes + len) (i + 1)
  unfolding Summed payload_bytes work_rows
  sum_turn bytes i k len h ek el g time =
      let e : get64 s (0 + 16 * i) ≡ k = ap (get64 s) (omega arith) ∙ sym ek in
      let f : length (work_row held batch time k).row.payload ≡ len = sym (el ∙ ap (λ (r : Row). length r.payload) (row_time held batch k time)) in
      let q : payload_bytes (work_rows held batch time (left s 0 n i)) ≡ len + payload_bytes (work_rows held batch time (left s 0 n (i + 1))) =
      ap (λ (l : List ℕ). payload_bytes (work_rows held batch time l)) (left_next s 0 n i h) ∙ rw (e, f) in
      omega (arith, g time, q)

  pub sum_end : (bytes i : ℕ) → n ≤ i → Summed bytes i → (time : ℕ) → bytes ≡ payload_bytes (work_rows held batch time (column s 0 n))
  unfolding Summed payload_bytes work_rows
  sum_end bytes i h g time =
      let q : payload_bytes (work_rows held batch time (left s 0 n i)) ≡ 0 = ap (λ (l : List ℕ). payload_bytes (work_rows held batch time l)) (left_none s 0 n i h) in
      omega (arith, g time, q)

-- ---- no more than as many of the largest
got_payload : (s : List ℕ) (at : ℕ) (b : BatchRow) (next : ℕ) → read_row s at ≡ got b next → length b.row.payload ≤ 256
unfolding read_row part_of
got_payload s at b next e =
    let (h, a₁, e₁, f₁) = after_got (read_head s at) _ e in
    let (ds, a₂, e₂, f₂) = after_got (read_deps s a₁) _ f₁ in
    let (p, a₃, e₃, f₃) = after_got (read_part s a₂ 256) _ f₂ in
    let (g, a₄, e₄, f₄) = after_got (read_part s a₃ 64) _ f₃ in
    let (c, a₅, e₅, f₅) = after_got (read_closing s a₄) _ f₄ in
    let d : PartGot s 256 a₂ p a₃ = part_got s 256 a₂ p a₃ e₃ in
    let w : batch_row s h ds p g c ≡ b = got_value f₅ in
    let l : length (take p.len (drop p.start s)) ≡ p.len =
    length-take-le p.len (drop p.start s) (omega (arith, d.next, d.inside, length-drop p.start s)) in
    rw (← w) (omega (arith, l, d.few))

row_payload : (s : List ℕ) (at : ℕ) (g : Got BatchRow) → read_row s at ≡ g → is_read g ≡ true → length (arrived_by 0 g).row.payload ≤ 256
row_payload s at (Ok (b, next)) e t = got_payload s at b next e
row_payload s at (Err r) e t = absurd (clash t refl)

module _ (held batch : List ℕ) where
  ref_payload : (k : ℕ) → ref_ok held batch k ≡ true → length (ref_row held batch k).payload ≤ 256
  unfolding batch_row_at
  ref_payload k o = elim (lt_or_le k 64) [
    | inl h ↦
        let q = held_payload held (704 * k) _ (ok_held held batch k h o) refl in
        rw (row_held held batch k h) (omega (arith, q.0, q.1))
    | inr h ↦ rw (row_batch held batch k h) (row_payload batch (k - 64) (read_row batch (k - 64)) refl (ok_batch held batch k h o))
  ]

  payloads_few : (time : ℕ) {ks : List ℕ} → Refs held batch ks → payload_bytes (work_rows held batch time ks) ≤ 256 * length ks
  unfolding payload_bytes work_rows
  payloads_few time none = omega arith
  payloads_few time (more {k} {ks} o r) =
      let f : length (ref_row held batch k).payload ≡ length (work_row held batch time k).row.payload = ap (λ (x : Row). length x.payload) (row_time held batch k time) in
      omega (arith, f, ref_payload k o, payloads_few time r)

  module _ (s : List ℕ) (n limit : ℕ) where
    pub bytes_within_lem : refs_ok held batch (column s 0 n) ≡ true → 256 * n ≤ limit → (time : ℕ) → false ≡ ltb limit (payload_bytes (work_rows held batch time (column s 0 n)))
    bytes_within_lem o h time =
        sym (le-ltb limit _ (omega (arith, payloads_few time (refs_of held batch (column s 0 n) o), length_cells s 0 n)))

    pub bytes_are : (b : ℕ) → ((time : ℕ) → b ≡ payload_bytes (work_rows held batch time (column s 0 n))) → (time : ℕ) → ltb limit b ≡ ltb limit (payload_bytes (work_rows held batch time (column s 0 n)))
    bytes_are b f time = ap (ltb limit) (f time)

-- ---- the quotas
module _ (l : MergeLimits) (held batch s : List ℕ) (n : ℕ) where
  abbrev rows : ℕ → List HeldRow
  rows time = work_rows held batch time (column s 0 n)

  count_rows : (time : ℕ) → length (rows time) ≡ n
  count_rows time = length_work held batch time (column s 0 n) ∙ length_cells s 0 n

  pub quota_rows : l.max_pending < n → (time : ℕ) → refused (HeldOverflow l.max_pending) ≡ quotas (limits_of l) (rows time)
  unfolding quotas limits_of
  quota_rows h time = rw (count_rows time, lt-leb n l.max_pending h)

  module _ (h : n ≤ l.max_pending) (b : Bool) (f : (time : ℕ) → b ≡ ltb l.max_pending_bytes (payload_bytes (rows time))) where
    pub quota_bytes : b ≡ true → (time : ℕ) → refused (HeldBytes l.max_pending_bytes) ≡ quotas (limits_of l) (rows time)
    unfolding quotas limits_of
    quota_bytes k time =
        rw (count_rows time, le-leb n l.max_pending h, lt-leb (payload_bytes (rows time)) l.max_pending_bytes (ltb-true _ _ (sym (f time) ∙ k)))

    module _ (k : b ≡ false) where
      abbrev Lowest-is : Over → Type 0
      Lowest-is x = x ≡ lowest_over l.max_pending_per_actor (authors_of held batch (column s 0 n)) (authors_of held batch (column s 0 n))

      author_quota_lem : (x : Over) → Lowest-is x → (time : ℕ) → author_quota l.max_pending_per_actor x ≡ quotas (limits_of l) (rows time)
      unfolding quotas limits_of
      author_quota_lem x g time =
          let q : lowest_over l.max_pending_per_actor (authors (rows time)) (authors (rows time)) ≡ x =
          lowest_rows held batch time l.max_pending_per_actor (column s 0 n) ∙ sym g in
          rw (
            count_rows time,
            le-leb n l.max_pending h,
            le-leb (payload_bytes (rows time)) l.max_pending_bytes (ltb-false _ _ (sym (f time) ∙ k)),
            q,
          )

      pub quota_done : Lowest-is nobody → (time : ℕ) → done nothing ≡ quotas (limits_of l) (rows time)
      unfolding author_quota
      quota_done g time = author_quota_lem nobody g time

      pub quota_over : (a : ℕ) → Lowest-is (author a) → (time : ℕ)
          → refused (AuthorOverflow l.max_pending_per_actor (record { 0 = a })) ≡ quotas (limits_of l) (rows time)
      unfolding author_quota
      quota_over a g time = author_quota_lem (author a) g time

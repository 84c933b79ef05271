-- The row of a reference: what of it a look reads.
use Prim.Native.Nat.{ℕ, zero, suc, ◌+◌, ◌-◌, ◌*◌, ◌≤◌, ◌<◌}
use mathlib.Core.Path.{◌≡◌, refl, sym, ◌∙◌, ap}
use mathlib.Core.Bool.{Bool, true, false, ◌&&◌}
use mathlib.Core.Logic.{inl, inr}
use mathlib.Core.List.{List, [], ◌∷◌}
use native.Mathlib.Omega.{arith}
use lib.Dec.{leb}
use lib.ListN.{length, take, drop, get_or, drop_of_length-le}
use lib.Seq.{length-take-le, get_or-take}
use borrow.Author.Tests.{lt-ltb, le-ltb, le-leb, lt-leb}
use Rattle.words.specs.Be.{get64}
use Rattle.words.proofs.Words.{lt_or_le}
use Rattle.error.specs.declared.Refusal.{Refusal}
use Rattle.std.specs.Result.{is_ok}
use Rattle.std.specs.declared.result.Result.TheVariants.{Ok, Err}
use Rattle.error.specs.Answer.{Got, got, bad, after}
use Rattle.clock.specs.Entries.{get, dominates}
use Rattle.clock.specs.Vector.{pairs}
use Rattle.codec.proofs.ReadSteps.{got_value}
use Rattle.row.specs.Rows.{Row, HeldRow}
use Rattle.row.specs.Slots.{slot_at, slot_ok, decode_held, deps_at}
use Rattle.row.specs.declared.reader.Head.{Head}
use Rattle.row.specs.Reading.{BatchRow, read_head, read_deps, read_part, read_closing, read_row, batch_row}
use Rattle.row.specs.Values.{deps_of, ReadsDeps}
use Rattle.row.specs.declared.Deps.{Deps}
use Rattle.row.proofs.Operations.{word_part, slot_bounds}
use Rattle.row.proofs.DepsPairs.{length_deps, length_pairs}
use Rattle.merging.specs.Merging.{ready}
use Rattle.working.specs.Inside.References.{is_read, arrived_by, ref_ok, work_row}
use Rattle.working.specs.Inside.Looks.{ref_row, batch_row_at, KeyOf, ready_ref}
use Rattle.working.specs.declared.looks.Key.{Key}

-- ---- by its number, a reference is to a held slot or to a row of the batch
module _ (held batch : List ℕ) (k : ℕ) where
  pub ok_held : k < 64 → ref_ok held batch k ≡ true → slot_ok (slot_at held (704 * k)) ≡ true
  unfolding ref_ok
  ok_held h o = simp (lt-ltb k 64 h) at o

  pub ok_batch : 64 ≤ k → ref_ok held batch k ≡ true → is_read (read_row batch (k - 64)) ≡ true
  unfolding ref_ok
  ok_batch h o = simp (le-ltb k 64 h) at o

  pub held_ok_lem : k < 64 → slot_ok (slot_at held (704 * k)) ≡ true → ref_ok held batch k ≡ true
  unfolding ref_ok
  held_ok_lem h o = simp (lt-ltb k 64 h) o

  pub batch_ok : 64 ≤ k → is_read (read_row batch (k - 64)) ≡ true → ref_ok held batch k ≡ true
  unfolding ref_ok
  batch_ok h o = simp (le-ltb k 64 h) o

  pub work_held : (time : ℕ) → k < 64 → work_row held batch time k ≡ decode_held (slot_at held (704 * k))
  unfolding work_row
  work_held time h = simp (lt-ltb k 64 h)

  pub work_batch : (time : ℕ) → 64 ≤ k → work_row held batch time k ≡ arrived_by time (read_row batch (k - 64))
  unfolding work_row
  work_batch time h = simp (le-ltb k 64 h)

  pub row_held : k < 64 → ref_row held batch k ≡ (decode_held (slot_at held (704 * k))).row
  unfolding ref_row
  row_held h = ap (λ (x : HeldRow). x.row) (work_held 0 h)

  pub row_batch : 64 ≤ k → ref_row held batch k ≡ batch_row_at batch (k - 64)
  unfolding ref_row batch_row_at
  row_batch h = ap (λ (x : HeldRow). x.row) (work_batch 0 h)

  pub key_held : (key : Key) → k < 64 → KeyOf (decode_held (slot_at held (704 * k))).row key → KeyOf (ref_row held batch k) key
  key_held key h o = rw (row_held h) o

  pub key_batch : (key : Key) → 64 ≤ k → KeyOf (batch_row_at batch (k - 64)) key → KeyOf (ref_row held batch k) key
  key_batch key h o = rw (row_batch h) o

  pub ready_held : (c : List (ℕ × ℕ)) (b : Bool) → k < 64 → b ≡ ready c (decode_held (slot_at held (704 * k))).row → b ≡ ready_ref c held batch k
  unfolding ready_ref
  ready_held c b h e = rw (row_held h) e

  pub ready_batch : (c : List (ℕ × ℕ)) (b : Bool) → 64 ≤ k → b ≡ ready c (batch_row_at batch (k - 64)) → b ≡ ready_ref c held batch k
  unfolding ready_ref
  ready_batch c b h e = rw (row_batch h) e

  -- its row does not depend on when it arrived
  row_by : (time : ℕ) (g : Got BatchRow) → (arrived_by 0 g).row ≡ (arrived_by time g).row
  row_by time (Ok (b, n)) = refl
  row_by time (Err r) = refl

  pub row_time : (time : ℕ) → ref_row held batch k ≡ (work_row held batch time k).row
  unfolding ref_row
  row_time time = elim (lt_or_le k 64) [
    | inl h ↦ ap (λ (x : HeldRow). x.row) (work_held 0 h ∙ sym (work_held time h))
    | inr h ↦
        ap (λ (x : HeldRow). x.row) (work_batch 0 h) ∙ row_by time (read_row batch (k - 64))
        ∙ sym (ap (λ (x : HeldRow). x.row) (work_batch time h))
  ]

-- ---- a row of the batch, part by part
pub read_of : {A : Type 0} (g : Got A) → is_read g ≡ true → (a : A) × (n : ℕ) × (g ≡ got a n)
read_of (Ok (a, n)) h = (a, n, refl)
read_of (Err r) h = absurd (let z : ◌≡◌ {A = ℕ} 0 1 = cc in omega arith)

pub after_read : {A B : Type 0} (g : Got A) (f : A → ℕ → Got B) → is_read (after g f) ≡ true → (a : A) × (n : ℕ) × (g ≡ got a n)
after_read (Ok (a, n)) f h = (a, n, refl)
after_read (Err r) f h = absurd (let z : ◌≡◌ {A = ℕ} 0 1 = cc in omega arith)

after_all : {A B : Type 0} (P : Got B → Type 0) (g : Got A) (f : A → ℕ → Got B) → ((r : Refusal) → P (bad r)) → ((a : A) (n : ℕ) → P (f a n)) → P (after g f)
after_all P (Ok (a, n)) f p q = q a n
after_all P (Err r) f p q = p r

-- what is read begins with these numbers, and has these dependencies
abbrev Heads : Head → Got BatchRow → Type 0
Heads head (Ok (b, n)) = (b.row.stamp ≡ head.timestamp) × (b.row.author ≡ head.actor.0) × (b.row.seq ≡ head.seq)
Heads head (Err r) = ◌≡◌ {A = ℕ} 0 0

abbrev Causes : List (ℕ × ℕ) → Got BatchRow → Type 0
Causes ds (Ok (b, n)) = b.row.deps ≡ ds
Causes ds (Err r) = ◌≡◌ {A = ℕ} 0 0

module _ (s : List ℕ) where
  unfoldable past_deps : Head → List (ℕ × ℕ) → ℕ → Got BatchRow
  past_deps head deps at =
      after (read_part s at 256) (λ payload at.
      after (read_part s at 64) (λ signature at.
      after (read_closing s at) (λ closing at.
      got (batch_row s head deps payload signature closing) at)))

  unfoldable past_head : Head → ℕ → Got BatchRow
  past_head head at = after (read_deps s at) (λ deps at. past_deps head deps at)

  read_row_is : (at : ℕ) → read_row s at ≡ after (read_head s at) (λ head at. past_head head at)
  unfolding read_row past_head past_deps
  read_row_is at = refl

  past_heads : (head : Head) (deps : List (ℕ × ℕ)) (at : ℕ) → Heads head (past_deps head deps at)
  unfolding past_deps
  past_heads head deps at =
      after_all (Heads head) (read_part s at 256) _ (λ r. refl) (λ p at.
      after_all (Heads head) (read_part s at 64) _ (λ r. refl) (λ g at.
      after_all (Heads head) (read_closing s at) _ (λ r. refl) (λ c at. (refl, refl, refl))))

  past_causes : (head : Head) (deps : List (ℕ × ℕ)) (at : ℕ) → Causes deps (past_deps head deps at)
  unfolding past_deps
  past_causes head deps at =
      after_all (Causes deps) (read_part s at 256) _ (λ r. refl) (λ p at.
      after_all (Causes deps) (read_part s at 64) _ (λ r. refl) (λ g at.
      after_all (Causes deps) (read_closing s at) _ (λ r. refl) (λ c at. refl)))

  -- the numbers that a row begins with
  module _ (at next : ℕ) (head : Head) (t : is_read (read_row s at) ≡ true) (e : read_head s at ≡ got head next) where
    tail_is : read_row s at ≡ past_head head next
    tail_is = read_row_is at ∙ rw e

    heads : Heads head (read_row s at)
    unfolding past_head
    heads = rw tail_is (after_all (Heads head) (read_deps s next) _ (λ r. refl) (λ deps at. past_heads head deps at))

    of_heads : (g : Got BatchRow) → is_read g ≡ true → Heads head g
        → ((arrived_by 0 g).row.stamp ≡ head.timestamp) × ((arrived_by 0 g).row.author ≡ head.actor.0) × ((arrived_by 0 g).row.seq ≡ head.seq)
    of_heads (Ok (b, n)) h p = p
    of_heads (Err r) h p = absurd (let z : ◌≡◌ {A = ℕ} 0 1 = cc in omega arith)

    pub head_fields : ((batch_row_at s at).stamp ≡ head.timestamp) × ((batch_row_at s at).author ≡ head.actor.0) × ((batch_row_at s at).seq ≡ head.seq)
    unfolding batch_row_at
    head_fields = of_heads (read_row s at) t heads

    pub head_key : (key : Key) → key.stamp ≡ head.timestamp → key.actor.0 ≡ head.actor.0 → key.seq ≡ head.seq → KeyOf (batch_row_at s at) key
    head_key key p q r = record { stamp = p ∙ sym head_fields.0; author = q ∙ sym head_fields.1; seq = r ∙ sym head_fields.2 }

    -- and its dependencies
    deps_got : (ds : List (ℕ × ℕ)) × (n : ℕ) × (read_deps s next ≡ got ds n)
    unfolding past_head
    deps_got = after_read (read_deps s next) _ (rw tail_is at t)

    of_causes : (ds : List (ℕ × ℕ)) (g : Got BatchRow) → is_read g ≡ true → Causes ds g → (arrived_by 0 g).row.deps ≡ ds
    of_causes ds (Ok (b, n)) h p = p
    of_causes ds (Err r) h p = absurd (let z : ◌≡◌ {A = ℕ} 0 1 = cc in omega arith)

    deps_is : (batch_row_at s at).deps ≡ deps_got.0
    unfolding batch_row_at past_head
    deps_is =
        let q : read_row s at ≡ past_deps head deps_got.0 deps_got.1 = tail_is ∙ rw deps_got.2 in
        of_causes deps_got.0 (read_row s at) t (rw q (past_causes head deps_got.0 deps_got.1))

    pub deps_there : {r : Got Deps} → ReadsDeps s next r → is_ok r ≡ true
    deps_there {r = Ok (d, n)} p = refl
    deps_there {r = Err k} p = ap is_ok (p.is ∙ deps_got.2)

    pub deps_field : {d : Deps} {n : ℕ} → ReadsDeps s next (got d n) → deps_of d ≡ (batch_row_at s at).deps
    deps_field p = got_value (p.is ∙ deps_got.2) ∙ sym deps_is

  -- a row that is read has a head
  pub head_there : (at : ℕ) → is_read (read_row s at) ≡ true → is_ok (read_head s at) ≡ true
  head_there at t = ap is_ok (after_read (read_head s at) _ (rw (read_row_is at) at t)).2

-- ---- dependencies that are met, one by one
abbrev pub LeftMet : List (ℕ × ℕ) → List (ℕ × ℕ) → ℕ → Type 0
LeftMet c ds i = dominates c ds ≡ dominates c (drop i ds)

module _ (c ds : List (ℕ × ℕ)) (i a want have : ℕ) (e : drop i ds ≡ (a, want) ∷ drop (i + 1) ds) (eh : have ≡ get c a) where
  met_head : (b : Bool) → leb want have ≡ b → dominates c (drop i ds) ≡ (b && dominates c (drop (i + 1) ds))
  unfolding dominates
  met_head b q = rw (e, ← eh, q)

  pub met_turn : want ≤ have → LeftMet c ds i → LeftMet c ds (i + 1)
  met_turn l inv = inv ∙ met_head true (le-leb want have l)

  pub met_not : have < want → LeftMet c ds i → false ≡ dominates c ds
  met_not l inv = sym (inv ∙ met_head false (lt-leb want have l))

pub met_end : (c ds : List (ℕ × ℕ)) (i n : ℕ) → length ds ≡ n → n ≤ i → LeftMet c ds i → true ≡ dominates c ds
unfolding dominates
met_end c ds i n e h inv = sym (inv ∙ rw (drop_of_length-le ds {i = i} (omega arith)))

deps_next : (s : List ℕ) (at n i : ℕ) → i < n → drop i (deps_at s at n) ≡ (get64 s (at + 16 * i), get64 s (at + 8 + 16 * i)) ∷ drop (i + 1) (deps_at s at n)
unfolding deps_at
deps_next s at zero i h = absurd (omega arith)
deps_next s at (suc n) zero h =
    let e : at + 16 * 0 ≡ at = omega arith in
    let f : at + 8 + 16 * 0 ≡ at + 8 = omega arith in
    rw (e, f)
deps_next s at (suc n) (suc i) h =
    let e : at + 16 * suc i ≡ at + 16 + 16 * i = omega arith in
    let f : at + 8 + 16 * suc i ≡ at + 16 + 8 + 16 * i = omega arith in
    let g : suc i + 1 ≡ suc (i + 1) = omega arith in
    rw (e, f, g) (deps_next s (at + 16) n i (omega arith))

pairs_next : (ks ns : List ℕ) (i : ℕ) → i < length ks → length ks ≡ length ns → drop i (pairs ks ns) ≡ (get_or ks i 0, get_or ns i 0) ∷ drop (i + 1) (pairs ks ns)
unfolding pairs
pairs_next [] ns i h q = absurd (omega arith)
pairs_next (k ∷ ks) [] i h q = absurd (omega arith)
pairs_next (k ∷ ks) (n ∷ ns) zero h q = refl
pairs_next (k ∷ ks) (n ∷ ns) (suc i) h q =
    let g : suc i + 1 ≡ suc (i + 1) = omega arith in
    rw g (pairs_next ks ns i (omega arith) (omega arith))

-- ---- readiness
module _ (c : List (ℕ × ℕ)) (r : Row) (a s : ℕ) (b : Bool) (ea : a ≡ r.author) (es : s ≡ r.seq) (eb : b ≡ leb s (suc (get c a))) where
  pub ready_not : b ≡ false → false ≡ ready c r
  unfolding ready
  ready_not t = rw (← ea, ← es, ← eb, t)

  pub ready_met : (m : Bool) (ds : List (ℕ × ℕ)) → ds ≡ r.deps → b ≡ true → m ≡ dominates c ds → m ≡ ready c r
  unfolding ready
  ready_met m ds ed t e = rw (← ea, ← es, ← ed, ← eb, t) e

-- ---- the dependencies in a slot, word by word
module _ (s : List ℕ) (base : ℕ) (t : slot_ok (slot_at s base) ≡ true) where
  abbrev deps : List (ℕ × ℕ)
  deps = (decode_held (slot_at s base)).row.deps

  pub slot_few : (n : ℕ) → n ≡ get64 s (base + 40) → n ≤ 16
  slot_few n e = omega (arith, (slot_bounds s base t).deps, word_part s base 704 40 (omega arith))

  count_is : (n : ℕ) → n ≡ get64 s (base + 40) → get64 (slot_at s base) 40 ≡ n
  count_is n e = word_part s base 704 40 (omega arith) ∙ sym e

  pub slot_length : (n : ℕ) → n ≡ get64 s (base + 40) → length deps ≡ n
  unfolding decode_held
  slot_length n e = length_deps (slot_at s base) 128 (get64 (slot_at s base) 40) ∙ count_is n e

  pub slot_next : (n i a want : ℕ) → n ≡ get64 s (base + 40) → i < n → a ≡ get64 s (base + 16 * i + 128) → want ≡ get64 s (base + 16 * i + 136)
      → drop i deps ≡ (a, want) ∷ drop (i + 1) deps
  unfolding decode_held
  slot_next n i a want e h ea ew =
      let m : n ≤ 16 = slot_few n e in
      let p : get64 (slot_at s base) (128 + 16 * i) ≡ a =
      word_part s base 704 (128 + 16 * i) (omega arith) ∙ ap (get64 s) (omega arith) ∙ sym ea in
      let q : get64 (slot_at s base) (128 + 8 + 16 * i) ≡ want =
      word_part s base 704 (128 + 8 + 16 * i) (omega arith) ∙ ap (get64 s) (omega arith) ∙ sym ew in
      rw (← p, ← q) (deps_next (slot_at s base) 128 (get64 (slot_at s base) 40) i (rw (count_is n e) h))

-- ---- and those of a value
module _ (d : Deps) (la : length d.authors ≡ 16) (ln : length d.numbers ≡ 16) (few : d.count ≤ 16) where
  pub value_length : length (deps_of d) ≡ d.count
  unfolding deps_of
  value_length = length_pairs d.count d.authors d.numbers (omega arith) (omega arith)

  pub value_next : (i : ℕ) → i < d.count → drop i (deps_of d) ≡ (get_or d.authors i 0, get_or d.numbers i 0) ∷ drop (i + 1) (deps_of d)
  unfolding deps_of
  value_next i h =
      let p : length (take d.count d.authors) ≡ d.count = length-take-le d.count d.authors (omega arith) in
      let q : length (take d.count d.numbers) ≡ d.count = length-take-le d.count d.numbers (omega arith) in
      rw (get_or-take d.count d.authors i 0 h, get_or-take d.count d.numbers i 0 h) at
      (pairs_next (take d.count d.authors) (take d.count d.numbers) i (omega arith) (p ∙ sym q))

-- Where an author is found, and how a column takes a number in.
use Prim.Native.Nat.{ℕ, suc, ◌+◌, ◌-◌, ◌≤◌, ◌<◌}
use mathlib.Core.Path.{◌≡◌, refl, sym, ◌∙◌, ap}
use mathlib.Core.Bool.{Bool, true, false}
use mathlib.Core.List.{List, [], ◌∷◌, ◌++◌, append_assoc}
use native.Mathlib.Numerals.{add-one}
use native.Mathlib.Omega.{arith}
use lib.Dec.{eqb, ltb}
use lib.ListN.{length, take, drop, get_or, set, replicate, length-take, length-append, length-drop, length-set, drop_of_length-le}
use lib.Seq.{drop-cons, take-set-lt, take-suc-set, set-append_left, take-append-le, drop-append-le, drop-append-add, take_at}
use borrow.Author.Tests.{eq-eqb, ne_eqb, lt-ltb, le-ltb, eqb-true, ltb-true}
use Rattle.words.specs.Areas.{pad}
use Rattle.words.proofs.Moves.{up_turn}
use Rattle.std.specs.declared.result.Result.TheVariants.{Ok, Err}
use Rattle.clock.specs.Entries.{get, put}
use Rattle.clock.specs.Vector.{authors_of, numbers_of}
use Rattle.clock.specs.Inside.Columns.{Place, next, search, put_in}
use Rattle.clock.proofs.RisingAuthors.{Rises, none, more}
use Rattle.clock.proofs.EntryLaws.{absent}
use Rattle.words.specs.Choice.{pick}
use Rattle.words.specs.Inside.Moves.{moved_up}

-- the search, i authors on
unfoldable pub onward : ℕ → Place → Place
onward i (Ok j) = Ok (i + j)
onward i (Err j) = Err (i + j)

-- a place and its number
ap_ok : {i j : ℕ} → i ≡ j → ◌≡◌ {A = Place} (Ok i) (Ok j)
ap_ok e = rw e refl

ap_err : {i j : ℕ} → i ≡ j → ◌≡◌ {A = Place} (Err i) (Err j)
ap_err e = rw e refl

onward_none : (p : Place) → p ≡ onward 0 p
unfolding onward
onward_none (Ok j) = ap_ok (omega arith)
onward_none (Err j) = ap_err (omega arith)

onward_next : (i : ℕ) (p : Place) → onward i (next p) ≡ onward (i + 1) p
unfolding onward next
onward_next i (Ok j) = ap_ok (omega arith)
onward_next i (Err j) = ap_err (omega arith)

abbrev pub Left : List ℕ → ℕ → ℕ → Type 0
Left ks a i = search ks a ≡ onward i (search (drop i ks) a)

pub find_start : (ks : List ℕ) (a : ℕ) → Left ks a 0
find_start ks a = onward_none (search ks a)

module _ (ks : List ℕ) (a i b : ℕ) (h : i < length ks) (e : b ≡ get_or ks i 0) where
  pub find_here : b ≡ a → Left ks a i → Ok i ≡ search ks a
  unfolding search onward
  find_here q inv = sym (inv ∙ rw (drop-cons ks i 0 h, ← e) (simp (eq-eqb b a q) (ap_ok (omega arith))))

  pub find_gap : (b ≡ a → ⊥) → a < b → Left ks a i → Err i ≡ search ks a
  unfolding search onward
  find_gap q l inv = sym (inv ∙ rw (drop-cons ks i 0 h, ← e) (simp (ne_eqb b a q, lt-ltb a b l) (ap_err (omega arith))))

  pub find_turn : (b ≡ a → ⊥) → b ≤ a → Left ks a i → Left ks a (i + 1)
  unfolding search
  find_turn q l inv =
      inv ∙ rw (add-one, drop-cons ks i 0 h, ← e) (simp (ne_eqb b a q, le-ltb a b l) (onward_next i _ ∙ rw add-one))

pub find_end : (ks : List ℕ) (a i : ℕ) → i ≡ length ks → Left ks a i → Err i ≡ search ks a
unfolding search onward
find_end ks a i e inv = sym (inv ∙ rw (drop_of_length-le ks {i = i} (omega arith)) (ap_err (omega arith)))

-- a column with v put in at i
unfoldable pub ins : ℕ → ℕ → List ℕ → List ℕ
ins i v l = take i l ++ (v ∷ drop i l)

-- what the place means for the entries
pub data Found (a n : ℕ) (es : List (ℕ × ℕ)) : Place → Type 0 where
  at_here : {i : ℕ} → i < length es → get es a ≡ get_or (numbers_of es) i 0 → authors_of (put es a n) ≡ authors_of es
      → numbers_of (put es a n) ≡ set (numbers_of es) i n → Found a n es (Ok i)
  at_gap : {i : ℕ} → i ≤ length es → get es a ≡ 0 → authors_of (put es a n) ≡ ins i a (authors_of es)
      → numbers_of (put es a n) ≡ ins i n (numbers_of es) → Found a n es (Err i)

module _ (a n : ℕ) where
  found_next : (b m : ℕ) (es : List (ℕ × ℕ)) (p : Place) → eqb b a ≡ false → ltb a b ≡ false → Found a n es p → Found a n ((b, m) ∷ es) (next p)
  unfolding get put authors_of numbers_of next ins
  found_next b m es (Ok i) e l (at_here h g p q) = at_here {i = suc i} (omega arith) (simp (e, g)) (simp (e, l, p)) (simp (e, l, q))
  found_next b m es (Err i) e l (at_gap h g p q) = at_gap {i = suc i} (omega arith) (simp (e, g)) (simp (e, l, p)) (simp (e, l, q))

  found_by : (b m : ℕ) (es : List (ℕ × ℕ)) (p : Place) → Rises (suc b) es → Found a n es p → (e l : Bool) → eqb b a ≡ e → ltb a b ≡ l
      → Found a n ((b, m) ∷ es) (pick e (Ok 0) (pick l (Err 0) (next p)))
  unfolding get put authors_of numbers_of ins
  found_by b m es p r v true l e f =
      at_here {i = 0} (omega arith) (simp e) (simp e (ap (λ (x : ℕ). x ∷ authors_of es) (sym (eqb-true b a e)))) (simp e)
  found_by b m es p r v false true e f =
      let k : a < b = ltb-true a b f in
      at_gap {i = 0} (omega arith) (simp (e, absent a (omega arith) r)) (simp (e, f)) (simp (e, f))
  found_by b m es p r v false false e f = found_next b m es p e f v

  pub found : {lo : ℕ} (es : List (ℕ × ℕ)) → Rises lo es → Found a n es (search (authors_of es) a)
  unfolding search get put authors_of numbers_of ins
  found [] none = at_gap {i = 0} (omega arith) refl refl refl
  found ((b, m) ∷ es) (more k r) = found_by b m es (search (authors_of es) a) r (found es r) (eqb b a) (ltb a b) refl refl

  pub found_is : {lo : ℕ} (es : List (ℕ × ℕ)) (ks : List ℕ) (p : Place) → Rises lo es → ks ≡ authors_of es → p ≡ search ks a → Found a n es p
  found_is es ks p r k e = rw (e, k) (found es r)

-- the turns of putting in
pub in_turn : (s t : List ℕ) (n j : ℕ) → t ≡ moved_up j n 1 s → 0 < j → j ≤ n → n + 1 ≤ length s → set t j (get_or t (j - 1) 0) ≡ moved_up (j - 1) n 1 s
in_turn s t n j e h k l =
    let f : j - 1 + 1 ≡ j = omega arith in
    rw f at (up_turn s t j n 1 e h k l)

pub in_last : (s t : List ℕ) (n i j v : ℕ) → t ≡ moved_up j n 1 s → j ≡ i → i ≤ n → n + 1 ≤ length s → set t i v ≡ put_in s n i v
unfolding put_in moved_up
in_last s t n i j v e f h l =
    let g : i + 1 ≡ suc i = omega arith in
    let k : i < length s = omega arith in
    rw (
      e,
      f,
      g,
      set-append_left (take (suc i) s) (take (n - i) (drop i s) ++ drop (n + 1) s) i v (simp length-take (omega arith)),
      ← take-set-lt (suc i) s i v (omega arith),
      take-suc-set s i v k,
      append_assoc (take i s) (v ∷ []) (take (n - i) (drop i s) ++ drop (n + 1) s),
    )

-- a padded column
pub in_pad : (l : List ℕ) (n i v : ℕ) → length l ≡ n → n < 32 → i ≤ n → put_in (pad 32 l) n i v ≡ pad 32 (ins i v l)
unfolding put_in pad ins
in_pad l n i v e h k =
    let li : length (drop i l) ≡ n - i = length-drop i l ∙ ap (λ (m : ℕ). m - i) e in
    let f : 32 - length l ≡ suc (31 - n) = omega arith in
    let j : n + 1 ≡ length l + 1 = omega arith in
    let d : drop (n + 1) (l ++ replicate (32 - length l) 0) ≡ replicate (31 - n) 0 =
    rw (j, drop-append-add l (replicate (32 - length l) 0) 1, f) in
    let g : 32 - length (take i l ++ (v ∷ drop i l)) ≡ 31 - n = simp (length-append, length-take) (omega arith) in
    rw (
      take-append-le i l (replicate (32 - length l) 0) (omega arith),
      drop-append-le i l (replicate (32 - length l) 0) (omega arith),
      take_at (drop i l) (replicate (32 - length l) 0) (n - i) li,
      d,
      g,
      append_assoc (take i l) (v ∷ drop i l) (replicate (31 - n) 0),
    )

pub set_pad : (l : List ℕ) (i v : ℕ) → i < length l → set (pad 32 l) i v ≡ pad 32 (set l i v)
unfolding pad
set_pad l i v h = rw (length-set l i v, set-append_left l (replicate (32 - length l) 0) i v h)

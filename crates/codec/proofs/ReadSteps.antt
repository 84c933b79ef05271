-- One step of a reading: by what was read, and by a test.
use Prim.Native.Nat.{ℕ, ◌≤◌}
use mathlib.Core.Bool.{Bool, true, false, ◌&&◌}
use mathlib.Core.List.{List}
use mathlib.Core.Path.{◌≡◌, refl, sym, ◌∙◌, ap}
use mathlib.Core.Logic.{inl, inr}
use native.Mathlib.Omega.{arith}
use lib.ListN.{length}
use borrow.Author.Tests.{le-leb, lt-leb}
use Rattle.words.proofs.Words.{lt_or_le}
use Rattle.error.specs.declared.Refusal.{Refusal}
use Rattle.error.specs.declared.Refusal.TheVariants.{TrailingBytes}
use Rattle.std.specs.declared.result.Result.TheVariants.{Ok, Err}
use Rattle.error.specs.Answer.{Got, got, bad, after, need, Answer, done, refused, and_then}
use Rattle.codec.specs.Reading.{get_varint, finish}
use Rattle.codec.specs.declared.Part.{Part}
use Rattle.codec.specs.Envelopes.{closed, read_envelope}
use Rattle.codec.specs.Inside.EnvelopeParts.{read_parts}

module _ {A B : Type 0} {g : Got A} (f : A → ℕ → Got B) where
  pub on : {a : A} {n : ℕ} {y : Got B} → g ≡ got a n → y ≡ f a n → y ≡ after g f
  on e h = rw e h

  pub off : {k : Refusal} → g ≡ bad k → bad k ≡ after g f
  off e = rw e

module _ {A : Type 0} {t : Bool} (k : Refusal) (g : Got A) where
  pub pass : {y : Got A} → t ≡ true → y ≡ g → y ≡ need t k g
  pass e h = rw e h

  pub fail : t ≡ false → bad k ≡ need t k g
  fail e = rw e

-- both tests, or one that fails
pub both : {a b : Bool} → a ≡ true → b ≡ true → (a && b) ≡ true
both e f = rw (e, f)

pub not_first : {a : Bool} (b : Bool) → a ≡ false → (a && b) ≡ false
not_first b e = rw e

pub not_second : {a b : Bool} → a ≡ true → b ≡ false → (a && b) ≡ false
not_second e f = rw (e, f)

-- what a reading went through that did not refuse
pub after_got : {A B : Type 0} (g : Got A) (f : A → ℕ → Got B) {b : B} {m : ℕ} → after g f ≡ got b m → (a : A) × (n : ℕ) × (g ≡ got a n) × (f a n ≡ got b m)
after_got (Ok (a, n)) f e = (a, n, refl, e)
after_got (Err k) f e = let z : ◌≡◌ {A = ℕ} 0 1 = cc in absurd (omega arith)

pub need_got : {A : Type 0} (t : Bool) (k : Refusal) (g : Got A) {a : A} {n : ℕ} → need t k g ≡ got a n → (t ≡ true) × (g ≡ got a n)
need_got true k g e = (refl, e)
need_got false k g e = let z : ◌≡◌ {A = ℕ} 0 1 = cc in absurd (omega arith)

pub and_true : (a b : Bool) → (a && b) ≡ true → (a ≡ true) × (b ≡ true)
and_true true b e = (refl, e)
and_true false b e = let z : ◌≡◌ {A = ℕ} 0 1 = cc in absurd (omega arith)

pub and_false : (a : Bool) → (a && false) ≡ false
and_false true = refl
and_false false = refl

pub and_true_right : (a : Bool) → (a && true) ≡ a
and_true_right true = refl
and_true_right false = refl

value_in : {A : Type 0} → A → Got A → A
value_in d (Ok (a, n)) = a
value_in d (Err k) = d

next_in : {A : Type 0} → Got A → ℕ
next_in (Ok (a, n)) = n
next_in (Err k) = 0

pub got_value : {A : Type 0} {a b : A} {m n : ℕ} → ◌≡◌ {A = Got A} (got a m) (got b n) → a ≡ b
unfolding value_in
got_value {a} e = ap (value_in a) e

pub got_next : {A : Type 0} {a b : A} {m n : ℕ} → ◌≡◌ {A = Got A} (got a m) (got b n) → m ≡ n
unfolding next_in
got_next e = ap next_in e

-- go on with what was read, where nothing was refused
module _ {A B : Type 0} {P : Type 0} {b : B} {m : ℕ} where
  pub by : (g : Got A) (f : A → ℕ → Got B) → after g f ≡ got b m → ((a : A) (n : ℕ) → g ≡ got a n → f a n ≡ got b m → P) → P
  by g f e k = let x = after_got g f e in k x.0 x.1 x.2 x.3

module _ {A : Type 0} {P : Type 0} {a : A} {n : ℕ} where
  pub past : (t : Bool) (r : Refusal) (g : Got A) → need t r g ≡ got a n → (t ≡ true → g ≡ got a n → P) → P
  past t r g e k = let x = need_got t r g e in k x.0 x.1

-- the end of a reading
module _ {A : Type 0} (s : List ℕ) {g h : Got A} where
  pub shut : {y : Answer A} → h ≡ g → y ≡ closed s h → y ≡ closed s g
  shut e f = rw (← e) f

pub closed_done : {A : Type 0} (s : List ℕ) (g : Got A) {a : A} → closed s g ≡ done a → (n : ℕ) × (g ≡ got a n) × (length s ≤ n)
unfolding finish
closed_done {A} s (Ok (b, n)) {a} e =
    elim (lt_or_le n (length s)) [
      | inl h ↦
          let x : refused TrailingBytes ≡ done a = rw (lt-leb (length s) n h) at e in
          absurd (let z : ◌≡◌ {A = ℕ} 0 1 = cc in omega arith)
      | inr h ↦
          let x : done b ≡ done a = rw (le-leb (length s) n h) at e in
          let y : b ≡ a = cc in
          (n, ap (λ (z : A). got z n) y, h)
    ]
closed_done s (Err k) e = absurd (let z : ◌≡◌ {A = ℕ} 0 1 = cc in omega arith)

module _ {A B : Type 0} {a : Answer A} (f : A → Answer B) where
  pub next : {x : A} {y : Answer B} → a ≡ done x → y ≡ f x → y ≡ and_then a f
  next e h = rw e h

  pub halt : {k : Refusal} → a ≡ refused k → refused k ≡ and_then a f
  halt e = rw e

-- an envelope, by its sender
pub sender_read : (s : List ℕ) {v n : ℕ} → get_varint s 0 ≡ got v n → read_parts s v n ≡ read_envelope s
unfolding read_envelope read_parts
sender_read s e = rw e

pub sender_refused : (s : List ℕ) {k : Refusal} → get_varint s 0 ≡ bad k → refused k ≡ read_envelope s
unfolding read_envelope
sender_refused s e = rw e

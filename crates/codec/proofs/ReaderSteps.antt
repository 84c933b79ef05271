-- What a reader's functions cite: how a read ends, and that a part that was read lies within the bytes.
use Prim.Native.Nat.{ℕ, ◌+◌, ◌≤◌}
use mathlib.Core.Path.{◌≡◌, refl, sym, ap, ◌∙◌}
use mathlib.Core.List.{List}
use native.Mathlib.Omega.{arith}
use denote.Ref.{Bor}
use lib.ListN.{length}
use Rattle.std.specs.declared.result.Result.TheVariants.{Ok, Err}
use Rattle.error.specs.declared.Refusal.{Refusal}
use Rattle.error.specs.Answer.{Answer, done, refused, Got, got, bad, ends}
use Rattle.codec.specs.Reading.{get_count, get_bytes}
use Rattle.codec.specs.Readers.{left_by, read_call}
use Rattle.codec.specs.declared.Part.{Part}
use Rattle.codec.specs.declared.reader.Reader.{Reader}
use Rattle.codec.proofs.ReadSteps.{by, got_value, got_next}
use Rattle.codec.proofs.RoundTrip.{count_inside}

module _ {A : Type 0} (d : Reader) {d' : Reader} where
  left_value : {a : A} (g : Got A) → ends (done a) d' ≡ left_by d g → (g ≡ got a d'.pos) × (d'.buf ≡ d.buf)
  left_value {a} (Ok (b, n)) e =
      let v : ◌≡◌ {A = Answer A} (done a) (done b) = ap (λ x. x.answer) e in
      let w : a ≡ b = cc in
      let p : d'.pos ≡ n = ap (λ x. x.left.pos) e in
      (rw (w, p) refl, ap (λ x. x.left.buf) e)
  left_value {a} (Err k) e =
      let v : ◌≡◌ {A = Answer A} (done a) (refused k) = ap (λ x. x.answer) e in
      absurd (let z : ◌≡◌ {A = ℕ} 0 1 = cc in omega arith)

  left_refusal : {k : Refusal} (g : Got A) → ends (refused k) d' ≡ left_by d g → g ≡ bad k
  left_refusal {k} (Ok (b, n)) e =
      let v : ◌≡◌ {A = Answer A} (refused k) (done b) = ap (λ x. x.answer) e in
      absurd (let z : ◌≡◌ {A = ℕ} 0 1 = cc in omega arith)
  left_refusal {k} (Err j) e =
      let v : ◌≡◌ {A = Answer A} (refused k) (refused j) = ap (λ x. x.answer) e in
      let w : k ≡ j = cc in
      rw w refl

-- a read at the reader's position in s: what was read, with the reader past it in the same bytes, or the refusal
module _ {A : Type 0} (read : List ℕ → ℕ → Got A) {s : Bor (List ℕ)} {d d' : Reader} (same : d.buf ≡ s) where
  pub value_read : {a : A} → ends (done a) d' ≡ read_call read d → (read s.now d.pos ≡ got a d'.pos) × (d'.buf ≡ s)
  value_read e =
      let x = left_value d (read d.buf.now d.pos) e in
      (ap (λ (t : Bor (List ℕ)). read t.now d.pos) (sym same) ∙ x.0, x.1 ∙ same)

  pub read_refused : {k : Refusal} → ends (refused k) d' ≡ read_call read d → read s.now d.pos ≡ bad k
  read_refused e = ap (λ (t : Bor (List ℕ)). read t.now d.pos) (sym same) ∙ left_refusal d (read d.buf.now d.pos) e

pub bytes_inside : (s : List ℕ) (at max : ℕ) (p : Part) (next : ℕ) → get_bytes s at max ≡ got p next → p.start + p.len ≤ length s
unfolding get_bytes
bytes_inside s at max p next e =
    by (get_count s at max) _ e (λ n m f g.
    rw (← got_value g) (count_inside s at max n m f))

-- What was read, where the code holds another view of it.
use Prim.Native.Nat.{ℕ}
use mathlib.Core.Path.{◌≡◌, sym, ap}
use native.Mathlib.Omega.{arith}
use Rattle.error.specs.declared.Refusal.{Refusal}
use Rattle.std.specs.declared.result.Result.TheVariants.{Ok, Err}
use Rattle.error.specs.Answer.{Got, got, bad, after}
use Rattle.codec.proofs.ReadSteps.{got_value, got_next}

module _ {A B : Type 0} (f : A → B) where
  pub seen : (g : Got A) {b : B} {n : ℕ} → got b n ≡ after g (λ a next. got (f a) next) → (a : A) × (g ≡ got a n) × (b ≡ f a)
  seen (Ok (a, m)) {b} {n} e =
      let x : b ≡ f a = got_value e in
      let y : m ≡ n = sym (got_next e) in
      (a, ap (got a) y, x)
  seen (Err k) e = absurd (let z : ◌≡◌ {A = ℕ} 0 1 = cc in omega arith)

  pub unseen : (g : Got A) {k : Refusal} → bad k ≡ after g (λ a next. got (f a) next) → g ≡ bad k
  unseen (Ok (a, m)) e = absurd (let z : ◌≡◌ {A = ℕ} 0 1 = cc in omega arith)
  unseen (Err j) {k} e = let x : j ≡ k = cc in ap bad x

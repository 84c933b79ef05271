-- What the exit of a `?` returns, the refusal of the call before it, and what the tests `is_ok` and `is_err` tell.
use Prim.Native.Nat.{ℕ}
use mathlib.Core.Path.{◌≡◌, refl}
use mathlib.Core.Bool.{true, false}
use native.Mathlib.Omega.{arith}
use Rattle.std.specs.Result.{IsErr, IsErrAnd, is_ok, is_err}
use Rattle.std.specs.declared.result.Result.TheVariants.{Ok, Err}
use Rattle.std.proofs.lemmas.Result.{err_from_is_err_and}
use Rattle.error.specs.declared.Refusal.{Refusal}
use Rattle.error.specs.Answer.{Answer, done, refused, nothing}

pub handed_on : {A : Type 0} {r : Answer A} {k : Refusal} → IsErr r × IsErrAnd r (λ (e : Refusal). e ≡ k) → r ≡ refused k
handed_on {r} h = let p = err_from_is_err_and r h.1 in rw (p.1, p.2)

-- a call that hands back nothing, by whether it was carried out
pub is_done : (r : Answer Unit) → is_ok r ≡ true → r ≡ done nothing
is_done (Ok tt) e = refl
is_done (Err k) e = absurd (let z : ◌≡◌ {A = ℕ} 0 1 = cc in omega arith)

pub no_error : (r : Answer Unit) → is_err r ≡ false → r ≡ done nothing
no_error (Ok tt) e = refl
no_error (Err k) e = absurd (let z : ◌≡◌ {A = ℕ} 0 1 = cc in omega arith)

pub is_refused : {A : Type 0} (r : Answer A) → is_err r ≡ true → (k : Refusal) × (r ≡ refused k)
is_refused (Ok a) e = absurd (let z : ◌≡◌ {A = ℕ} 0 1 = cc in omega arith)
is_refused (Err k) e = (k, refl)

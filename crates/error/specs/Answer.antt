-- What a call answers: a complete result, or one numbered refusal.
use Rattle.std.specs.Prelude.{ℕ, Bool, true, false}
use Rattle.std.specs.declared.result.Result.{Result}
use Rattle.std.specs.declared.result.Result.TheVariants.{Ok, Err}
use Rattle.error.specs.declared.Refusal.{Refusal}
use Rattle.error.specs.declared.Ends.{Ends}
use Rattle.error.specs.declared.Told.{Told}
use Rattle.error.specs.Numbers.{told, told_of}

-- a result, or the refusal
abbrev pub Answer : Type 0 → Type 0
Answer A = Result A Refusal

abbrev pub done : {A : Type 0} → A → Answer A
done a = Ok a

abbrev pub refused : {A : Type 0} → Refusal → Answer A
refused r = Err r

-- the result of a call that hands back nothing
abbrev pub nothing : Unit {0}
nothing = tt

-- go on with the result
abbrev pub and_then : {A B : Type 0} → Answer A → (A → Answer B) → Answer B
and_then (Ok a) f = f a
and_then (Err r) f = refused r

-- go on where the test holds, else refuse
abbrev pub unless : {A : Type 0} → Bool → Refusal → Answer A → Answer A
unless true r a = a
unless false r a = refused r

-- an answer as numbers: all zero where nothing is refused
abbrev pub accepted : Told
accepted = told 0 0 0

abbrev pub told_by : {A : Type 0} → Answer A → Told
told_by (Ok a) = accepted
told_by (Err r) = told_of r

-- how a call ends: its answer, and what it leaves of what it was lent or handed by value
abbrev pub ends : {A L : Type 0} → Answer A → L → Ends A L
ends answer left = record { answer = answer; left = left }

-- what was read with the position past it, or the refusal
abbrev pub Got : Type 0 → Type 0
Got A = Answer (A × ℕ)

abbrev pub got : {A : Type 0} → A → ℕ → Got A
got a n = Ok (a, n)

abbrev pub bad : {A : Type 0} → Refusal → Got A
bad r = Err r

-- go on with what was read
abbrev pub after : {A B : Type 0} → Got A → (A → ℕ → Got B) → Got B
after (Ok (a, n)) f = f a n
after (Err r) f = bad r

-- go on where the test holds, else refuse
abbrev pub need : {A : Type 0} → Bool → Refusal → Got A → Got A
need true r g = g
need false r g = bad r

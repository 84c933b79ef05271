-- What an accepted merge went through: the answers of its steps (specs/Trace).
use Prim.Native.Nat.{ℕ, ◌+◌}
use mathlib.Core.Path.{◌≡◌, refl}
use mathlib.Core.Bool.{Bool, true, false, ◌&&◌}
use mathlib.Core.Logic.{inl, inr}
use mathlib.Core.List.Memᴰ
use mathlib.Core.List.{List, [], ◌∷◌, Memᴰ}
use native.Mathlib.Omega.{arith}
use lib.ListN.{length}
use lib.Dec.{leb, eqb}
use borrow.Author.Tests.{leb-true, eqb-true}
use Rattle.error.specs.declared.Refusal.{Refusal}
use Rattle.words.specs.Names.{Time}
use Rattle.std.specs.declared.result.Result.TheVariants.{Ok, Err}
use Rattle.error.specs.Answer.{Answer, done, refused, and_then, unless, nothing, Got, got, bad}
use Rattle.error.specs.declared.Ends.{Ends}
use Rattle.clock.specs.declared.hybrid.HybridClock.{HybridClock}
use Rattle.row.specs.Rows.{Row}
use Rattle.row.specs.Reading.{BatchRow}
use Rattle.replicated_log.specs.Store.{Store}
use Rattle.replicated_log.specs.Areas.{Areas, capacity, read_store}
use Rattle.replicated_log.proofs.Calls.Changes as changes
use Rattle.merging.specs.Batch.{Limits, limits_ok, whole, read_batch, validate, validate_all}
use Rattle.merging.specs.Merging.{staying, Admitted, starting, admit_all, Drained, lines, report, quotas, Merged, commit, settle, finish, merge}
use Rattle.merging.specs.Calls.{BatchCall, room_for, batch_answer, batch_ends}
use Rattle.merging.specs.Delta.{DeltaReport, DeltaLeft, delta_ends}
use Rattle.merging.specs.Trace.{Fits, MergeWent, CallAnswered}
use Rattle.replicated_log.specs.Insertion.{insert, insert_all, fits}

-- an answer is no refusal
pub not_refused : {A : Type 0} {r : Refusal} {a : A} → refused r ≡ done a → ⊥
not_refused {r = r} {a = a} e =
    let z : ◌≡◌ {A = ℕ} 0 1 = cc in
    omega arith

-- and is of one value
pub done_same : {A : Type 0} {a b : A} → ◌≡◌ {A = Answer A} (done a) (done b) → a ≡ b
done_same e = cc

pub unless_done : {A : Type 0} (test : Bool) (r : Refusal) (x : Answer A) {a : A} → unless test r x ≡ done a → (test ≡ true) × (x ≡ done a)
unless_done true r x e = (refl, e)
unless_done false r x e = absurd (not_refused e)

pub then_done : {A B : Type 0} (x : Answer A) (f : A → Answer B) {b : B} → and_then x f ≡ done b → (a : A) × (x ≡ done a) × (f a ≡ done b)
then_done (Ok a) f e = (a, refl, e)
then_done (Err r) f e = absurd (not_refused e)

-- what was read, up to the end
pub whole_got : {A : Type 0} (s : List ℕ) (g : Got A) (a : A) → whole s g ≡ done a → g ≡ got a (length s)
whole_got s (Ok (x, at)) a e =
    let (t, f) = unless_done (eqb at (length s)) _ _ e in
    let p : x ≡ a = cc in
    rw (p, eqb-true at (length s) t)
whole_got s (Err r) a e = absurd (not_refused e)

-- where all rows pass, each does
pub each_passes : (l : Limits) (time : Time) (rows : List BatchRow) {u : Unit} → validate_all l time rows ≡ done u
    → (b : BatchRow) → Memᴰ b rows → (v : Unit) × (validate l time b ≡ done v)
unfolding validate_all
each_passes l time [] e b m = absurd (Memᴰ.not-nil m)
each_passes l time (x ∷ rows) e b m =
    let (v, e₁, e₂) = then_done (validate l time x) _ e in
    elim (Memᴰ.cases_cons m) [ inl q ↦ (v, rw q e₁) | inr k ↦ each_passes l time rows e₂ b k ]

both : (a b : Bool) → a && b ≡ true → (a ≡ true) × (b ≡ true)
both true b e = (refl, e)
both false b e = absurd (let z : ◌≡◌ {A = ℕ} 0 1 = cc in omega arith)

pub fits_done : (cap : ℕ) (s : Store) {t : Store} → fits cap s ≡ done t → (s ≡ t) × Fits cap s
unfolding fits
fits_done cap s {t} e =
    let (p, q) = unless_done (leb (length s.log) cap) _ _ e in
    let (u, v) = unless_done (leb (length s.clock) 32 && leb (length s.marks) 32) _ _ q in
    let (x, y) = both (leb (length s.clock) 32) _ u in
    (cc, record { log = leb-true _ _ p; clock = leb-true _ _ x; marks = leb-true _ _ y })

-- inserting rows leaves the held ones
pub insert_held : (s : Store) (rows : List Row) → (insert_all s rows).held ≡ s.held
unfolding insert_all insert
insert_held s [] = refl
insert_held s (r ∷ rows) = insert_held (insert s r) rows

the_unit : (u : Unit) → u ≡ nothing
the_unit nothing = refl

pub merge_went : MergeWent
unfolding merge finish
merge_went cap l time s rows m e =
    let (u, v, e₁) = then_done (validate_all l time rows) _ e in
    let (a, ad, e₂) = then_done (admit_all s.clock time _ rows) _ e₁ in
    let (w, q, e₃) = then_done (quotas l (settle s a).waiting) _ e₂ in
    let (t, f, e₄) = then_done (fits cap (commit s (settle s a))) _ e₃ in
    let (p, fit) = fits_done cap (commit s (settle s a)) f in
    let g = the_unit u in
    let h = the_unit w in
    record {
      valid = cc;
      admitted = a;
      admits = ad;
      quota = cc;
      within = fit;
      store = cc;
      told = cc;
      lines_are = cc;
    }

-- and where these are passed, it is accepted
pub merge_goes : (cap : ℕ) (l : Limits) (time : Time) (s : Store) (rows : List BatchRow) (a : Admitted) → validate_all l time rows ≡ done nothing
    → admit_all s.clock time (starting (staying l time s)) rows ≡ done a → quotas l (settle s a).waiting ≡ done nothing → Fits cap (commit s (settle s a))
    → (m : Merged) × (merge cap l time s rows ≡ done m)
unfolding merge finish
merge_goes cap l time s rows a valid admits quota within =
    let d : Drained = settle s a in (
      record { store = commit s d; report = report s (staying l time s) a d; lines = lines s.floor d.logged },
      rw (valid, admits, quota, changes.fits_done cap (commit s d) within.log within.clock within.marks),
    )

pub call_answered : CallAnswered
unfolding batch_answer
call_answered a c m e =
    let (p, e₁) = unless_done (limits_ok c.limits) _ _ e in
    let (s, q, e₂) = then_done (read_store a) _ e₁ in
    let (rows, r, e₃) = then_done (read_batch c.batch) _ e₂ in
    let (t, e₄) = unless_done (room_for (length s.held + length rows) c.scratch c.output) _ _ e₃ in
    record { limits = p; store = s; reads = q; rows = rows; brings = r; room = t; merges = e₄ }

-- and a call that passes as much answers what merging does
pub answers_merge : (a : Areas) (c : BatchCall) (s : Store) (rows : List BatchRow) → limits_ok c.limits ≡ true → read_store a ≡ done s → read_batch c.batch ≡ done rows
    → room_for (length s.held + length rows) c.scratch c.output ≡ true → batch_answer a c ≡ merge (capacity a.log) c.limits c.time s rows
unfolding batch_answer
answers_merge a c s rows limits reads brings room = rw (limits, reads, brings, room)

-- how the joined call ends where merging answers x
abbrev pub ends_by : Areas → HybridClock → BatchCall → Answer Merged → Ends DeltaReport DeltaLeft
ends_by a j c x = delta_ends j c (batch_ends a c x)

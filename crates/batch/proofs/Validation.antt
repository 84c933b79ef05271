-- The tests of one row.
use Prim.Native.Nat.{ℕ, ◌≤◌, ◌<◌}
use mathlib.Core.Path.{◌≡◌, refl, ap}
use mathlib.Core.Bool.{Bool, true, false, ◌&&◌, ◌||◌}
use mathlib.Core.List.{List, [], ◌∷◌}
use native.Mathlib.Omega.{arith}
use lib.Dec.{leb, eqb}
use Rattle.std.specs.Prelude.{◌==◌}
use Rattle.std.specs.List.{list_any, zip}
use lib.ListN.{length, take, drop, length-take, length-drop}
use borrow.Author.Tests.{le-leb, lt-leb, eq-eqb, ne_eqb}
use Rattle.error.specs.declared.Refusal.{Refusal}
use Rattle.error.specs.declared.Refusal.TheVariants.{ZeroSequence, ForeignStamp, SpentCounter, PayloadTooLarge, TooManyCauses, OwnFuture, AheadOfTime, BadSignature}
use Rattle.error.specs.Answer.{Answer, done, refused, nothing}
use Rattle.clock.specs.Vector.{pairs}
use Rattle.row.specs.Values.{deps_of, row_of, OpFits}
use Rattle.row.specs.declared.Deps.{Deps}
use Rattle.row.specs.declared.StampedOperation.{StampedOperation}
use Rattle.row.proofs.DepsPairs.{length_pairs}
use Rattle.merging.specs.Batch.{Limits, own_future, validate}
use Rattle.batch.specs.Inside.BatchReads.{Validates, GoesOn}
use Rattle.words.specs.Choice.{saturating}

-- ---- dependencies of a value
module _ (d : Deps) (la : length d.authors ≡ 16) (ln : length d.numbers ≡ 16) (few : d.count ≤ 16) where
  pub value_length : length (deps_of d) ≡ d.count
  unfolding deps_of
  value_length = length_pairs d.count d.authors d.numbers (omega arith) (omega arith)

-- a test of the pairs is a test of both columns side by side
pub own_by_columns : (author seq : ℕ) (ks ns : List ℕ)
    → list_any (λ p. p.0 == author && leb seq p.1) (zip ks ns) ≡ own_future author seq (pairs ks ns)
unfolding own_future pairs
own_by_columns author seq [] ns = refl
own_by_columns author seq (k ∷ ks) [] = refl
own_by_columns author seq (k ∷ ks) (n ∷ ns) = ap (λ b. (k == author && leb seq n) || b) (own_by_columns author seq ks ns)

-- ---- the tests 5 to 12: a law for each answer
payload_length : (src : List ℕ) (op : StampedOperation) → OpFits src op → length (take op.payload.len (drop op.payload.start src)) ≡ op.payload.len
payload_length src op f = simp (length-take, length-drop) (omega (arith, f.payload_in))

module _ (l : Limits) (time : ℕ) (op : StampedOperation) (verdict : ℕ) where
  pub zero_sequence : op.seq ≡ 0 → Validates l time op verdict (refused (ZeroSequence op.actor op.seq))
  unfolding validate row_of
  zero_sequence h = record { is = λ src c f e. rw (eq-eqb op.seq 0 h) }

  module _ (h5 : op.seq ≡ 0 → ⊥) where
    p5 : eqb op.seq 0 ≡ false
    p5 = ne_eqb op.seq 0 h5

    pub foreign_stamp : (op.timestamp.actor_id.0 ≡ op.actor.0 → ⊥) → Validates l time op verdict (refused (ForeignStamp op.actor op.seq))
    unfolding validate row_of
    foreign_stamp h = record { is = λ src c f e. rw (p5, ne_eqb op.timestamp.actor_id.0 op.actor.0 h) }

    module _ (h6 : op.timestamp.actor_id.0 ≡ op.actor.0) where
      p6 : eqb op.timestamp.actor_id.0 op.actor.0 ≡ true
      p6 = eq-eqb _ _ h6

      pub spent_counter : op.timestamp.logical_counter ≡ 4294967295 → Validates l time op verdict (refused (SpentCounter op.actor op.seq))
      unfolding validate row_of
      spent_counter h = record { is = λ src c f e. rw (p5, p6, eq-eqb op.timestamp.logical_counter 4294967295 h) }

      module _ (h7 : op.timestamp.logical_counter ≡ 4294967295 → ⊥) where
        p7 : eqb op.timestamp.logical_counter 4294967295 ≡ false
        p7 = ne_eqb _ _ h7

        pub payload_too_large : l.max_payload < op.payload.len → Validates l time op verdict (refused (PayloadTooLarge op.actor op.seq))
        unfolding validate row_of
        payload_too_large h = record { is = λ src c f e. rw (p5, p6, p7, payload_length src op f, lt-leb op.payload.len l.max_payload h) }

        module _ (h8 : op.payload.len ≤ l.max_payload) (ld : length (deps_of op.deps) ≡ op.deps.count) where
          p8 : leb op.payload.len l.max_payload ≡ true
          p8 = le-leb _ _ h8

          pub too_many_causes : l.max_deps < op.deps.count → Validates l time op verdict (refused (TooManyCauses op.actor op.seq))
          unfolding validate row_of
          too_many_causes h = record { is = λ src c f e. rw (p5, p6, p7, payload_length src op f, p8, ld, lt-leb op.deps.count l.max_deps h) }

          module _ (h9 : op.deps.count ≤ l.max_deps) {own : Bool} (eo : own ≡ own_future op.actor.0 op.seq (deps_of op.deps)) where
            p9 : leb op.deps.count l.max_deps ≡ true
            p9 = le-leb _ _ h9

            pub own_future_lem : own ≡ true → Validates l time op verdict (refused (OwnFuture op.actor op.seq))
            unfolding validate row_of
            own_future_lem h = record { is = λ src c f e. rw (p5, p6, p7, payload_length src op f, p8, ld, p9, ← eo, h) }

            module _ (h10 : own ≡ false) {latest : ℕ} (es : latest ≡ saturating time l.max_drift) where
              pub ahead_of_time : latest < op.timestamp.wall_time → Validates l time op verdict (refused (AheadOfTime op.actor op.seq))
              unfolding validate row_of
              ahead_of_time h = record {
                is = λ src c f e. rw (p5, p6, p7, payload_length src op f, p8, ld, p9, ← eo, h10, ← es, lt-leb op.timestamp.wall_time latest h);
              }

              module _ (h11 : op.timestamp.wall_time ≤ latest) where
                p11 : leb op.timestamp.wall_time latest ≡ true
                p11 = le-leb _ _ h11

                pub bad_signature : (verdict ≡ 1 → ⊥) → Validates l time op verdict (refused (BadSignature op.actor op.seq))
                unfolding validate row_of
                bad_signature h = record {
                  is = λ src c f e. rw (p5, p6, p7, payload_length src op f, p8, ld, p9, ← eo, h10, ← es, p11, e, ne_eqb verdict 1 h);
                }

                pub valid_row : verdict ≡ 1 → Validates l time op verdict (done nothing)
                unfolding validate row_of
                valid_row h = record {
                  is = λ src c f e. rw (p5, p6, p7, payload_length src op f, p8, ld, p9, ← eo, h10, ← es, p11, e, eq-eqb verdict 1 h);
                }

-- ---- behind the rows before it
module _ {l : Limits} {time : ℕ} {op : StampedOperation} {verdict : ℕ} where
  pub goes_refused : {r : Refusal} {before : Answer Unit} → before ≡ refused r → GoesOn before l time op verdict (refused r)
  goes_refused e = record { is = λ src c f v. rw e }

  pub goes_done : {before answer : Answer Unit} → before ≡ done nothing → Validates l time op verdict answer → GoesOn before l time op verdict answer
  goes_done e w = record { is = λ src c f v. rw e (w.is src c f v) }

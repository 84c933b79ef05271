-- Conditions of demand 3 and of ticket 13 as tests, so that they can be computed of given lists.
use Prim.Native.Nat.{◌+◌, ◌^◌}
use mathlib.Core.Path.{◌≡◌, refl}
use mathlib.Core.Logic.{inl, inr}
use mathlib.Core.Bool.{Bool, true, false, not, ◌&&◌, ◌||◌}
use mathlib.Core.List.{List, [], ◌∷◌, Memᴰ}
use native.Mathlib.Omega.{arith}
use lib.Dec.{ltb, leb, eqb}
use borrow.Author.Tests.{ltb-true, leb-true, eqb-true, eq-eqb}
use Rattle.words.specs.Lists.{all}
use Rattle.words.proofs.Words.{test}
use Rattle.words.proofs.Conjunction.{and_left, and_right, and_both}
use Rattle.clock.proofs.LexicographicOrder.{clash}
use Rattle.row.specs.Rows.{Row, byte_list, stamp_ok}
use Rattle.row.proofs.ListTests.{list_bytes}
use Rattle.replicated_log.specs.Store.{same_id}
use Rattle.merging.specs.Merging.{same_content}
use Rattle.merging.specs.Offers.{Call, Given, AllGiven, Accepted, Spans, OneContent, Within}
use Rattle.merging.specs.Expiring.{CarriesMissing}
use Rattle.merging.proofs.RulesKept.{all_every}
use Rattle.merging.proofs.RowContent.{one_row_lem}

-- a call can be made, tested
unfoldable pub can_make : Call → Bool
can_make (Call.batch j c) = ltb c.time (2 ^ 64) && byte_list c.batch
can_make (Call.floor t) = stamp_ok t
can_make (Call.seal bytes signature) = byte_list bytes && byte_list signature

pub given_tested : (cs : List Call) → all can_make cs ≡ true → AllGiven cs
unfolding can_make
given_tested cs t c m = by_call c (all_every can_make cs t c m)
  where
    by_call : (c : Call) → can_make c ≡ true → Given c
    by_call (Call.batch j c) h = (ltb-true _ _ (and_left _ _ h), list_bytes c.batch (and_right (ltb c.time (2 ^ 64)) _ h))
    by_call (Call.floor t) h = h
    by_call (Call.seal bytes signature) h = (list_bytes bytes (and_left _ _ h), list_bytes signature (and_right (byte_list bytes) _ h))

same_id_lem : (r s : Row) → r.author ≡ s.author → r.seq ≡ s.seq → same_id r s ≡ true
unfolding same_id
same_id_lem r s a q = and_both _ _ (eq-eqb _ _ a) (eq-eqb _ _ q)

-- rows of one author and sequence are one row, tested
unfoldable pub one_content : List Row → Bool
one_content rows = all (λ r. all (λ s. not (same_id r s) || same_content r s) rows) rows

pub one_tested : (rows : List Row) → one_content rows ≡ true → OneContent rows
unfolding one_content
one_tested rows t r s m n a q =
    let h : not (same_id r s) || same_content r s ≡ true = all_every _ rows (all_every (λ r. all (λ s. not (same_id r s) || same_content r s) rows) rows t r m) s n in
    (one_row_lem r s).0 (a, q, rw (same_id_lem r s a q) at h)

-- times within each age, tested
unfoldable pub spanning : List Accepted → Bool
spanning xs = all (λ x. all (λ y. all (λ z. leb x.time (y.time + z.age)) xs) xs) xs

pub spans_tested : (xs : List Accepted) → spanning xs ≡ true → Spans xs
unfolding spanning
spans_tested xs t x y z i j k =
    let over = all_every (λ x. all (λ y. all (λ z. leb x.time (y.time + z.age)) xs) xs) xs t x i in
    let from = all_every (λ y. all (λ z. leb x.time (y.time + z.age)) xs) xs over y j in
    omega (arith, leb-true x.time (y.time + z.age) (all_every (λ z. leb x.time (y.time + z.age)) xs from z k))

-- one list has every row of another, tested
unfoldable pub has : Row → List Row → Bool
has r [] = false
has r (s ∷ rows) = (same_id r s && same_content r s) || has r rows

pub has_there : (r : Row) (rows : List Row) → has r rows ≡ true → Memᴰ r rows
unfolding has same_id
has_there r [] t = absurd (clash t refl)
has_there r (s ∷ rows) t = elim (test (same_id r s && same_content r s)) [
  | inl h ↦
      let k = and_left (same_id r s) _ h in
      Memᴰ.head ((one_row_lem r s).0 (eqb-true _ _ (and_left _ _ k), eqb-true _ _ (and_right (eqb r.author s.author) _ k), and_right (same_id r s) _ h))
  | inr h ↦ Memᴰ.tail (has_there r rows (rw h at t))
]

pub within_tested : (few many : List Row) → all (λ r. has r many) few ≡ true → Within few many
within_tested few many t r m = has_there r many (all_every (λ r. has r many) few t r m)

-- which rows a batch carries, tested
pub carries_tested : (offers log rows : List Row) → all (λ r. has r log || has r rows) offers ≡ true → all (λ r. has r offers) rows ≡ true → CarriesMissing offers log rows
carries_tested offers log rows every no_other =
    record {
      every = λ r m new. elim (test (has r log)) [
        | inl h ↦ absurd (new (has_there r log h))
        | inr h ↦ has_there r rows (rw h at (all_every (λ r. has r log || has r rows) offers every r m))
      ];
      no_other = within_tested rows offers no_other;
    }

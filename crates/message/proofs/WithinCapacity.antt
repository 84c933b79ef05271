-- What is read of a message is within our capacities.
use Prim.Native.Nat.{ℕ, zero, suc, ◌≤◌, ◌<◌, ◌^◌, max}
use mathlib.Core.Path.{◌≡◌, refl, subst, ap}
use mathlib.Core.Bool.{true}
use mathlib.Core.Logic.{inl, inr}
use mathlib.Core.List.{List, [], ◌∷◌}
use native.Mathlib.Omega.{arith}
use lib.Dec.{ltb, eqb}
use lib.ListN.{length}
use borrow.Author.Tests.{eqb-true, eqb-false, ltb-true, ltb-false, lt-ltb, le-leb}
use Rattle.words.specs.Be.{AllBytes}
use Rattle.words.specs.Lists.{all}
use Rattle.words.proofs.Words.{test}
use Rattle.words.proofs.Conjunction.{and_both}
use Rattle.error.specs.declared.Refusal.TheVariants.{InvalidTag}
use Rattle.error.specs.Answer.{Got, got, bad, after}
use Rattle.clock.specs.Entries.{get, put, enter}
use Rattle.codec.specs.Reading.{get_u8, get_varint}
use Rattle.codec.proofs.ReadSteps.{after_got, got_value, closed_done}
use Rattle.codec.proofs.RoundTrip.{varint_read}
use Rattle.row.specs.Rows.{Row, row_ok}
use Rattle.row.specs.Reading.{get_head}
use Rattle.row.proofs.DepsPairs.{DepsOk, deps_rising, deps_words}
use Rattle.row.proofs.DepsPairs.DepsOk.{none, more}
use Rattle.row.proofs.ReadRows.{get_head_got, row_built}
use Rattle.replicated_log.specs.Store.{clock_ok}
use Rattle.message.specs.Messages.{Message, hello, delta, ack, ping, pong, message_ok}
use Rattle.message.specs.Reading.{count_within, bytes_within, get_pair, get_pairs, get_clock, get_signed, get_rows, message_by, get_body, read_message, max_deps, max_ops}
use Rattle.message.specs.RoundTrip.{ReadWithin, ReadAgain}
use Rattle.message.proofs.CountedReads.{part_got, count_got}
use Rattle.message.proofs.ClockPairs.{clock_got}
use Rattle.message.proofs.Bodies.{rows_count}
use Rattle.message.proofs.RoundTrip.{message_back}

-- ---- clocks: every author and number is a word
word_of : {lo : ℕ} (es : List (ℕ × ℕ)) (a : ℕ) → DepsOk lo es → get es a < 18446744073709551616
unfolding get
word_of [] a none = omega arith
word_of ((b, m) ∷ es) a (more h hb hm o) = elim (test (eqb b a)) [ inl e ↦ rw e hm | inr e ↦ rw e (word_of es a o) ]

put_words : (lo : ℕ) (es : List (ℕ × ℕ)) (a n : ℕ) → lo ≤ a → a < 18446744073709551616 → n < 18446744073709551616 → DepsOk lo es → DepsOk lo (put es a n)
unfolding put
put_words lo [] a n h ha hn none = more h ha hn none
put_words lo ((b, m) ∷ es) a n h ha hn (more k hb hm o) =
    elim (test (eqb b a)) [
      | inl e ↦ rw e (more {a = a} {n = n} h ha hn (subst (λ (x : ℕ). DepsOk (suc x) es) (eqb-true b a e) o))
      | inr e ↦
          elim (test (ltb a b)) [
            | inl l ↦ let k : DepsOk (suc a) ((b, m) ∷ es) = more {lo = suc a} {a = b} {n = m} (omega (arith, ltb-true a b l)) hb hm o in rw (e, l) (more {a = a} {n = n} h ha hn k)
            | inr l ↦ rw (e, l) (more {a = b} {n = m} k hb hm (put_words (suc b) es a n (omega (arith, ltb-false a b l, eqb-false b a e)) ha hn o))
          ]
    ]

enter_words : (es : List (ℕ × ℕ)) (a n : ℕ) → a < 18446744073709551616 → n < 18446744073709551616 → DepsOk 0 es → DepsOk 0 (enter es a n)
unfolding enter
enter_words es a n ha hn o = put_words 0 es a (max (get es a) n) (omega arith) ha (omega (arith, word_of es a o)) o

pairs_words : (s : List ℕ) (es : List (ℕ × ℕ)) (n at : ℕ) (ds : List (ℕ × ℕ)) (next : ℕ) → DepsOk 0 es → get_pairs s es n at ≡ got ds next → DepsOk 0 ds
unfolding get_pairs get_pair
pairs_words s es zero at ds next o e = subst (DepsOk 0) (got_value e) o
pairs_words s es (suc n) at ds next o e =
    let x = after_got (get_pair s at) _ e in
    let u = after_got (get_varint s at) _ x.2 in
    let v = after_got (get_varint s u.1) _ u.3 in
    let p : ◌≡◌ {A = ℕ × ℕ} (u.0, v.0) x.0 = got_value v.3 in
    let a : x.0.0 < 18446744073709551616 = omega (arith, (varint_read s at u.0 u.1 u.2).fits, ap (λ (q : ℕ × ℕ). q.0) p) in
    let b : x.0.1 < 18446744073709551616 = omega (arith, (varint_read s u.1 v.0 v.1 v.2).fits, ap (λ (q : ℕ × ℕ). q.1) p) in
    pairs_words s (enter es x.0.0 x.0.1) n x.1 ds next (enter_words es x.0.0 x.0.1 a b o) x.3

clock_words : (ours : ℕ) (s : List ℕ) (at : ℕ) (es : List (ℕ × ℕ)) (next : ℕ) → get_clock ours s at ≡ got es next → DepsOk 0 es
unfolding get_clock
clock_words ours s at es next e =
    let x = after_got (count_within max_deps ours s at) _ e in
    pairs_words s [] x.0 x.1 es next none x.3

clock_ok_lem : (s : List ℕ) (at : ℕ) (es : List (ℕ × ℕ)) (next : ℕ) → get_clock 32 s at ≡ got es next → clock_ok es ≡ true
unfolding clock_ok
clock_ok_lem s at es next e =
    let o = clock_words 32 s at es next e in
    and_both _ _ (and_both _ _ (le-leb (length es) 32 (clock_got 32 s at es next e).few) (deps_rising o)) (deps_words o)

-- ---- rows
module _ (s : List ℕ) (bs : AllBytes s) where
  row_ok_lem : (at : ℕ) (r : Row) (next : ℕ) → get_signed s at ≡ got r next → row_ok r ≡ true
  unfolding get_signed
  row_ok_lem at r next e =
      let a = after_got (get_head s at) _ e in
      let b = after_got (get_clock 16 s a.1) _ a.3 in
      let c = after_got (bytes_within 1048576 256 s b.1) _ b.3 in
      let d = after_got (bytes_within 1024 64 s c.1) _ c.3 in
      let p = part_got 1048576 256 s b.1 c.0 c.1 c.2 in
      let g = part_got 1024 64 s c.1 d.0 d.1 d.2 in
      subst (λ (x : Row). row_ok x ≡ true) (got_value d.3)
      (row_built s bs a.0 b.0 c.0 d.0 (get_head_got s at a.0 a.1 a.2) (clock_words 16 s a.1 b.0 b.1 b.2)
      (clock_got 16 s a.1 b.0 b.1 b.2).few p.few p.inside g.few g.inside)

  rows_ok : (n at : ℕ) (rs : List Row) (next : ℕ) → get_rows s n at ≡ got rs next → all row_ok rs ≡ true
  unfolding get_rows all
  rows_ok zero at rs next e = subst (λ (x : List Row). all row_ok x ≡ true) (got_value e) refl
  rows_ok (suc n) at rs next e =
      let x = after_got (get_signed s at) _ e in
      let y = after_got (get_rows s n x.1) _ x.3 in
      subst (λ (x : List Row). all row_ok x ≡ true) (got_value y.3) (and_both _ _ (row_ok_lem at x.0 x.1 x.2) (rows_ok n x.1 y.0 y.1 y.2))

  -- ---- messages
  made : {A : Type 0} (make : A → Message) (g : Got A) {m : Message} {n : ℕ} → message_by make g ≡ got m n
      → ((a : A) (k : ℕ) → g ≡ got a k → message_ok (make a) ≡ true) → message_ok m ≡ true
  made make g e f = let x = after_got g _ e in subst (λ (m : Message). message_ok m ≡ true) (got_value x.3) (f x.0 x.1 x.2)

  nonce_ok : (at v n : ℕ) → get_varint s at ≡ got v n → ltb v (2 ^ 64) ≡ true
  nonce_ok at v n e = lt-ltb v (2 ^ 64) (varint_read s at v n e).fits

  delta_ok : (at : ℕ) (rs : List Row) (k : ℕ) → after (count_within max_ops 64 s at) (λ n at. get_rows s n at) ≡ got rs k → message_ok (delta rs) ≡ true
  unfolding message_ok
  delta_ok at rs k e =
      let x = after_got (count_within max_ops 64 s at) _ e in
      let few = (count_got max_ops 64 s at x.0 x.1 x.2).few in
      and_both _ _ (le-leb (length rs) 64 (omega (arith, rows_count s x.0 x.1 rs k x.3))) (rows_ok x.0 x.1 rs k x.3)

  body_ok : (tag at : ℕ) (m : Message) (n : ℕ) → get_body tag s at ≡ got m n → message_ok m ≡ true
  unfolding get_body message_ok
  body_ok tag at m n e =
      elim (test (eqb tag 0)) [
        | inl a ↦ made hello (get_clock 32 s at) (rw a at e) (λ es k x. clock_ok_lem s at es k x)
        | inr a ↦
            elim (test (eqb tag 1)) [
              | inl b ↦ made delta (after (count_within max_ops 64 s at) (λ n at. get_rows s n at)) (rw (a, b) at e) (λ rs k x. delta_ok at rs k x)
              | inr b ↦
                  elim (test (eqb tag 2)) [
                    | inl c ↦ made ack (get_clock 32 s at) (rw (a, b, c) at e) (λ es k x. clock_ok_lem s at es k x)
                    | inr c ↦
                        elim (test (eqb tag 3)) [
                          | inl d ↦ made ping (get_varint s at) (rw (a, b, c, d) at e) (λ v k x. nonce_ok at v k x)
                          | inr d ↦
                              elim (test (eqb tag 4)) [
                                | inl f ↦ made pong (get_varint s at) (rw (a, b, c, d, f) at e) (λ v k x. nonce_ok at v k x)
                                | inr f ↦
                                    let z : bad (InvalidTag tag) ≡ got m n = rw (a, b, c, d, f) at e in
                                    absurd (let y : ◌≡◌ {A = ℕ} 0 1 = cc in omega arith)
                              ]
                        ]
                  ]
            ]
      ]

pub read_within : ReadWithin
unfolding read_message
read_within s m bs e =
    let a = closed_done s (after (get_u8 s 0) (λ tag at. get_body tag s at)) e in
    let b = after_got (get_u8 s 0) _ a.1 in
    body_ok s bs b.0 b.1 m a.0 b.3

-- so it comes back once it is written
pub read_again : ReadAgain
read_again s m bs e = message_back m (read_within s m bs e)

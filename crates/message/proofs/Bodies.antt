-- What follows a message's tag, and the whole body.
use Prim.Native.Nat.{ℕ, zero, suc, ◌-◌, ◌≤◌, ◌<◌}
use mathlib.Core.Path.{◌≡◌, refl, sym, ◌∙◌, ap}
use mathlib.Core.Bool.{◌&&◌}
use mathlib.Core.Logic.{inl, inr}
use mathlib.Core.List.{List}
use native.Mathlib.Omega.{arith}
use lib.Dec.{leb, ltb, eqb}
use lib.ListN.{length}
use borrow.Author.Tests.{eqb-false, eq-eqb, ne_eqb}
use Rattle.words.proofs.Words.{test}
use Rattle.error.specs.declared.Refusal.{Refusal}
use Rattle.error.specs.declared.Refusal.TheVariants.{OverCapacity, Truncated, TooLarge, InvalidTag}
use Rattle.std.specs.declared.result.Result.TheVariants.{Ok, Err}
use Rattle.error.specs.Answer.{Answer, done, refused, nothing, and_then, Got, got, bad, after}
use Rattle.clock.specs.declared.vector.VectorClock.{VectorClock}
use Rattle.clock.specs.Vector.{clock_of}
use Rattle.codec.specs.Reading.{get_u8, get_varint, get_count, finish}
use Rattle.codec.specs.Envelopes.{closed}
use Rattle.codec.proofs.ReadSteps.{after_got, need_got, got_value, got_next, closed_done}
use Rattle.row.specs.Rows.{Row}
use Rattle.message.specs.Messages.{Message, hello, delta, ack, ping, pong}
use Rattle.message.specs.Reading.{count_within, get_clock, get_signed, get_rows, message_by, get_body, read_message, max_ops}
use Rattle.message.specs.Inside.ReaderParts.{clock_by, checked, body_of, body_by, closed_by}
use Rattle.message.specs.declared.reader.Body.{Body}
use Rattle.message.specs.declared.reader.Body.TheVariants as body
use Rattle.message.proofs.Views.{seen, unseen}

-- ---- rows
pub rows_count : (s : List ℕ) (n at : ℕ) (rs : List Row) (end : ℕ) → get_rows s n at ≡ got rs end → length rs ≡ n
unfolding get_rows
rows_count s zero at rs end e = ap length (sym (got_value e))
rows_count s (suc n) at rs end e =
    let x = after_got (get_signed s at) _ e in
    let y = after_got (get_rows s n x.1) _ x.3 in
    ap length (sym (got_value y.3)) ∙ ap suc (rows_count s n x.1 y.0 y.1 y.2)

-- rows that were tested
pub record Tested (s : List ℕ) (n at end : ℕ) : Type 0 where
  pub rows : List Row
  pub is : get_rows s n at ≡ got rows end

tested_by : (s : List ℕ) (n at : ℕ) (g : Got (List Row)) {end : ℕ} → get_rows s n at ≡ g → done end ≡ checked g → Tested s n at end
unfolding checked
tested_by s n at (Ok (rs, m)) {end} e f = let x : m ≡ end = cc in record { rows = rs; is = e ∙ ap (got rs) x }
tested_by s n at (Err k) e f = absurd (let z : ◌≡◌ {A = ℕ} 0 1 = cc in omega arith)

tested : (s : List ℕ) (n at : ℕ) {end : ℕ} → done end ≡ checked (get_rows s n at) → Tested s n at end
tested s n at e = tested_by s n at (get_rows s n at) refl e

untested : (g : Got (List Row)) {k : Refusal} → refused k ≡ checked g → g ≡ bad k
unfolding checked
untested (Ok (rs, m)) f = absurd (let z : ◌≡◌ {A = ℕ} 0 1 = cc in omega arith)
untested (Err j) {k} f = let x : j ≡ k = cc in ap bad x

-- ---- behind the tag
-- a message with a clock, whether or not the clock was read
with_clock : (make : List (ℕ × ℕ) → Message) (f : VectorClock → Body) → ((es : List (ℕ × ℕ)) → f (clock_of es) ≡ body_of (make es)) → (g : Got (List (ℕ × ℕ)))
    → after (clock_by g) (λ c next. got (f c) next) ≡ body_by (message_by make g)
unfolding clock_by body_by
with_clock make f e (Ok (es, n)) = ap (λ (b : Body). got b n) (e es)
with_clock make f e (Err k) = refl

next : (n m : ℕ) → n ≤ m → (m ≡ n → ⊥) → suc n ≤ m
next n m h f = omega arith

level : (n m : ℕ) → n ≤ m → m ≤ n → n ≡ m
level n m h k = omega arith

-- the last of five tags
last_tag : (tag : ℕ) → tag ≤ 4 → (tag ≡ 0 → ⊥) → (tag ≡ 1 → ⊥) → (tag ≡ 2 → ⊥) → (tag ≡ 3 → ⊥) → tag ≡ 4
last_tag tag h a b c d = level tag 4 h (next 3 tag (next 2 tag (next 1 tag (next 0 tag (omega arith) a) b) c) d)

module _ (s : List ℕ) (at : ℕ) where
  module _ (tag : ℕ) where
    pub body_tag : 4 < tag → bad (InvalidTag tag) ≡ body_by (get_body tag s at)
    unfolding body_by get_body
    body_tag h =
        rw
        (ne_eqb tag 0 (λ e. omega arith), ne_eqb tag 1 (λ e. omega arith), ne_eqb tag 2 (λ e. omega arith), ne_eqb tag 3 (λ e. omega arith), ne_eqb tag 4 (λ e. omega arith))

    pub body_hello : tag ≡ 0 → {y : Got VectorClock} → y ≡ clock_by (get_clock 32 s at) → after y (λ c next. got (body.Hello c) next) ≡ body_by (get_body tag s at)
    unfolding get_body
    body_hello e p = rw (e, p) (with_clock hello body.Hello (λ es. refl) (get_clock 32 s at))

    pub body_ack : tag ≡ 2 → {y : Got VectorClock} → y ≡ clock_by (get_clock 32 s at) → after y (λ c next. got (body.Ack c) next) ≡ body_by (get_body tag s at)
    unfolding get_body
    body_ack e p = rw (e, p) (with_clock ack body.Ack (λ es. refl) (get_clock 32 s at))

    module _ (h : tag ≤ 4) (a : tag ≡ 0 → ⊥) (b : tag ≡ 1 → ⊥) (c : tag ≡ 2 → ⊥) where
      pub body_nonce : {k : Refusal} → get_varint s at ≡ bad k → bad k ≡ body_by (get_body tag s at)
      unfolding get_body body_by
      body_nonce e =
          elim (test (eqb tag 3)) [
            | inl f ↦ rw (ne_eqb tag 0 a, ne_eqb tag 1 b, ne_eqb tag 2 c, f, e)
            | inr f ↦ rw (ne_eqb tag 0 a, ne_eqb tag 1 b, ne_eqb tag 2 c, f, eq-eqb tag 4 (last_tag tag h a b c (eqb-false tag 3 f)), e)
          ]

      pub body_pong : (tag ≡ 3 → ⊥) → {v n : ℕ} → get_varint s at ≡ got v n → got (body.Pong v) n ≡ body_by (get_body tag s at)
      unfolding get_body body_by
      body_pong d e = rw (ne_eqb tag 0 a, ne_eqb tag 1 b, ne_eqb tag 2 c, ne_eqb tag 3 d, eq-eqb tag 4 (last_tag tag h a b c d), e)

    pub body_ping : tag ≡ 3 → {v n : ℕ} → get_varint s at ≡ got v n → got (body.Ping v) n ≡ body_by (get_body tag s at)
    unfolding get_body body_by
    body_ping e f = rw (e, f)

  -- a Delta
  pub delta_no_count : {k : Refusal} → count_within max_ops 64 s at ≡ bad k → bad k ≡ body_by (get_body 1 s at)
  unfolding get_body body_by
  delta_no_count e = rw e

  module _ {n first : ℕ} (e : count_within max_ops 64 s at ≡ got n first) where
    pub delta_no_rows : {k : Refusal} → refused k ≡ checked (get_rows s n first) → bad k ≡ body_by (get_body 1 s at)
    unfolding get_body body_by
    delta_no_rows {k} f =
        let x : get_rows s n first ≡ bad k = untested (get_rows s n first) f in
        rw (e, x)

    pub delta_rows_lem : {next : ℕ} → done next ≡ checked (get_rows s n first) → got (body.Delta n) next ≡ body_by (get_body 1 s at)
    unfolding get_body body_by
    delta_rows_lem {next} f =
        let t : Tested s n first next = tested s n first f in
        rw (e, t.is) (ap (λ (m : ℕ). got (body.Delta m) next) (sym (rows_count s n first t.rows next t.is)))

-- ---- the whole body
closed_make : (s : List ℕ) (make : ℕ → Message) (g : Got ℕ) → closed s (message_by make g) ≡ and_then (closed s g) (λ v. done (make v))
closed_make s make (Ok (v, n)) = ended (finish s n)
  where
    ended : (f : Answer Unit) → and_then f (λ end. done (make v)) ≡ and_then (and_then f (λ end. done v)) (λ v. done (make v))
    ended (Ok u) = refl
    ended (Err k) = refl
closed_make s make (Err k) = refl

module _ (s : List ℕ) where
  pub no_tag : {k : Refusal} → get_u8 s 0 ≡ bad k → read_message s ≡ refused k
  unfolding read_message
  no_tag e = rw e

  module _ {tag at : ℕ} (e : get_u8 s 0 ≡ got tag at) where
    -- a Ping or Pong
    pub ping_read : tag ≡ 3 → read_message s ≡ and_then (closed s (get_varint s at)) (λ v. done (ping v))
    unfolding read_message get_body
    ping_read t = rw (e, t) (closed_make s ping (get_varint s at))

    pub pong_read : tag ≡ 4 → read_message s ≡ and_then (closed s (get_varint s at)) (λ v. done (pong v))
    unfolding read_message get_body
    pong_read t = rw (e, t) (closed_make s pong (get_varint s at))

    -- a body of any kind
    pub closed_refused : {k : Refusal} → bad k ≡ body_by (get_body tag s at) → refused k ≡ closed_by (read_message s)
    unfolding read_message closed_by body_by
    closed_refused f = let x = unseen body_of (get_body tag s at) f in rw (e, x)

    module _ {b : Body} {next : ℕ} (f : got b next ≡ body_by (get_body tag s at)) where
      pub closed_over : {k : Refusal} → refused k ≡ finish s next → refused k ≡ closed_by (read_message s)
      unfolding read_message closed_by body_by
      closed_over l = let x = seen body_of (get_body tag s at) f in rw (e, x.1, ← l)

      pub closed_body : done nothing ≡ finish s next → done b ≡ closed_by (read_message s)
      unfolding read_message closed_by body_by
      closed_body l = let x = seen body_of (get_body tag s at) f in rw (e, x.1, ← l) (ap done x.2)

-- ---- a Delta that was read, taken apart
-- the Delta that fills all of s: its count, and its rows
pub record DeltaParts (s : List ℕ) (rs : List Row) : Type 0 where
  pub n : ℕ
  pub first : ℕ
  pub end : ℕ
  pub count : get_varint s 1 ≡ got n first
  pub rows : get_rows s n first ≡ got rs end

other : {A : Type 0} (make : A → Message) (g : Got A) {m : Message} {n : ℕ} → ((a : A) → make a ≡ m → ⊥) → message_by make g ≡ got m n → ⊥
other make g f e = let x = after_got g _ e in f x.0 (got_value x.3)

delta_body : (s : List ℕ) (tag at : ℕ) (rs : List Row) (n : ℕ) → get_body tag s at ≡ got (delta rs) n
    → message_by delta (after (count_within max_ops 64 s at) (λ n at. get_rows s n at)) ≡ got (delta rs) n
unfolding get_body
delta_body s tag at rs n e =
    elim (test (eqb tag 0)) [
      | inl h ↦ absurd (other hello (get_clock 32 s at) {m = delta rs} (λ a x. let z : ◌≡◌ {A = ℕ} 0 1 = cc in omega arith) (rw h at e))
      | inr h ↦
          elim (test (eqb tag 1)) [
            | inl k ↦ rw (h, k) at e
            | inr k ↦
                elim (test (eqb tag 2)) [
                  | inl l ↦ absurd (other ack (get_clock 32 s at) {m = delta rs} (λ a x. let z : ◌≡◌ {A = ℕ} 0 1 = cc in omega arith) (rw (h, k, l) at e))
                  | inr l ↦
                      elim (test (eqb tag 3)) [
                        | inl p ↦ absurd (other ping (get_varint s at) {m = delta rs} (λ a x. let z : ◌≡◌ {A = ℕ} 0 1 = cc in omega arith) (rw (h, k, l, p) at e))
                        | inr p ↦
                            elim (test (eqb tag 4)) [
                              | inl q ↦ absurd (other pong (get_varint s at) {m = delta rs} (λ a x. let z : ◌≡◌ {A = ℕ} 0 1 = cc in omega arith) (rw (h, k, l, p, q) at e))
                              | inr q ↦
                                  let x : bad (InvalidTag tag) ≡ got (delta rs) n = rw (h, k, l, p, q) at e in
                                  absurd (let z : ◌≡◌ {A = ℕ} 0 1 = cc in omega arith)
                            ]
                      ]
                ]
          ]
    ]

tag_next : (s : List ℕ) {tag at : ℕ} → get_u8 s 0 ≡ got tag at → at ≡ 1
unfolding get_u8
tag_next s e = let x = need_got (ltb 0 (length s)) Truncated _ e in sym (got_next x.1)

pub delta_parts : (s : List ℕ) (rs : List Row) → read_message s ≡ done (delta rs) → DeltaParts s rs
unfolding read_message count_within get_count
delta_parts s rs e =
    let a = closed_done s (after (get_u8 s 0) (λ tag at. get_body tag s at)) e in
    let b = after_got (get_u8 s 0) _ a.1 in
    let one : b.1 ≡ 1 = tag_next s b.2 in
    let c = after_got (after (count_within max_ops 64 s b.1) (λ n at. get_rows s n at)) _ (delta_body s b.0 b.1 rs a.0 b.3) in
    let m : c.0 ≡ rs = delta_rows_are (got_value c.3) in
    let d = after_got (count_within max_ops 64 s b.1) _ c.2 in
    let x = after_got (get_count s b.1 max_ops) _ d.2 in
    let y = need_got (leb x.0 64) OverCapacity _ x.3 in
    let u = after_got (get_varint s b.1) _ x.2 in
    let v = need_got (leb u.0 max_ops && leb u.0 (length s - u.1)) TooLarge _ u.3 in
    record {
      n = d.0;
      first = d.1;
      end = c.1;
      count = ap (get_varint s) (sym one) ∙ u.2 ∙ v.1 ∙ y.1;
      rows = d.3 ∙ ap (λ (l : List Row). got l c.1) m;
    }
  where
    delta_rows_are : {xs ys : List Row} → delta xs ≡ delta ys → xs ≡ ys
    delta_rows_are e = cc

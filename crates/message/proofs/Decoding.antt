-- The calls that read a message, alone and inside an envelope.
use Prim.Native.Nat.{ℕ, ◌+◌, ◌*◌, ◌/◌, ◌≤◌, ◌<◌}
use mathlib.Core.Path.{◌≡◌, refl, sym, ◌∙◌, ap}
use mathlib.Core.Logic.{inl, inr}
use mathlib.Core.List.{List}
use native.Mathlib.Omega.{arith}
use lib.Dec.{leb}
use lib.ListN.{length}
use borrow.Author.Tests.{le-leb, lt-leb}
use Rattle.words.specs.Areas.{put_at}
use Rattle.words.proofs.Words.{test}
use Rattle.std.specs.Result.{IsOk}
use Rattle.error.specs.declared.Refusal.{Refusal}
use Rattle.error.specs.declared.Refusal.TheVariants.{ShortArea}
use Rattle.std.specs.declared.result.Result.TheVariants.{Ok, Err}
use Rattle.error.specs.Answer.{Answer, done, refused, and_then, Got, got}
use Rattle.clock.specs.declared.vector.VectorClock.{VectorClock}
use Rattle.clock.specs.Vector.{clock_of}
use Rattle.clock.specs.Area.{clock_bytes}
use Rattle.codec.specs.Reading.{get_varint, get_count, get_bytes, part_of}
use Rattle.codec.specs.declared.Part.{Part}
use Rattle.codec.specs.Envelopes.{max_frame, max_signature, read_envelope}
use Rattle.codec.specs.declared.Envelope.{Envelope}
use Rattle.codec.proofs.ReadSteps.{after_got, got_value, got_next, closed_done}
use Rattle.codec.proofs.RoundTrip.{count_inside}
use Rattle.row.specs.Rows.{Row}
use Rattle.row.specs.Slots.{encode_slots}
use Rattle.replicated_log.specs.Areas.{logged_rows}
use Rattle.message.specs.Messages.{Message, hello, delta, ack, ping, pong}
use Rattle.message.specs.Reading.{get_rows, read_message, read_frame}
use Rattle.message.specs.Calls.{row_count, message_call, clock_left, rows_left, kind_of, message_answer, ReadsMessage, frame_call, ReadsFrame}
use Rattle.message.specs.Inside.ReaderParts.{Readable, rows_in, body_of, closed_by, IsDelta}
use Rattle.message.specs.declared.Kind.{Kind}
use Rattle.message.specs.declared.Kind.TheVariants as kind
use Rattle.message.specs.declared.FrameRead.{FrameRead}
use Rattle.message.specs.declared.reader.Body.{Body}
use Rattle.message.specs.declared.reader.Body.TheVariants as body
use Rattle.message.proofs.Bodies.{DeltaParts, delta_parts, rows_count}

-- ---- what the body's reader tells
pub record Told (a : Answer Message) (b : Body) : Type 0 where
  pub message : Message
  pub is : a ≡ done message
  pub holds : b ≡ body_of message

pub told : (a : Answer Message) {b : Body} → done b ≡ closed_by a → Told a b
unfolding closed_by
told (Ok m) {b} e = let x : b ≡ body_of m = cc in record { message = m; is = refl; holds = x }
told (Err k) e = absurd (let z : ◌≡◌ {A = ℕ} 0 1 = cc in omega arith)

pub told_refused : (a : Answer Message) {k : Refusal} → refused k ≡ closed_by a → a ≡ refused k
unfolding closed_by
told_refused (Ok m) e = absurd (let z : ◌≡◌ {A = ℕ} 0 1 = cc in omega arith)
told_refused (Err j) {k} e = let x : j ≡ k = cc in ap refused x

-- the message of each body
module _ {a : Answer Message} {b : Body} (t : Told a b) where
  pub record WithClock (make : List (ℕ × ℕ) → Message) (c : VectorClock) : Type 0 where
    pub es : List (ℕ × ℕ)
    pub is : a ≡ done (make es)
    pub clock : c ≡ clock_of es

  hello_by : (m : Message) {c : VectorClock} → a ≡ done m → body.Hello c ≡ body_of m → WithClock hello c
  hello_by (hello es) {c} e h = let x : c ≡ clock_of es = cc in record { es = es; is = e; clock = x }
  hello_by (delta rs) e h = absurd (let z : ◌≡◌ {A = ℕ} 0 1 = cc in omega arith)
  hello_by (ack es) e h = absurd (let z : ◌≡◌ {A = ℕ} 0 1 = cc in omega arith)
  hello_by (ping n) e h = absurd (let z : ◌≡◌ {A = ℕ} 0 1 = cc in omega arith)
  hello_by (pong n) e h = absurd (let z : ◌≡◌ {A = ℕ} 0 1 = cc in omega arith)

  pub hello_told : {c : VectorClock} → b ≡ body.Hello c → WithClock hello c
  hello_told h = hello_by t.message t.is (sym h ∙ t.holds)

  ack_by : (m : Message) {c : VectorClock} → a ≡ done m → body.Ack c ≡ body_of m → WithClock ack c
  ack_by (hello es) e h = absurd (let z : ◌≡◌ {A = ℕ} 0 1 = cc in omega arith)
  ack_by (delta rs) e h = absurd (let z : ◌≡◌ {A = ℕ} 0 1 = cc in omega arith)
  ack_by (ack es) {c} e h = let x : c ≡ clock_of es = cc in record { es = es; is = e; clock = x }
  ack_by (ping n) e h = absurd (let z : ◌≡◌ {A = ℕ} 0 1 = cc in omega arith)
  ack_by (pong n) e h = absurd (let z : ◌≡◌ {A = ℕ} 0 1 = cc in omega arith)

  pub ack_told : {c : VectorClock} → b ≡ body.Ack c → WithClock ack c
  ack_told h = ack_by t.message t.is (sym h ∙ t.holds)

  pub record WithRows (n : ℕ) : Type 0 where
    pub rs : List Row
    pub is : a ≡ done (delta rs)
    pub count : length rs ≡ n

  delta_by : (m : Message) {n : ℕ} → a ≡ done m → body.Delta n ≡ body_of m → WithRows n
  delta_by (hello es) e h = absurd (let z : ◌≡◌ {A = ℕ} 0 1 = cc in omega arith)
  delta_by (delta rs) {n} e h = let x : length rs ≡ n = cc in record { rs = rs; is = e; count = x }
  delta_by (ack es) e h = absurd (let z : ◌≡◌ {A = ℕ} 0 1 = cc in omega arith)
  delta_by (ping n) e h = absurd (let z : ◌≡◌ {A = ℕ} 0 1 = cc in omega arith)
  delta_by (pong n) e h = absurd (let z : ◌≡◌ {A = ℕ} 0 1 = cc in omega arith)

  pub delta_told_lem : {n : ℕ} → b ≡ body.Delta n → WithRows n
  delta_told_lem h = delta_by t.message t.is (sym h ∙ t.holds)

  ping_by : (m : Message) {n : ℕ} → a ≡ done m → body.Ping n ≡ body_of m → a ≡ done (ping n)
  ping_by (hello es) e h = absurd (let z : ◌≡◌ {A = ℕ} 0 1 = cc in omega arith)
  ping_by (delta rs) e h = absurd (let z : ◌≡◌ {A = ℕ} 0 1 = cc in omega arith)
  ping_by (ack es) e h = absurd (let z : ◌≡◌ {A = ℕ} 0 1 = cc in omega arith)
  ping_by (ping m) {n} e h = let x : m ≡ n = cc in e ∙ ap (λ (v : ℕ). done (ping v)) x
  ping_by (pong m) e h = absurd (let z : ◌≡◌ {A = ℕ} 0 1 = cc in omega arith)

  pub ping_told : {n : ℕ} → b ≡ body.Ping n → a ≡ done (ping n)
  ping_told h = ping_by t.message t.is (sym h ∙ t.holds)

  pong_by : (m : Message) {n : ℕ} → a ≡ done m → body.Pong n ≡ body_of m → a ≡ done (pong n)
  pong_by (hello es) e h = absurd (let z : ◌≡◌ {A = ℕ} 0 1 = cc in omega arith)
  pong_by (delta rs) e h = absurd (let z : ◌≡◌ {A = ℕ} 0 1 = cc in omega arith)
  pong_by (ack es) e h = absurd (let z : ◌≡◌ {A = ℕ} 0 1 = cc in omega arith)
  pong_by (ping m) e h = absurd (let z : ◌≡◌ {A = ℕ} 0 1 = cc in omega arith)
  pong_by (pong m) {n} e h = let x : m ≡ n = cc in e ∙ ap (λ (v : ℕ). done (pong v)) x

  pub pong_told : {n : ℕ} → b ≡ body.Pong n → a ≡ done (pong n)
  pong_told h = pong_by t.message t.is (sym h ∙ t.holds)

-- ---- the slots of a Delta
module _ (s : List ℕ) {room : ℕ} (d : IsDelta s room) where
  parts : DeltaParts s d.rows
  parts = delta_parts s d.rows d.is

  -- its count is read
  pub delta_counted : IsOk (get_varint s 1)
  delta_counted = rw parts.count refl

  module _ {n first : ℕ} (e : get_varint s 1 ≡ got n first) where
    same : got parts.n parts.first ≡ got n first
    same = sym parts.count ∙ e

    there : get_rows s n first ≡ got d.rows parts.end
    there =
        let x : parts.n ≡ n = got_value same in
        let y : parts.first ≡ first = got_next same in
        sym (λ i. get_rows s (x i) (y i)) ∙ parts.rows

    pub delta_readable : Readable s first n
    delta_readable = record { rows = d.rows; end = parts.end; is = there }

    pub delta_room : 704 * n ≤ room
    delta_room = omega (arith, d.fits, rows_count s n first d.rows parts.end there)

    pub delta_written : (area area' : List ℕ) → area' ≡ put_at area 0 (encode_slots (logged_rows (rows_in (get_rows s n first)))) → area' ≡ rows_left area (read_message s)
    delta_written area area' f =
        f ∙ ap (λ (g : Got (List Row)). put_at area 0 (encode_slots (logged_rows (rows_in g)))) there ∙ ap (rows_left area) (sym d.is)

-- the slots have room
pub is_delta : (body : List ℕ) (room : ℕ) {n : ℕ} (rs : List Row) → read_message body ≡ done (delta rs) → length rs ≡ n → n ≤ room / 704 → IsDelta body room
is_delta body room rs r c h = record { rows = rs; is = r; fits = omega arith }

-- ---- the call
module _ (body clock rows : List ℕ) where
  pub short_clock : (clock' rows' : List ℕ) → length clock < 520 → clock' ≡ clock → rows' ≡ rows
      → ReadsMessage body clock rows (refused ShortArea) clock' rows'
  unfolding message_call
  short_clock clock' rows' h e f = let x = lt-leb 520 (length clock) h in record { answer = rw x; clock_area_lem = rw x e; rows_area = rw x f }

  module _ (long : 520 ≤ length clock) where
    pub unread : (clock' rows' : List ℕ) {r : Answer Kind} {k : Refusal} → r ≡ refused k → read_message body ≡ refused k → clock' ≡ clock → rows' ≡ rows
        → ReadsMessage body clock rows r clock' rows'
    unfolding message_call
    unread clock' rows' p r e f =
        let x = le-leb 520 (length clock) long in
        record { answer = rw (x, r) p; clock_area_lem = rw (x, r) e; rows_area = rw (x, r) f }

    call_done : (m : Message) → read_message body ≡ done m → 704 * row_count m ≤ length rows → message_call body clock rows ≡ done m
    unfolding message_call
    call_done m r h = rw (le-leb 520 (length clock) long, r, le-leb (704 * row_count m) (length rows) h)

    done_reads : (m : Message) (c r' : List ℕ) → message_call body clock rows ≡ done m → c ≡ clock_left clock (done m) → r' ≡ rows_left rows (done m)
        → ReadsMessage body clock rows (done (kind_of m)) c r'
    done_reads m c r' e f g = record { answer = rw e; clock_area_lem = rw e f; rows_area = rw e g }

    pub short_rows : (clock' rows' : List ℕ) {n : ℕ} (rs : List Row) → read_message body ≡ done (delta rs) → length rs ≡ n → length rows / 704 < n → clock' ≡ clock → rows' ≡ rows
        → ReadsMessage body clock rows (refused ShortArea) clock' rows'
    unfolding message_call
    short_rows clock' rows' rs r c h e f =
        let x = le-leb 520 (length clock) long in
        let y = lt-leb (704 * length rs) (length rows) (omega arith) in
        record { answer = rw (x, r, y); clock_area_lem = rw (x, r, y) e; rows_area = rw (x, r, y) f }

    module _ (clock' rows' : List ℕ) where
      pub read_hello : {c : VectorClock} (es : List (ℕ × ℕ)) → read_message body ≡ done (hello es) → c ≡ clock_of es
          → clock' ≡ put_at clock 0 (clock_bytes c) → rows' ≡ rows → ReadsMessage body clock rows (done kind.Hello) clock' rows'
      read_hello es r e f g =
          done_reads (hello es) clock' rows' (call_done (hello es) r (omega arith)) (f ∙ ap (λ (d : VectorClock). put_at clock 0 (clock_bytes d)) e) g

      pub read_ack : {c : VectorClock} (es : List (ℕ × ℕ)) → read_message body ≡ done (ack es) → c ≡ clock_of es
          → clock' ≡ put_at clock 0 (clock_bytes c) → rows' ≡ rows → ReadsMessage body clock rows (done kind.Ack) clock' rows'
      read_ack es r e f g =
          done_reads (ack es) clock' rows' (call_done (ack es) r (omega arith)) (f ∙ ap (λ (d : VectorClock). put_at clock 0 (clock_bytes d)) e) g

      pub read_delta : {n : ℕ} (rs : List Row) → read_message body ≡ done (delta rs) → length rs ≡ n → n ≤ length rows / 704
          → clock' ≡ clock → rows' ≡ rows_left rows (read_message body) → ReadsMessage body clock rows (done (kind.Delta n)) clock' rows'
      read_delta rs r c h e f =
          rw (← c) (done_reads (delta rs) clock' rows' (call_done (delta rs) r (omega arith)) e (f ∙ ap (rows_left rows) r))

      pub read_ping : {n : ℕ} → read_message body ≡ done (ping n) → clock' ≡ clock → rows' ≡ rows
          → ReadsMessage body clock rows (done (kind.Ping n)) clock' rows'
      read_ping {n} r e f = done_reads (ping n) clock' rows' (call_done (ping n) r (omega arith)) e f

      pub read_pong : {n : ℕ} → read_message body ≡ done (pong n) → clock' ≡ clock → rows' ≡ rows
          → ReadsMessage body clock rows (done (kind.Pong n)) clock' rows'
      read_pong {n} r e f = done_reads (pong n) clock' rows' (call_done (pong n) r (omega arith)) e f

-- ---- envelopes
-- the body lies within the frame
pub body_inside : (s : List ℕ) (e : Envelope) → read_envelope s ≡ done e → e.body.start + e.body.len ≤ length s
unfolding read_envelope get_bytes
body_inside s e f =
    let a = closed_done s _ f in
    let b = after_got (get_varint s 0) _ a.1 in
    let c = after_got (get_bytes s b.1 max_frame) _ b.3 in
    let d = after_got (get_bytes s c.1 max_signature) _ c.3 in
    let x = after_got (get_count s b.1 max_frame) _ c.2 in
    let y : c.0 ≡ e.body = ap (λ (z : Envelope). z.body) (got_value d.3) in
    let u : x.1 ≡ c.0.start = ap (λ (p : Part). p.start) (got_value x.3) in
    let v : x.0 ≡ c.0.len = ap (λ (p : Part). p.len) (got_value x.3) in
    omega (arith, count_inside s b.1 max_frame x.0 x.1 x.2, ap (λ (p : Part). p.start) y, ap (λ (p : Part). p.len) y)

answer_refused : (a : Answer Message) {k : Refusal} → refused k ≡ message_answer a → a ≡ refused k
answer_refused (Ok m) e = absurd (let z : ◌≡◌ {A = ℕ} 0 1 = cc in omega arith)
answer_refused (Err j) {k} e = let x : j ≡ k = cc in ap refused x

answer_done : (a : Answer Message) {k : Kind} → done k ≡ message_answer a → (m : Message) × (a ≡ done m) × (k ≡ kind_of m)
answer_done (Ok m) {k} e = let x : k ≡ kind_of m = cc in (m, refl, x)
answer_done (Err j) e = absurd (let z : ◌≡◌ {A = ℕ} 0 1 = cc in omega arith)

-- ---- inside an envelope
module _ (s clock rows : List ℕ) where
  pub frame_short : (clock' rows' : List ℕ) → length clock < 520 → clock' ≡ clock → rows' ≡ rows → ReadsFrame s clock rows (refused ShortArea) clock' rows'
  unfolding frame_call
  frame_short clock' rows' h e f = let x = lt-leb 520 (length clock) h in record { answer = rw x; clock_area_lem = rw x e; rows_area = rw x f }

  module _ (long : 520 ≤ length clock) where
    pub no_envelope : (clock' rows' : List ℕ) {r : Answer FrameRead} {k : Refusal} → r ≡ refused k → read_envelope s ≡ refused k → clock' ≡ clock → rows' ≡ rows
        → ReadsFrame s clock rows r clock' rows'
    unfolding frame_call read_frame
    no_envelope clock' rows' p y e f =
        let x = le-leb 520 (length clock) long in
        record { answer = rw (x, y) p; clock_area_lem = rw (x, y) e; rows_area = rw (x, y) f }

    module _ {found : Envelope} (opened : read_envelope s ≡ done found) where
      framed_by : (r : Answer Message) → read_message (part_of s found.body) ≡ r
          → frame_call s clock rows ≡ and_then (message_call (part_of s found.body) clock rows) (λ m. done (record { envelope = found; message = m }))
      unfolding frame_call read_frame message_call
      framed_by (Ok m) e =
          elim (test (leb (704 * row_count m) (length rows))) [
            | inl h ↦ rw (le-leb 520 (length clock) long, opened, e, h)
            | inr h ↦ rw (le-leb 520 (length clock) long, opened, e, h)
          ]
      framed_by (Err k) e = rw (le-leb 520 (length clock) long, opened, e)

      framed : (a : Answer Message) → message_call (part_of s found.body) clock rows ≡ a → frame_call s clock rows ≡ and_then a (λ m. done (record { envelope = found; message = m }))
      framed a e = framed_by (read_message (part_of s found.body)) refl ∙ ap (λ (z : Answer Message). and_then z (λ m. done (record { envelope = found; message = m }))) e

      module _ (body clock' rows' : List ℕ) (b : body ≡ part_of s found.body) where
        pub frame_unread : {k : Refusal} {r : Answer FrameRead} → r ≡ refused k → ReadsMessage body clock rows (refused k) clock' rows' → ReadsFrame s clock rows r clock' rows'
        frame_unread {k} p d =
            let x : message_call body clock rows ≡ refused k = answer_refused (message_call body clock rows) d.answer in
            let y : frame_call s clock rows ≡ refused k = framed (refused k) (ap (λ (z : List ℕ). message_call z clock rows) (sym b) ∙ x) in
            record { answer = rw y p; clock_area_lem = rw y (d.clock_area_lem ∙ ap (clock_left clock) x); rows_area = rw y (d.rows_area ∙ ap (rows_left rows) x) }

        pub frame_read : {k : Kind} → ReadsMessage body clock rows (done k) clock' rows' → ReadsFrame s clock rows (done (record { envelope = found; kind = k })) clock' rows'
        frame_read {k} d =
            let m = answer_done (message_call body clock rows) d.answer in
            let y : frame_call s clock rows ≡ done (record { envelope = found; message = m.0 }) =
            framed (done m.0) (ap (λ (z : List ℕ). message_call z clock rows) (sym b) ∙ m.1) in
            record {
              answer = rw y (ap (λ (z : Kind). done (record { envelope = found; kind = z })) m.2);
              clock_area_lem = rw y (d.clock_area_lem ∙ ap (clock_left clock) m.1);
              rows_area = rw y (d.rows_area ∙ ap (rows_left rows) m.1);
            }

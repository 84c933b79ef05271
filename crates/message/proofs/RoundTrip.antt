-- What is written of a message is read back as the message. Where bytes stand is said by `drop at s ≡ bytes ++ rest`.
use Prim.Native.Nat.{ℕ, suc, ◌+◌, ◌*◌, ◌≤◌, ◌<◌, ◌^◌, max}
use mathlib.Core.Path.{◌≡◌, refl, sym, ◌∙◌, ap}
use mathlib.Core.Bool.{true, ◌&&◌}
use mathlib.Core.List.{List, [], ◌∷◌, ◌++◌, append_assoc, append-nil}
use native.Mathlib.Omega.{arith}
use lib.Dec.{leb}
use lib.ListN.{length, drop, length-append}
use borrow.Author.Tests.{le-ltb, le-leb, leb-true, ltb-true, ne_eqb}
use Rattle.words.specs.Lists.{all}
use Rattle.words.proofs.Conjunction.{and_left, and_right}
use Rattle.error.specs.Answer.{done, nothing, got}
use Rattle.clock.specs.Entries.{rising, get, put, enter}
use Rattle.codec.specs.Leb128.{shortest}
use Rattle.codec.specs.Reading.{get_u8, part_of, finish}
use Rattle.codec.specs.Writing.{sized}
use Rattle.codec.specs.Envelopes.{max_frame}
use Rattle.codec.proofs.ShortestForm.{some}
use Rattle.codec.proofs.RoundTrip.{one_to_ten, behind, u8_there, varint_there, count_there, within, part_there, envelope_back}
use Rattle.codec.proofs.ReadSteps.{on, pass, shut, next}
use Rattle.row.specs.Rows.{Row, logged, row_ok, word_pairs}
use Rattle.row.specs.Wire.{stamped_bytes, pair_bytes, deps_bytes, unsigned_bytes, signed_bytes}
use Rattle.row.specs.Inside.WireLengths.{signed_len, unsigned_len, head_len, varint_len}
use Rattle.row.proofs.DepsPairs.{DepsOk, deps_of_lem}
use Rattle.row.proofs.DepsPairs.DepsOk.{none, more}
use Rattle.row.proofs.WireLengths.{length_signed}
use Rattle.row.proofs.CanonicalSlot.{HeldGood}
use Rattle.row.proofs.RowBounds.{row_good}
use Rattle.row.proofs.RoundTrip.{get_head_there}
use Rattle.replicated_log.specs.Store.{clock_ok}
use Rattle.message.specs.Messages.{Message, hello, delta, ack, ping, pong, message_ok, rows_bytes, message_bytes}
use Rattle.message.specs.Reading.{count_within, bytes_within, get_pair, get_pairs, get_clock, get_signed, get_rows, get_body, read_message, read_frame}
use Rattle.message.specs.Calls.{row_count, message_call}
use Rattle.message.specs.RoundTrip.{MessageBack, FrameBack, CallsBack}

-- ---- entering authors that rise
-- every author of es is below lo
abbrev pub Under : ℕ → List (ℕ × ℕ) → Type 0
Under lo [] = Unit {0}
Under lo ((a, n) ∷ es) = (a < lo) × Under lo es

under_one : (lo a n : ℕ) (es : List (ℕ × ℕ)) → Under lo es → lo ≤ a → Under (suc a) (es ++ ((a, n) ∷ []))
under_one lo a n [] u h = (omega arith, tt)
under_one lo a n ((b, m) ∷ es) u h = (omega arith, under_one lo a n es u.1 h)

get_none : (lo : ℕ) (es : List (ℕ × ℕ)) → Under lo es → (a : ℕ) → lo ≤ a → get es a ≡ 0
unfolding get
get_none lo [] u a h = refl
get_none lo ((b, m) ∷ es) u a h = rw (ne_eqb b a (λ e. omega arith)) (get_none lo es u.1 a h)

put_end : (lo : ℕ) (es : List (ℕ × ℕ)) → Under lo es → (a n : ℕ) → lo ≤ a → put es a n ≡ es ++ ((a, n) ∷ [])
unfolding put
put_end lo [] u a n h = refl
put_end lo ((b, m) ∷ es) u a n h =
    rw (ne_eqb b a (λ e. omega arith), le-ltb a b (omega arith)) (ap (λ (t : List (ℕ × ℕ)). (b, m) ∷ t) (put_end lo es u.1 a n h))

max_zero : (n : ℕ) → max 0 n ≡ n
max_zero n = omega arith

enter_end : (lo : ℕ) (es : List (ℕ × ℕ)) → Under lo es → (a n : ℕ) → lo ≤ a → enter es a n ≡ es ++ ((a, n) ∷ [])
unfolding enter
enter_end lo es u a n h = rw (get_none lo es u a h, max_zero n) (put_end lo es u a n h)

-- ---- where bytes stand, they are read
pub pairs_there : (s : List ℕ) (at lo : ℕ) (es ds : List (ℕ × ℕ)) (q : List ℕ) → Under lo es → DepsOk lo ds → drop at s ≡ pair_bytes ds ++ q
    → got (es ++ ds) (at + length (pair_bytes ds)) ≡ get_pairs s es (length ds) at
unfolding get_pairs get_pair pair_bytes
pairs_there s at lo es [] q u none e = let z : at + 0 ≡ at = omega arith in rw (z, append-nil es)
pairs_there s at lo es ((a, n) ∷ ds) q u (more h ha hn o) e =
    let f : drop at s ≡ shortest a ++ (shortest n ++ (pair_bytes ds ++ q)) = e ∙ simp append_assoc in
    let g : drop (at + length (shortest a)) s ≡ shortest n ++ (pair_bytes ds ++ q) = behind s at (shortest a) _ f in
    let k : drop (at + length (shortest a) + length (shortest n)) s ≡ pair_bytes ds ++ q = behind s (at + length (shortest a)) (shortest n) _ g in
    let m : at + length (shortest a ++ (shortest n ++ pair_bytes ds)) ≡ at + length (shortest a) + length (shortest n) + length (pair_bytes ds) =
    simp length-append (omega arith) in
    let w : got ((es ++ ((a, n) ∷ [])) ++ ds) (at + length (shortest a) + length (shortest n) + length (pair_bytes ds))
    ≡ get_pairs s (es ++ ((a, n) ∷ [])) (length ds) (at + length (shortest a) + length (shortest n)) =
    pairs_there s (at + length (shortest a) + length (shortest n)) (suc a) (es ++ ((a, n) ∷ [])) ds q (under_one lo a n es u h) o k in
    on _ (sym (on _ (varint_there s at a _ ha f) (on _ (varint_there s (at + length (shortest a)) n _ hn g) refl)))
    (rw (enter_end lo es u a n h, m, ← w, append_assoc es ((a, n) ∷ []) ds))

pairs_long : (ds : List (ℕ × ℕ)) → length ds ≤ length (pair_bytes ds)
unfolding pair_bytes
pairs_long [] = omega arith
pairs_long ((a, n) ∷ ds) = omega (arith, some a, some n, pairs_long ds, length-append (shortest a) (shortest n ++ pair_bytes ds), length-append (shortest n) (pair_bytes ds))

module _ (s : List ℕ) (at : ℕ) where
  pub count_within_there : (most ours n : ℕ) (q : List ℕ) → n < 2 ^ 64 → n ≤ most → n ≤ ours → n ≤ length q → drop at s ≡ shortest n ++ q
      → got n (at + length (shortest n)) ≡ count_within most ours s at
  unfolding count_within
  count_within_there most ours n q h k o l e = on _ (count_there s at n most q h k l e) (pass _ _ (le-leb n ours o) refl)

  pub clock_there : (ours : ℕ) (ds : List (ℕ × ℕ)) (q : List ℕ) → ours ≤ 4096 → length ds ≤ ours → DepsOk 0 ds → drop at s ≡ deps_bytes ds ++ q
      → got ds (at + length (deps_bytes ds)) ≡ get_clock ours s at
  unfolding get_clock deps_bytes
  clock_there ours ds q h k o e =
      let f : drop at s ≡ shortest (length ds) ++ (pair_bytes ds ++ q) = e ∙ append_assoc (shortest (length ds)) (pair_bytes ds) q in
      let m : at + length (shortest (length ds) ++ pair_bytes ds) ≡ at + length (shortest (length ds)) + length (pair_bytes ds) = simp length-append (omega arith) in
      let l : length ds ≤ length (pair_bytes ds ++ q) = omega (arith, pairs_long ds, length-append (pair_bytes ds) q) in
      on _ (sym (count_within_there 4096 ours (length ds) (pair_bytes ds ++ q) (omega arith) (omega arith) k l f))
      (rw m (pairs_there s (at + length (shortest (length ds))) 0 [] ds q tt o (behind s at (shortest (length ds)) _ f)))

  pub bytes_within_there : (most ours : ℕ) (b q : List ℕ) → length b < 2 ^ 64 → length b ≤ most → length b ≤ ours → drop at s ≡ sized b ++ q
      → got (within at b) (at + length (sized b)) ≡ bytes_within most ours s at
  unfolding bytes_within sized
  bytes_within_there most ours b q h k o e =
      let f : drop at s ≡ shortest (length b) ++ (b ++ q) = e ∙ append_assoc (shortest (length b)) b q in
      let m : at + length (shortest (length b) ++ b) ≡ at + length (shortest (length b)) + length b = simp length-append (omega arith) in
      let l : length b ≤ length (b ++ q) = omega (arith, length-append b q) in
      on _ (sym (count_within_there most ours (length b) (b ++ q) h k o l f)) (rw m)

-- ---- a row
module _ (s : List ℕ) (r : Row) (g : HeldGood (logged r)) where
  module _ (at : ℕ) (q : List ℕ) (e : drop at s ≡ signed_bytes r ++ q) where
    head : List ℕ
    head = stamped_bytes r

    deps : List ℕ
    deps = deps_bytes r.deps

    payload : List ℕ
    payload = sized r.payload

    signature : List ℕ
    signature = sized r.signature

    deps_at_lem : ℕ
    deps_at_lem = at + length head

    payload_at_lem : ℕ
    payload_at_lem = deps_at_lem + length deps

    signature_at : ℕ
    signature_at = payload_at_lem + length payload

    head_stands : drop at s ≡ head ++ (deps ++ (payload ++ (signature ++ q)))
    unfolding signed_bytes unsigned_bytes head deps payload signature
    head_stands = e ∙ simp append_assoc

    deps_stand : drop deps_at_lem s ≡ deps ++ (payload ++ (signature ++ q))
    unfolding deps_at_lem
    deps_stand = behind s at head _ head_stands

    payload_stands : drop payload_at_lem s ≡ payload ++ (signature ++ q)
    unfolding payload_at_lem
    payload_stands = behind s deps_at_lem deps _ deps_stand

    signature_stands : drop signature_at s ≡ signature ++ q
    unfolding signature_at
    signature_stands = behind s payload_at_lem payload _ payload_stands

    end : signature_at + length signature ≡ at + length (signed_bytes r)
    unfolding signature_at payload_at_lem deps_at_lem head deps payload signature signed_bytes unsigned_bytes
    end =
        let l : length ((stamped_bytes r ++ (deps_bytes r.deps ++ sized r.payload)) ++ sized r.signature)
        ≡ length (stamped_bytes r) + (length (deps_bytes r.deps) + length (sized r.payload)) + length (sized r.signature) =
        simp length-append in
        omega arith

    parts : record {
      stamp = r.stamp;
      author = r.author;
      seq = r.seq;
      deps = r.deps;
      payload = part_of s (within payload_at_lem r.payload);
      signature = part_of s (within signature_at r.signature);
    } ≡ r
    unfolding payload signature
    parts =
        let p : part_of s (within payload_at_lem r.payload) ≡ r.payload = part_there s payload_at_lem r.payload _ payload_stands in
        let w : part_of s (within signature_at r.signature) ≡ r.signature = part_there s signature_at r.signature _ signature_stands in
        λ i. record { stamp = r.stamp; author = r.author; seq = r.seq; deps = r.deps; payload = p i; signature = w i }

    pub signed_there : got r (at + length (signed_bytes r)) ≡ get_signed s at
    unfolding get_signed head deps payload signature deps_at_lem payload_at_lem signature_at
    signed_there =
        on _ (sym (get_head_there s r g at _ head_stands))
        (on _ (sym (clock_there s deps_at_lem 16 r.deps _ (omega arith) g.few.deps g.deps deps_stand))
        (on _ (sym (bytes_within_there s payload_at_lem 1048576 256 r.payload _ (omega (arith, g.few.payload)) (omega (arith, g.few.payload)) g.few.payload payload_stands))
        (on _ (sym (bytes_within_there s signature_at 1024 64 r.signature _ (omega (arith, g.few.signature)) (omega (arith, g.few.signature)) g.few.signature signature_stands))
        (rw (← end, parts)))))

-- ---- rows
signed_long : (r : Row) → 1 ≤ length (signed_bytes r)
unfolding signed_len unsigned_len head_len varint_len
signed_long r = omega (arith, length_signed r, some r.stamp.wall_time)

rows_long : (rs : List Row) → length rs ≤ length (rows_bytes rs)
unfolding rows_bytes
rows_long [] = omega arith
rows_long (r ∷ rs) = omega (arith, signed_long r, rows_long rs, length-append (signed_bytes r) (rows_bytes rs))

pub rows_there : (s : List ℕ) (at : ℕ) (rs : List Row) (q : List ℕ) → all row_ok rs ≡ true → drop at s ≡ rows_bytes rs ++ q
    → got rs (at + length (rows_bytes rs)) ≡ get_rows s (length rs) at
unfolding get_rows rows_bytes all
rows_there s at [] q h e = let z : at + 0 ≡ at = omega arith in rw z
rows_there s at (r ∷ rs) q h e =
    let f : drop at s ≡ signed_bytes r ++ (rows_bytes rs ++ q) = e ∙ append_assoc (signed_bytes r) (rows_bytes rs) q in
    let k : drop (at + length (signed_bytes r)) s ≡ rows_bytes rs ++ q = behind s at (signed_bytes r) _ f in
    let m : at + length (signed_bytes r ++ rows_bytes rs) ≡ at + length (signed_bytes r) + length (rows_bytes rs) = simp length-append (omega arith) in
    on _ (sym (signed_there s r (row_good r (and_left _ _ h)) at _ f))
    (on _ (sym (rows_there s (at + length (signed_bytes r)) rs q (and_right (row_ok r) (all row_ok rs) h) k)) (rw m))

-- ---- messages
ended : (s : List ℕ) (at : ℕ) → length s ≤ at → finish s at ≡ done nothing
unfolding finish
ended s at h = rw (le-leb (length s) at h)

module _ (tag : ℕ) (rest : List ℕ) where
  tag_there : get_u8 (tag ∷ rest) 0 ≡ got tag 1
  tag_there = u8_there (tag ∷ rest) 0 tag rest refl

  -- a body behind its tag that is read to the end
  whole : (m : Message) (end : ℕ) → end ≡ 1 + length rest → got m end ≡ get_body tag (tag ∷ rest) 1 → read_message (tag ∷ rest) ≡ done m
  unfolding read_message
  whole m end e f =
      sym (shut (tag ∷ rest) (on _ tag_there f) (next _ (ended (tag ∷ rest) end (omega arith)) refl))

stands : (tag : ℕ) (rest : List ℕ) → drop 1 (tag ∷ rest) ≡ rest ++ []
stands tag rest = sym (append-nil rest)

clock_good : (es : List (ℕ × ℕ)) → clock_ok es ≡ true → (length es ≤ 32) × DepsOk 0 es
unfolding clock_ok
clock_good es h =
    let t : (leb (length es) 32 && rising 0 es) ≡ true = and_left _ _ h in
    (leb-true _ _ (and_left _ _ t), deps_of_lem 0 es (and_right (leb (length es) 32) (rising 0 es) t) (and_right (leb (length es) 32 && rising 0 es) (word_pairs es) h))

pub message_back : MessageBack
unfolding message_ok message_bytes get_body
message_back (hello es) h =
    let g : (length es ≤ 32) × DepsOk 0 es = clock_good es h in
    whole 0 (deps_bytes es) (hello es) _ refl
    (on _ (sym (clock_there (0 ∷ deps_bytes es) 1 32 es [] (omega arith) g.0 g.1 (stands 0 (deps_bytes es)))) refl)
message_back (delta rs) h =
    let k : length rs ≤ 64 = leb-true _ _ (and_left _ _ h) in
    let body : List ℕ = shortest (length rs) ++ rows_bytes rs in
    let e : drop 1 (1 ∷ body) ≡ shortest (length rs) ++ (rows_bytes rs ++ []) = ap (λ (t : List ℕ). shortest (length rs) ++ t) (sym (append-nil (rows_bytes rs))) in
    let l : length rs ≤ length (rows_bytes rs ++ []) = omega (arith, rows_long rs, ap length (append-nil (rows_bytes rs))) in
    let count = count_within_there (1 ∷ body) 1 4096 64 (length rs) (rows_bytes rs ++ []) (omega arith) (omega arith) k l e in
    let rows = rows_there (1 ∷ body) (1 + length (shortest (length rs))) rs [] (and_right (leb (length rs) 64) (all row_ok rs) h) (behind _ 1 (shortest (length rs)) _ e) in
    whole 1 body (delta rs) _ (simp length-append (omega arith)) (on _ (sym (on _ (sym count) rows)) refl)
message_back (ack es) h =
    let g : (length es ≤ 32) × DepsOk 0 es = clock_good es h in
    whole 2 (deps_bytes es) (ack es) _ refl
    (on _ (sym (clock_there (2 ∷ deps_bytes es) 1 32 es [] (omega arith) g.0 g.1 (stands 2 (deps_bytes es)))) refl)
message_back (ping n) h = whole 3 (shortest n) (ping n) _ refl (on _ (varint_there (3 ∷ shortest n) 1 n [] (ltb-true _ _ h) (stands 3 (shortest n))) refl)
message_back (pong n) h = whole 4 (shortest n) (pong n) _ refl (on _ (varint_there (4 ∷ shortest n) 1 n [] (ltb-true _ _ h) (stands 4 (shortest n))) refl)

-- ---- within the Rust's largest frame
ten : (v : ℕ) → v < 2 ^ 64 → length (shortest v) ≤ 10
ten v h = (one_to_ten v h).1

pairs_short : (lo : ℕ) (ds : List (ℕ × ℕ)) → DepsOk lo ds → length (pair_bytes ds) ≤ 20 * length ds
unfolding pair_bytes
pairs_short lo [] none = omega arith
pairs_short lo ((a, n) ∷ ds) (more h ha hn o) =
    omega (arith, ten a ha, ten n hn, pairs_short (suc a) ds o, length-append (shortest a) (shortest n ++ pair_bytes ds), length-append (shortest n) (pair_bytes ds))

deps_short : (ds : List (ℕ × ℕ)) (n : ℕ) → length ds ≤ n → n ≤ 64 → DepsOk 0 ds → length (deps_bytes ds) ≤ 10 + 20 * n
unfolding deps_bytes
deps_short ds n h k o = omega (arith, ten (length ds) (omega arith), pairs_short 0 ds o, length-append (shortest (length ds)) (pair_bytes ds))

sized_short : (b : List ℕ) (n : ℕ) → length b ≤ n → n ≤ 256 → length (sized b) ≤ 10 + n
unfolding sized
sized_short b n h k = omega (arith, ten (length b) (omega arith), length-append (shortest (length b)) b)

signed_short : (r : Row) → HeldGood (logged r) → length (signed_bytes r) ≤ 720
unfolding signed_bytes unsigned_bytes stamped_bytes
signed_short r g =
    let w = shortest r.stamp.wall_time in
    let c = shortest r.stamp.logical_counter in
    let t = shortest r.stamp.actor_id.0 in
    let a = shortest r.author in
    let q = shortest r.seq in
    let d = deps_bytes r.deps in
    let l : length (((w ++ (c ++ (t ++ (a ++ q)))) ++ (d ++ sized r.payload)) ++ sized r.signature)
    ≡ length w + (length c + (length t + (length a + length q))) + (length d + length (sized r.payload)) + length (sized r.signature) =
    simp length-append in
    omega (
      arith,
      ten _ g.wall,
      ten r.stamp.logical_counter (omega (arith, g.counter)),
      ten _ g.stamper,
      ten _ g.author,
      ten _ g.seq,
      deps_short r.deps 16 g.few.deps (omega arith) g.deps,
      sized_short r.payload 256 g.few.payload (omega arith),
      sized_short r.signature 64 g.few.signature (omega arith),
    )

rows_short : (rs : List Row) → all row_ok rs ≡ true → length (rows_bytes rs) ≤ 720 * length rs
unfolding rows_bytes all
rows_short [] h = omega arith
rows_short (r ∷ rs) h =
    omega
    (arith, signed_short r (row_good r (and_left _ _ h)), rows_short rs (and_right (row_ok r) (all row_ok rs) h), length-append (signed_bytes r) (rows_bytes rs))

pub message_short : (m : Message) → message_ok m ≡ true → length (message_bytes m) ≤ max_frame
unfolding message_ok message_bytes
message_short (hello es) h = let g : (length es ≤ 32) × DepsOk 0 es = clock_good es h in omega (arith, deps_short es 32 g.0 (omega arith) g.1)
message_short (delta rs) h =
    let k : length rs ≤ 64 = leb-true _ _ (and_left _ _ h) in
    omega (arith, ten (length rs) (omega arith), rows_short rs (and_right (leb (length rs) 64) (all row_ok rs) h), length-append (shortest (length rs)) (rows_bytes rs))
message_short (ack es) h = let g : (length es ≤ 32) × DepsOk 0 es = clock_good es h in omega (arith, deps_short es 32 g.0 (omega arith) g.1)
message_short (ping n) h = omega (arith, ten n (ltb-true _ _ h))
message_short (pong n) h = omega (arith, ten n (ltb-true _ _ h))

-- inside an envelope
pub frame_back : FrameBack
unfolding read_frame
frame_back m sender sig h k l =
    let x = envelope_back sender (message_bytes m) sig k (message_short m h) l in
    (x.0, rw (x.1, x.3, message_back m h), x.2, x.3, x.4)

pub calls_back : CallsBack
unfolding message_call
calls_back m clock rows h k l = rw (le-leb 520 (length clock) k, message_back m h, le-leb (704 * row_count m) (length rows) l)

-- 01: "{1: 0} compares Equal to {} yet is other content": it comes back
pub zero_kept : read_message (message_bytes (hello ((1, 0) ∷ []))) ≡ done (hello ((1, 0) ∷ []))
unfolding message_ok clock_ok rising word_pairs
zero_kept = message_back (hello ((1, 0) ∷ [])) refl

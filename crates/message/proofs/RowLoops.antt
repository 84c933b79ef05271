-- Rows that are read one behind the other: tested, and written to slots.
use Prim.Native.Nat.{ℕ, suc, ◌+◌, ◌-◌, ◌*◌, ◌≤◌, ◌<◌}
use mathlib.Core.Path.{◌≡◌, refl, sym, ◌∙◌, ap}
use mathlib.Core.List.{List, [], ◌∷◌, ◌++◌, append_assoc, append-nil}
use native.Mathlib.Omega.{arith}
use lib.ListN.{length, length-append}
use borrow.Rule.Slice.PartMut.{put_mid}
use Rattle.words.specs.Areas.{put_at}
use Rattle.words.proofs.Puts.{put_nil, put_put, length_put}
use Rattle.std.specs.Result.{IsOk}
use Rattle.error.specs.declared.Refusal.{Refusal}
use Rattle.std.specs.declared.result.Result.TheVariants.{Ok, Err}
use Rattle.error.specs.Answer.{done, refused, Got, got, bad, after}
use Rattle.codec.proofs.ReadSteps.{after_got, got_value, got_next}
use Rattle.row.specs.Rows.{Row, HeldRow, logged}
use Rattle.row.specs.Slots.{encode_held, encode_slots}
use Rattle.row.specs.Values.{row_of, OpFits}
use Rattle.row.specs.Inside.SlotParts.{held_of}
use Rattle.row.specs.declared.StampedOperation.{StampedOperation}
use Rattle.row.specs.declared.Held.{Held}
use Rattle.row.proofs.Operations.{fits_length, slot_put}
use Rattle.replicated_log.specs.Areas.{logged_rows}
use Rattle.message.specs.Reading.{get_signed, get_rows}
use Rattle.message.specs.Inside.ReaderParts.{signed_read_of, checked, Readable, rows_in}

-- ---- tested
kept : (row : Row) (g : Got (List Row)) → checked (after g (λ rows next. got (row ∷ rows) next)) ≡ checked g
unfolding checked
kept row (Ok (rs, n)) = refl
kept row (Err k) = refl

module _ (s : List ℕ) (n at : ℕ) where
  checked_more : {row : Row} {end : ℕ} → get_signed s at ≡ got row end → checked (get_rows s (suc n) at) ≡ checked (get_rows s n end)
  unfolding get_rows
  checked_more {row} {end} e = rw e (kept row (get_rows s n end))

  checked_stop : {k : Refusal} → get_signed s at ≡ bad k → checked (get_rows s (suc n) at) ≡ refused k
  unfolding get_rows checked
  checked_stop e = rw e

  checked_by : (g : Got Row) → get_signed s at ≡ g → checked (get_rows s (suc n) at) ≡ checked (after g (λ row end. get_rows s n end))
  unfolding checked
  checked_by (Ok (row, end)) e = checked_more e
  checked_by (Err k) e = checked_stop e

-- the next of n rows, of which i are tested
pub checked_next : (s : List ℕ) (n i next : ℕ) → i < n
    → checked (get_rows s (n - i) next) ≡ checked (after (get_signed s next) (λ row end. get_rows s (n - (i + 1)) end))
checked_next s n i next h = let z : n - i ≡ suc (n - (i + 1)) = omega arith in rw z (checked_by s (n - (i + 1)) next (get_signed s next) refl)

-- i of n rows are tested
pub record Checking (s : List ℕ) (at n next i : ℕ) : Type 0 where
  pub same : checked (get_rows s n at) ≡ checked (get_rows s (n - i) next)

-- to cite: the end, a refused row, a row that is read. The check of check_rows goes by checked_next alone.
module _ {s : List ℕ} {at n next i : ℕ} (g : Checking s at n next i) where
  pub checked_all : n ≤ i → done next ≡ checked (get_rows s n at)
  unfolding checked get_rows
  checked_all h = let z : n - i ≡ 0 = omega arith in rw (g.same, z)

  module _ (h : i < n) where
    pub checking_stops : {k : Refusal} → bad k ≡ get_signed s next → refused k ≡ checked (get_rows s n at)
    unfolding checked
    checking_stops e = rw (g.same, checked_next s n i next h, ← e)

    pub checking_more : {row : Row} {end : ℕ} → got row end ≡ get_signed s next → Checking s at n end (i + 1)
    checking_more e = record { same = g.same ∙ checked_next s n i next h ∙ rw (← e) }

-- ---- written
abbrev logged_held : StampedOperation → Held
logged_held o = record { op = o; arrived_ms = 0; outcome = 0; detail = 0 }

held_logged : (src : List ℕ) (o : StampedOperation) → held_of src (logged_held o) ≡ logged (row_of src o)
unfolding held_of
held_logged src o = refl

pub row_put : (u w m src : List ℕ) (o : StampedOperation) (a : ℕ) → u ≡ m → w ≡ encode_held (held_of src (logged_held o)) → OpFits src o
    → put_mid a (a + 704 - a) u w ≡ put_at m a (encode_held (logged (row_of src o)))
row_put u w m src o a p q f = slot_put u w m src (logged_held o) a p q f ∙ ap (λ (h : HeldRow). put_at m a (encode_held h)) (held_logged src o)

unfoldable pub slots_of : List Row → List ℕ
slots_of rs = encode_slots (logged_rows rs)

slots_more : (rs : List Row) (r : Row) → slots_of (rs ++ (r ∷ [])) ≡ slots_of rs ++ encode_held (logged r)
unfolding slots_of logged_rows encode_slots
slots_more [] r = append-nil (encode_held (logged r))
slots_more (x ∷ rs) r =
    ap (λ (t : List ℕ). encode_held (logged x) ++ t) (slots_more rs r) ∙ sym (append_assoc (encode_held (logged x)) (slots_of rs) (encode_held (logged r)))

-- i of n rows are written
pub record Writing (s : List ℕ) (at n : ℕ) (area₀ area : List ℕ) (next i : ℕ) : Type 0 where
  pub room : 704 * n ≤ length area₀
  pub written : List Row
  pub long : length (slots_of written) ≡ 704 * i
  pub rest : List Row
  pub end : ℕ
  pub left : get_rows s (n - i) next ≡ got rest end
  pub all : rows_in (get_rows s n at) ≡ written ++ rest
  pub put : area ≡ put_at area₀ 0 (slots_of written)

pub writing_none : (s : List ℕ) (at n : ℕ) (area : List ℕ) → Readable s at n → 704 * n ≤ length area → Writing s at n area area at 0
unfolding slots_of logged_rows encode_slots
writing_none s at n area r h =
    let z : n - 0 ≡ n = omega arith in
    record {
      room = h;
      written = [];
      long = refl;
      rest = r.rows;
      end = r.end;
      left = rw z r.is;
      all = ap rows_in r.is;
      put = put_nil area 0;
    }

module _ {s : List ℕ} {at n : ℕ} {area₀ area : List ℕ} {next i : ℕ} (g : Writing s at n area₀ area next i) where
  pub writing_size : i ≤ n → length area ≡ length area₀
  writing_size upto = ap length g.put ∙ length_put area₀ (slots_of g.written) 0 (omega (arith, g.room, g.long, upto))

  pub written_all : n ≤ i → area ≡ put_at area₀ 0 (encode_slots (logged_rows (rows_in (get_rows s n at))))
  unfolding get_rows slots_of
  written_all h =
      let z : n - i ≡ 0 = omega arith in
      let e : got [] next ≡ got g.rest g.end = rw z at g.left in
      let f : [] ≡ g.rest = got_value e in
      g.put ∙ ap (λ (rs : List Row). put_at area₀ 0 (encode_slots (logged_rows rs))) (sym (g.all ∙ ap (λ (rs : List Row). g.written ++ rs) (sym f) ∙ append-nil g.written))

  module _ (h : i < n) where
    -- the next row, and those behind it
    pub record Next : Type 0 where
      pub row : Row
      pub stop : ℕ
      pub is : get_signed s next ≡ got row stop
      pub rows : List Row
      pub behind : get_rows s (n - (i + 1)) stop ≡ got rows g.end
      pub split : row ∷ rows ≡ g.rest

    next_row : Next
    unfolding get_rows
    next_row =
        let z : n - i ≡ suc (n - (i + 1)) = omega arith in
        let e : after (get_signed s next) (λ row at. after (get_rows s (n - (i + 1)) at) (λ rows at. got (row ∷ rows) at)) ≡ got g.rest g.end = rw z at g.left in
        let x = after_got (get_signed s next) _ e in
        let y = after_got (get_rows s (n - (i + 1)) x.1) _ x.3 in
        let w : y.1 ≡ g.end = got_next y.3 in
        record { row = x.0; stop = x.1; is = x.2; rows = y.0; behind = y.2 ∙ ap (got y.0) w; split = got_value y.3 }

    -- it is read
    goes_on : (r : Got StampedOperation) → signed_read_of s r ≡ got next_row.row next_row.stop → IsOk r
    goes_on (Ok (o, end)) e = refl
    goes_on (Err k) e = absurd (let z : ◌≡◌ {A = ℕ} 0 1 = cc in omega arith)

    pub writing_goes_on : (r : Got StampedOperation) → signed_read_of s r ≡ get_signed s next → IsOk r
    writing_goes_on r e = goes_on r (e ∙ next_row.is)

    pub slot_room : 704 * (i + 1) ≤ length area
    slot_room = omega (arith, g.room, writing_size (omega arith))

    pub writing_more : {r : Got StampedOperation} (o : StampedOperation) {stop : ℕ} (area' : List ℕ) → signed_read_of s r ≡ get_signed s next → r ≡ got o stop → OpFits s o
        → area' ≡ put_at area (704 * i) (encode_held (logged (row_of s o))) → Writing s at n area₀ area' stop (i + 1)
    writing_more o {stop} area' e f fits p =
        let z : got next_row.row next_row.stop ≡ got (row_of s o) stop = sym next_row.is ∙ sym e ∙ ap (signed_read_of s) f in
        let a : next_row.row ≡ row_of s o = got_value z in
        let b : next_row.stop ≡ stop = got_next z in
        let slot : List ℕ = encode_held (logged (row_of s o)) in
        let l : length slot ≡ 704 = ap (λ (h : HeldRow). length (encode_held h)) (sym (held_logged s o)) ∙ fits_length s (logged_held o) fits in
        let m : slots_of (g.written ++ (row_of s o ∷ [])) ≡ slots_of g.written ++ slot = slots_more g.written (row_of s o) in
        record {
          room = g.room;
          written = g.written ++ (row_of s o ∷ []);
          long = ap length m ∙ length-append (slots_of g.written) slot ∙ omega (arith, g.long, l);
          rest = next_row.rows;
          end = g.end;
          left = ap (get_rows s (n - (i + 1))) (sym b) ∙ next_row.behind;
          all =
              g.all ∙ ap (λ (rs : List Row). g.written ++ rs) (sym next_row.split) ∙ ap (λ (x : Row). g.written ++ (x ∷ next_row.rows)) a
              ∙ sym (append_assoc g.written (row_of s o ∷ []) next_row.rows);
          put =
              p ∙ ap (λ (t : List ℕ). put_at t (704 * i) slot) g.put
              ∙ put_put area₀ (slots_of g.written) slot 0 (704 * i) (omega (arith, g.long)) (omega (arith, g.room)) ∙ ap (put_at area₀ 0) (sym m);
        }

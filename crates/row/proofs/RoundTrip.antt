-- What is written of a row is read back as the row. Where bytes stand is said by `drop at s ≡ bytes ++ rest`.
use Prim.Native.Nat.{ℕ, suc, ◌+◌, ◌-◌, ◌≤◌, ◌<◌, ◌^◌}
use mathlib.Core.Path.{◌≡◌, refl, sym, ◌∙◌, ap}
use mathlib.Core.Bool.{true}
use mathlib.Core.List.{List, [], ◌∷◌, ◌++◌, append_assoc}
use native.Mathlib.Omega.{arith}
use native.Mathlib.Numerals.{add-one}
use lib.ListN.{length, drop, get_or, length-append, length-drop}
use lib.Seq.{drop-append_seam, get_or-drop}
use borrow.Author.Tests.{le-leb}
use Rattle.error.specs.Answer.{got}
use Rattle.codec.specs.Leb128.{shortest}
use Rattle.codec.specs.Writing.{sized}
use Rattle.codec.specs.Reading.{part_of}
use Rattle.codec.proofs.ShortestForm.{some}
use Rattle.codec.proofs.RoundTrip.{behind, varint_there, u32_there, within, part_there}
use Rattle.codec.proofs.ReadSteps.{on, pass}
use Rattle.row.specs.Rows.{Row, logged, outcome_ok}
use Rattle.row.specs.Wire.{stamped_bytes, pair_bytes, deps_bytes, unsigned_bytes, signed_bytes}
use Rattle.row.specs.Reading.{unreadable, number, get_head, read_head, read_pair, read_pairs, read_deps, read_part, read_closing, batch_row, read_row}
use Rattle.words.proofs.Conjunction.{and_both}
use Rattle.row.proofs.DepsPairs.{DepsOk}
use Rattle.row.proofs.DepsPairs.DepsOk.{none, more}
use Rattle.row.proofs.WireLengths.{length_signed}
use Rattle.row.proofs.CanonicalSlot.{HeldGood}
use Rattle.row.proofs.RowBounds.{row_good}
use Rattle.row.specs.Inside.WireLengths.{signed_len}
use Rattle.row.specs.RoundTrip.{ReadBack}

module _ (s : List ℕ) (at : ℕ) where
  pub number_there : (v : ℕ) (q : List ℕ) → v < 2 ^ 64 → drop at s ≡ shortest v ++ q → number s at ≡ got v (at + length (shortest v))
  unfolding number
  number_there v q h e = ap unreadable (varint_there s at v q h e)

  -- a part of at most `limit` bytes
  pub sized_there : (limit : ℕ) (b q : List ℕ) → length b < 2 ^ 64 → length b ≤ limit → drop at s ≡ sized b ++ q
      → got (within at b) (at + length (sized b)) ≡ read_part s at limit
  unfolding read_part sized
  sized_there limit b q h k e =
      let f : drop at s ≡ shortest (length b) ++ (b ++ q) = e ∙ append_assoc (shortest (length b)) b q in
      let m : at + length (shortest (length b) ++ b) ≡ at + length (shortest (length b)) + length b = simp length-append (omega arith) in
      let l : length s - at ≡ length (shortest (length b)) + (length b + length q) =
      sym (length-drop at s) ∙ ap length f ∙ simp length-append in
      on _ (number_there (length b) (b ++ q) h f)
      (pass _ _ (le-leb (length b) limit k)
      (pass _ _ (le-leb (at + length (shortest (length b)) + length b) (length s) (omega (arith, some (length b))))
      (rw m)))

  -- the closing bytes
  pub closing_there : (v o d : ℕ) (q : List ℕ) → v ≤ 1 → outcome_ok o d ≡ true → drop at s ≡ v ∷ o ∷ d ∷ q
      → got (record { verdict = v; outcome = o; detail = d }) (at + 3) ≡ read_closing s at
  unfolding read_closing
  closing_there v o d q h k e =
      let l : length s - at ≡ 3 + length q = sym (length-drop at s) ∙ ap length e ∙ omega arith in
      let z : at + 0 ≡ at = omega arith in
      let x : get_or s at 0 ≡ v = ap (λ (n : ℕ). get_or s n 0) (sym z) ∙ sym (get_or-drop at s 0 0) ∙ ap (λ (t : List ℕ). get_or t 0 0) e in
      let y : get_or s (at + 1) 0 ≡ o = sym (get_or-drop at s 1 0) ∙ ap (λ (t : List ℕ). get_or t 1 0) e in
      let w : get_or s (at + 2) 0 ≡ d = sym (get_or-drop at s 2 0) ∙ ap (λ (t : List ℕ). get_or t 2 0) e in
      rw (x, y, w) (pass _ _ (le-leb (at + 3) (length s) (omega arith)) (pass _ _ (and_both _ _ (le-leb v 1 h) k) refl))

-- dependencies
pub pairs_there : (s : List ℕ) (at lo : ℕ) (ds : List (ℕ × ℕ)) (q : List ℕ) → DepsOk lo ds → drop at s ≡ pair_bytes ds ++ q
    → got ds (at + length (pair_bytes ds)) ≡ read_pairs s at lo (length ds)
unfolding read_pairs read_pair pair_bytes
pairs_there s at lo [] q none e = let z : at + 0 ≡ at = omega arith in rw z
pairs_there s at lo ((a, n) ∷ ds) q (more h ha hn o) e =
    let f : drop at s ≡ shortest a ++ (shortest n ++ (pair_bytes ds ++ q)) = e ∙ simp append_assoc in
    let g : drop (at + length (shortest a)) s ≡ shortest n ++ (pair_bytes ds ++ q) = behind s at (shortest a) _ f in
    let k : drop (at + length (shortest a) + length (shortest n)) s ≡ pair_bytes ds ++ q = behind s (at + length (shortest a)) (shortest n) _ g in
    let m : at + length (shortest a ++ (shortest n ++ pair_bytes ds)) ≡ at + length (shortest a) + length (shortest n) + length (pair_bytes ds) =
    simp length-append (omega arith) in
    let w : read_pairs s (at + length (shortest a) + length (shortest n)) (a + 1) (length ds) ≡ got ds (at + length (shortest a) + length (shortest n) + length (pair_bytes ds)) =
    rw add-one (sym (pairs_there s (at + length (shortest a) + length (shortest n)) (suc a) ds q o k)) in
    on _ (sym (on _ (number_there s at a _ ha f) (pass _ _ (le-leb lo a h) (on _ (number_there s (at + length (shortest a)) n _ hn g) refl))))
    (on _ w (rw m))

pub deps_there : (s : List ℕ) (at : ℕ) (ds : List (ℕ × ℕ)) (q : List ℕ) → length ds ≤ 16 → DepsOk 0 ds → drop at s ≡ deps_bytes ds ++ q
    → got ds (at + length (deps_bytes ds)) ≡ read_deps s at
unfolding read_deps deps_bytes
deps_there s at ds q h o e =
    let f : drop at s ≡ shortest (length ds) ++ (pair_bytes ds ++ q) = e ∙ append_assoc (shortest (length ds)) (pair_bytes ds) q in
    let m : at + length (shortest (length ds) ++ pair_bytes ds) ≡ at + length (shortest (length ds)) + length (pair_bytes ds) = simp length-append (omega arith) in
    on _ (number_there s at (length ds) _ (omega arith) f)
    (pass _ _ (le-leb (length ds) 16 h) (rw m (pairs_there s (at + length (shortest (length ds))) 0 ds q o (behind s at (shortest (length ds)) _ f))))

-- the five numbers that a row begins with
module _ (s : List ℕ) (r : Row) (g : HeldGood (logged r)) where
  module _ (at : ℕ) (q : List ℕ) (e : drop at s ≡ stamped_bytes r ++ q) where
    wall : List ℕ
    wall = shortest r.stamp.wall_time

    counter : List ℕ
    counter = shortest r.stamp.logical_counter

    stamper : List ℕ
    stamper = shortest r.stamp.actor_id.0

    author : List ℕ
    author = shortest r.author

    seq : List ℕ
    seq = shortest r.seq

    pub get_head_there : got (record { timestamp = r.stamp; actor = record { 0 = r.author }; seq = r.seq }) (at + length (stamped_bytes r)) ≡ get_head s at
    unfolding get_head stamped_bytes wall counter stamper author seq
    get_head_there =
        let e1 : drop at s ≡ wall ++ (counter ++ (stamper ++ (author ++ (seq ++ q)))) = e ∙ simp append_assoc in
        let e2 : drop (at + length wall) s ≡ counter ++ (stamper ++ (author ++ (seq ++ q))) = behind s at wall _ e1 in
        let e3 : drop (at + length wall + length counter) s ≡ stamper ++ (author ++ (seq ++ q)) = behind s (at + length wall) counter _ e2 in
        let e4 : drop (at + length wall + length counter + length stamper) s ≡ author ++ (seq ++ q) =
        behind s (at + length wall + length counter) stamper _ e3 in
        let e5 : drop (at + length wall + length counter + length stamper + length author) s ≡ seq ++ q =
        behind s (at + length wall + length counter + length stamper) author _ e4 in
        let m : at + length (wall ++ (counter ++ (stamper ++ (author ++ seq)))) ≡ at + length wall + length counter + length stamper + length author + length seq =
        simp length-append (omega arith) in
        on _ (varint_there s at _ _ g.wall e1)
        (on _ (u32_there s (at + length wall) _ _ g.counter e2)
        (on _ (varint_there s (at + length wall + length counter) _ _ g.stamper e3)
        (on _ (varint_there s (at + length wall + length counter + length stamper) _ _ g.author e4)
        (on _ (varint_there s (at + length wall + length counter + length stamper + length author) _ _ g.seq e5)
        (rw m)))))

    pub head_there : got (record { timestamp = r.stamp; actor = record { 0 = r.author }; seq = r.seq }) (at + length (stamped_bytes r)) ≡ read_head s at
    unfolding read_head
    head_there = ap unreadable get_head_there

  -- the whole row
  module _ (v o d at : ℕ) (q : List ℕ) (hv : v ≤ 1) (ho : outcome_ok o d ≡ true) (e : drop at s ≡ signed_bytes r ++ (v ∷ o ∷ d ∷ q)) where
    head : List ℕ
    head = stamped_bytes r

    deps : List ℕ
    deps = deps_bytes r.deps

    payload : List ℕ
    payload = sized r.payload

    signature : List ℕ
    signature = sized r.signature

    close : List ℕ
    close = v ∷ o ∷ d ∷ q

    deps_at_lem : ℕ
    deps_at_lem = at + length head

    payload_at_lem : ℕ
    payload_at_lem = deps_at_lem + length deps

    signature_at : ℕ
    signature_at = payload_at_lem + length payload

    closing_at : ℕ
    closing_at = signature_at + length signature

    head_stands : drop at s ≡ head ++ (deps ++ (payload ++ (signature ++ close)))
    unfolding signed_bytes unsigned_bytes head deps payload signature close
    head_stands = e ∙ simp append_assoc

    deps_stand : drop deps_at_lem s ≡ deps ++ (payload ++ (signature ++ close))
    unfolding deps_at_lem
    deps_stand = behind s at head _ head_stands

    payload_stands : drop payload_at_lem s ≡ payload ++ (signature ++ close)
    unfolding payload_at_lem
    payload_stands = behind s deps_at_lem deps _ deps_stand

    signature_stands : drop signature_at s ≡ signature ++ close
    unfolding signature_at
    signature_stands = behind s payload_at_lem payload _ payload_stands

    closing_stands : drop closing_at s ≡ v ∷ o ∷ d ∷ q
    unfolding closing_at close
    closing_stands = behind s signature_at signature _ signature_stands

    parts : batch_row s (record { timestamp = r.stamp; actor = record { 0 = r.author }; seq = r.seq }) r.deps (within payload_at_lem r.payload) (within signature_at r.signature) (record { verdict = v; outcome = o; detail = d })
        ≡ record { row = r; closing = record { verdict = v; outcome = o; detail = d } }
    unfolding payload signature
    parts =
        let p : part_of s (within payload_at_lem r.payload) ≡ r.payload = part_there s payload_at_lem r.payload _ payload_stands in
        let g : part_of s (within signature_at r.signature) ≡ r.signature = part_there s signature_at r.signature _ signature_stands in
        λ i. record {
          row = record { stamp = r.stamp; author = r.author; seq = r.seq; deps = r.deps; payload = p i; signature = g i };
          closing = record { verdict = v; outcome = o; detail = d };
        }

    end : closing_at + 3 ≡ at + signed_len r + 3
    unfolding closing_at signature_at payload_at_lem deps_at_lem head deps payload signature signed_bytes unsigned_bytes
    end =
        let l : length ((stamped_bytes r ++ (deps_bytes r.deps ++ sized r.payload)) ++ sized r.signature)
        ≡ length (stamped_bytes r) + (length (deps_bytes r.deps) + length (sized r.payload)) + length (sized r.signature) =
        simp length-append in
        omega (arith, length_signed r)

    pub row_there : read_row s at ≡ got (record { row = r; closing = record { verdict = v; outcome = o; detail = d } }) (at + signed_len r + 3)
    unfolding read_row head deps payload signature deps_at_lem payload_at_lem signature_at closing_at
    row_there =
        sym
        (on _ (sym (head_there at _ head_stands))
        (on _ (sym (deps_there s deps_at_lem r.deps _ g.few.deps g.deps deps_stand))
        (on _ (sym (sized_there s payload_at_lem 256 r.payload _ (omega (arith, g.few.payload)) g.few.payload payload_stands))
        (on _ (sym (sized_there s signature_at 64 r.signature _ (omega (arith, g.few.signature)) g.few.signature signature_stands))
        (on _ (sym (closing_there s closing_at v o d q hv ho closing_stands))
        (rw (← end, parts)))))))

-- what is written of a row that keeps the rules, with a closing that does, is read as this row
pub read_back : ReadBack
read_back p q r v o d h hv ho =
    row_there (p ++ ((signed_bytes r ++ (v ∷ o ∷ d ∷ [])) ++ q)) r (row_good r h) v o d (length p) q hv ho
    (drop-append_seam p ((signed_bytes r ++ (v ∷ o ∷ d ∷ [])) ++ q) ∙ append_assoc (signed_bytes r) (v ∷ o ∷ d ∷ []) q)
    ∙ rw (length_signed r)

-- 01: "Content is what step 2 compares; equal author, sequence and content make one row": what step 2 compares is the rest of a row.
use Prim.Native.Nat.{ℕ}
use mathlib.Core.Path.{◌≡◌, refl}
use mathlib.Core.Bool.{Bool, true, ◌&&◌}
use lib.Dec.{eqb}
use borrow.Author.Tests.{eqb-true, eq-eqb}
use Rattle.clock.specs.declared.stamp.Timestamp.{Timestamp}
use Rattle.row.specs.Rows.{Row}
use Rattle.row.proofs.ListTests as truths
use Rattle.words.proofs.Conjunction.{and_left, and_right, and_both}
use Rattle.replicated_log.specs.Store.{same_entries}
use Rattle.replicated_log.proofs.Store.Rules as rules
use Rattle.merging.specs.Merging.{same_stamp, same_content}
use Rattle.words.specs.Lists.{same}
use Rattle.merging.specs.Offers.{OneRow}

same_stamp_lem : (s t : Timestamp) → same_stamp s t ≡ true → s ≡ t
unfolding same_stamp
same_stamp_lem s t e =
    let f = and_left (eqb s.wall_time t.wall_time && eqb s.logical_counter t.logical_counter) _ e in
    let p : s.wall_time ≡ t.wall_time = eqb-true _ _ (and_left _ _ f) in
    let q : s.logical_counter ≡ t.logical_counter = eqb-true _ _ (and_right (eqb s.wall_time t.wall_time) _ f) in
    let r : s.actor_id.0 ≡ t.actor_id.0 =
    eqb-true _ _ (and_right (eqb s.wall_time t.wall_time && eqb s.logical_counter t.logical_counter) _ e) in
    λ i. record { wall_time = p i; logical_counter = q i; actor_id = record { 0 = r i } }

eqb_self : (n : ℕ) → eqb n n ≡ true
eqb_self n = eq-eqb n n refl

stamp_same : (s : Timestamp) → same_stamp s s ≡ true
unfolding same_stamp
stamp_same s =
    and_both _ _ (and_both _ _ (eqb_self s.wall_time) (eqb_self s.logical_counter)) (eqb_self s.actor_id.0)

content_same : (r : Row) → same_content r r ≡ true
unfolding same_content
content_same r =
    and_both _ _ (and_both _ _ (and_both _ _ (stamp_same r.stamp) (rules.same_refl r.deps)) (truths.same_refl r.payload))
    (truths.same_refl r.signature)

same_row : (r s : Row) → r.author ≡ s.author → r.seq ≡ s.seq → same_content r s ≡ true → r ≡ s
unfolding same_content
same_row r s a n e =
    let up_to : Bool = same_stamp r.stamp s.stamp && same_entries r.deps s.deps && same r.payload s.payload in
    let e₁ : same_stamp r.stamp s.stamp && same_entries r.deps s.deps && same r.payload s.payload ≡ true = and_left _ _ e in
    let e₂ : same_stamp r.stamp s.stamp && same_entries r.deps s.deps ≡ true = and_left _ _ e₁ in
    let t : r.stamp ≡ s.stamp = same_stamp_lem r.stamp s.stamp (and_left _ _ e₂) in
    let d : r.deps ≡ s.deps = rules.same_true r.deps s.deps (and_right (same_stamp r.stamp s.stamp) _ e₂) in
    let p : r.payload ≡ s.payload = truths.same_true r.payload s.payload (and_right (same_stamp r.stamp s.stamp && same_entries r.deps s.deps) _ e₁) in
    let g : r.signature ≡ s.signature = truths.same_true r.signature s.signature (and_right up_to _ e) in
    λ i. record { stamp = t i; author = a i; seq = n i; deps = d i; payload = p i; signature = g i }

pub one_row_lem : OneRow
one_row_lem r s = (λ h. same_row r s h.0 h.1 h.2, λ e. rw (← e) (refl, refl, content_same r))

-- Numbers written one after the other from the front of an output.
use Prim.Native.Nat.{ℕ, ◌+◌, ◌*◌, ◌≤◌}
use mathlib.Core.Path.{◌≡◌, refl, sym, ◌∙◌}
use mathlib.Core.List.{List, [], ◌∷◌, ◌++◌, append_assoc, append-nil}
use native.Mathlib.Omega.{arith}
use lib.ListN.{length, length-append}
use Rattle.words.specs.Be.{be64, bes}
use Rattle.words.specs.Areas.{put_at}
use Rattle.words.proofs.Puts.{put_nil, put_put, length_put, bes_append, length_bes, length_be}
use Rattle.sync.specs.Inside.DeltaSteps.{Puts}

-- k numbers of `whole` are written, and `left` is to come
pub record Listing (out₀ out whole left : List ℕ) (k : ℕ) : Type 0 where
  pub past : List ℕ
  pub whole_is : past ++ left ≡ whole
  pub count : k ≡ length past
  pub output_is : out ≡ put_at out₀ 0 (bes past)
  pub same : length out ≡ length out₀

bes_one : (v : ℕ) → bes (v ∷ []) ≡ be64 v
unfolding bes
bes_one v = append-nil (be64 v)

pub two_puts : (s : List ℕ) {t u : List ℕ} (at v w : ℕ) → at + 16 ≤ length s → t ≡ put_at s at (be64 v) → u ≡ put_at t (at + 8) (be64 w) → u ≡ put_at s at (bes (v ∷ w ∷ []))
unfolding bes
two_puts s at v w h e f =
    f ∙ rw (e, append-nil (be64 w)) (put_put s (be64 v) (be64 w) at (at + 8) (omega (arith, length_be v)) (omega (arith, length_be w)))

pub listing_start : (out whole : List ℕ) → Listing out out whole whole 0
unfolding bes
listing_start out whole = record { past = []; whole_is = refl; count = refl; output_is = put_nil out 0; same = refl }

module _ {out₀ out whole left : List ℕ} {k : ℕ} (l : Listing out₀ out whole left k) where
  pub listing_puts : (t rest vs : List ℕ) → left ≡ vs ++ rest → 8 * (k + length vs) ≤ length out₀ → t ≡ put_at out (8 * k) (bes vs)
      → Listing out₀ t whole rest (k + length vs)
  listing_puts t rest vs e h p =
      record {
        past = l.past ++ vs;
        whole_is = append_assoc l.past vs rest ∙ rw (← e) l.whole_is;
        count = simp length-append (omega (arith, l.count));
        output_is =
            p
            ∙ rw (l.output_is, bes_append l.past vs)
            (put_put out₀ (bes l.past) (bes vs) 0 (8 * k) (omega (arith, length_bes l.past, l.count)) (omega (arith, length_bes vs)));
        same = rw p (length_put out (bes vs) (8 * k) (omega (arith, length_bes vs, l.same)) ∙ l.same);
      }

  pub listing_put : (t rest : List ℕ) (v : ℕ) → left ≡ v ∷ rest → 8 * (k + 1) ≤ length out₀ → t ≡ put_at out (8 * k) (be64 v) → Listing out₀ t whole rest (k + 1)
  listing_put t rest v e h p = listing_puts t rest (v ∷ []) e h (rw (bes_one v) p)

  -- where all of it has room, what comes next has
  pub listing_room : (rest vs : List ℕ) → left ≡ vs ++ rest → 8 * length whole ≤ length out₀ → 8 * (k + length vs) ≤ length out₀
  listing_room rest vs e h =
      let f : length whole ≡ length l.past + (length vs + length rest) = rw (← l.whole_is, e) (simp length-append) in
      omega (arith, l.count)

  pub listing_on : (rest : List ℕ) → left ≡ rest → Listing out₀ out whole rest k
  listing_on rest e = record { past = l.past; whole_is = rw (← e) l.whole_is; count = l.count; output_is = l.output_is; same = l.same }

  pub listing_end : left ≡ [] → Puts out₀ whole k out
  listing_end e =
      let f : l.past ≡ whole = sym (append-nil l.past) ∙ (rw e at l.whole_is) in
      record { count = rw (← f) l.count; output_is = rw (← f) l.output_is }

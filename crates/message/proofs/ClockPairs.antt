-- Pairs of a clock, entered one by one.
use Prim.Native.Nat.{ℕ, zero, suc, ◌+◌, ◌-◌, ◌≤◌, ◌<◌, max}
use mathlib.Core.Path.{◌≡◌, sym, ◌∙◌, ap, subst}
use mathlib.Core.Bool.{true}
use mathlib.Core.List.{List, []}
use native.Mathlib.Omega.{arith}
use lib.ListN.{length, take}
use Rattle.std.proofs.lemmas.List.{take-take}
use Rattle.error.specs.declared.Refusal.{Refusal}
use Rattle.error.specs.Answer.{Answer, done, refused, nothing, ends, Got, got, bad}
use Rattle.clock.specs.declared.vector.VectorClock.{VectorClock}
use Rattle.clock.specs.Entries.{rising, get, enter}
use Rattle.clock.specs.Vector.{pairs, entries, clock_of, sound, grown}
use Rattle.clock.proofs.RisingAuthors.{Rises, none, rises_of, of_rises, put_rises}
use Rattle.clock.proofs.EntryLaws.{put_one}
use Rattle.clock.proofs.ClockEntries.{entries_of, sound_of, sound_rising}
use Rattle.clock.proofs.ClockCalls.{grown_fits}
use Rattle.codec.proofs.ReadSteps.{after_got, got_value}
use Rattle.message.specs.Reading.{get_pair, get_pairs, get_clock, count_within, max_deps}
use Rattle.message.specs.Inside.ReaderParts.{clock_by}
use Rattle.message.proofs.CountedReads.{CountGot, count_got}

-- entering keeps authors rising, and adds one at most
enter_rises : (a n : ℕ) (es : List (ℕ × ℕ)) → Rises 0 es → Rises 0 (enter es a n)
unfolding enter
enter_rises a n es r = put_rises 0 a (max (get es a) n) es (omega arith) r

enter_one : (a n : ℕ) (es : List (ℕ × ℕ)) → length (enter es a n) ≤ length es + 1
unfolding enter
enter_one a n es = put_one es a (max (get es a) n)

-- what is known of pairs that were read
pub record PairsGot (es : List (ℕ × ℕ)) (n : ℕ) (ds : List (ℕ × ℕ)) : Type 0 where
  pub rises : Rises 0 ds
  pub few : length ds ≤ length es + n

pub pairs_got : (s : List ℕ) (es : List (ℕ × ℕ)) (n at : ℕ) (ds : List (ℕ × ℕ)) (next : ℕ) → Rises 0 es → get_pairs s es n at ≡ got ds next → PairsGot es n ds
unfolding get_pairs
pairs_got s es zero at ds next r e =
    let z : es ≡ ds = got_value e in
    record { rises = subst (Rises 0) z r; few = omega (arith, ap length z) }
pairs_got s es (suc n) at ds next r e =
    let x = after_got (get_pair s at) _ e in
    let k = pairs_got s (enter es x.0.0 x.0.1) n x.1 ds next (enter_rises x.0.0 x.0.1 es r) x.3 in
    record { rises = k.rises; few = omega (arith, k.few, enter_one x.0.0 x.0.1 es) }

-- and of a clock
pub record ClockIs (ours : ℕ) (es : List (ℕ × ℕ)) : Type 0 where
  pub rises : rising 0 es ≡ true
  pub few : length es ≤ ours

pub clock_got : (ours : ℕ) (s : List ℕ) (at : ℕ) (es : List (ℕ × ℕ)) (next : ℕ) → get_clock ours s at ≡ got es next → ClockIs ours es
unfolding get_clock
clock_got ours s at es next e =
    let x = after_got (count_within max_deps ours s at) _ e in
    let k : CountGot ours s x.0 x.1 = count_got max_deps ours s at x.0 x.1 x.2 in
    let p : PairsGot [] x.0 es = pairs_got s [] x.0 x.1 es next none x.3 in
    record { rises = of_rises p.rises; few = omega (arith, p.few, k.few) }

-- i of n pairs are entered
pub record Entering (s : List ℕ) (first n : ℕ) (c : VectorClock) (next i : ℕ) : Type 0 where
  pub few : n ≤ 32
  pub keeps : sound c ≡ true
  pub whole : c ≡ clock_of (entries c)
  pub short : length (entries c) ≤ i
  pub same : get_pairs s [] n first ≡ get_pairs s (entries c) (n - i) next

-- the one clock with entries es, where i pairs are entered
entering : (s : List ℕ) (first n : ℕ) (c : VectorClock) (es : List (ℕ × ℕ)) (next i : ℕ) → c ≡ clock_of es → Rises 0 es → length es ≤ i → length es ≤ 32 → n ≤ 32
    → get_pairs s [] n first ≡ get_pairs s es (n - i) next → Entering s first n c next i
entering s first n c es next i e r l few k same =
    let z : entries c ≡ es = ap entries e ∙ entries_of es in
    record {
      few = k;
      keeps = subst (λ (d : VectorClock). sound d ≡ true) (sym e) (sound_of es (of_rises r) few);
      whole = e ∙ ap clock_of (sym z);
      short = omega (arith, ap length z);
      same = rw z same;
    }

pub entering_none : (s : List ℕ) (first n : ℕ) {c : VectorClock} → n ≤ 32 → c ≡ clock_of [] → Entering s first n c first 0
entering_none s first n {c} h e =
    let z : n - 0 ≡ n = omega arith in
    entering s first n c [] first 0 e none (omega arith) (omega arith) h (rw z)

module _ {s : List ℕ} {first n : ℕ} {c : VectorClock} {next i : ℕ} (g : Entering s first n c next i) where
  -- all are entered
  pub entered_all : n ≤ i → got c next ≡ clock_by (get_pairs s [] n first)
  unfolding clock_by get_pairs
  entered_all h =
      let z : n - i ≡ 0 = omega arith in
      ap (λ (d : VectorClock). got d next) g.whole ∙ rw (g.same, z)

  module _ (h : i < n) where
    rest : n - i ≡ suc (n - (i + 1))
    rest = omega arith

    pub entering_stops : {k : Refusal} → get_pair s next ≡ bad k → bad k ≡ clock_by (get_pairs s [] n first)
    unfolding clock_by get_pairs
    entering_stops e = rw (g.same, rest, e)

    module _ (a q end : ℕ) (e : get_pair s next ≡ got (a, q) end) where
      -- there is always room
      fits : length (enter (entries c) a q) ≤ 32
      fits = omega (arith, enter_one a q (entries c), g.short, g.few)

      -- the next is entered
      module _ {r : Answer Unit} {d : VectorClock} (f : ends r d ≡ grown c (enter (entries c) a q) nothing) where
        pub entering_more : Entering s first n d end (i + 1)
        unfolding get_pairs
        entering_more =
            entering s first n d (enter (entries c) a q) end (i + 1) (grown_fits c d _ fits f).1 (enter_rises a q (entries c) (rises_of 0 (entries c) (sound_rising c g.keeps)))
            (omega (arith, enter_one a q (entries c), g.short)) fits g.few (g.same ∙ rw (rest, e))

        pub entering_room : {k : Refusal} → r ≡ refused k → ⊥
        entering_room {k} h =
            let x : refused k ≡ done nothing = sym h ∙ (grown_fits c d _ fits f).0 in
            let z : ◌≡◌ {A = ℕ} 0 1 = cc in
            omega arith

-- what follows the count
module _ (ours : ℕ) (s : List ℕ) (at : ℕ) where
  pub no_count : {k : Refusal} → count_within max_deps ours s at ≡ bad k → bad k ≡ clock_by (get_clock ours s at)
  unfolding clock_by get_clock
  no_count e = rw e

  pub counted : {n first : ℕ} {g : Got VectorClock} → count_within max_deps ours s at ≡ got n first → g ≡ clock_by (get_pairs s [] n first) → g ≡ clock_by (get_clock ours s at)
  unfolding clock_by get_clock
  counted e f = rw e f

-- ---- as dependencies
-- the first sixteen places of two columns are copied
pub copied : (c : VectorClock) (ks qs : List ℕ) → c.count ≤ 16 → ks ≡ take 16 c.authors → qs ≡ take 16 c.numbers
    → pairs (take c.count ks) (take c.count qs) ≡ entries c
unfolding entries
copied c ks qs h k q = rw (k, q, take-take c.count 16 c.authors h, take-take c.count 16 c.numbers h)

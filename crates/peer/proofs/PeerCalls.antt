-- What a call answers for a record that keeps its rules, and for one that does not.
use Prim.Native.Nat.{◌≤◌, ◌<◌}
use mathlib.Core.Path.{◌≡◌, ◌∙◌}
use mathlib.Core.Bool.{Bool, true, false, ◌&&◌}
use lib.Dec.{leb}
use borrow.Author.Tests.{le-leb, lt-leb, leb-true}
use Rattle.error.specs.declared.Refusal.TheVariants.{UnsoundStore}
use Rattle.clock.specs.Vector.{sound}
use Rattle.words.proofs.Conjunction.{and_left, and_right}
use Rattle.peer.specs.declared.Peer.{Peer}
use Rattle.peer.specs.Peers.{peer_sound, on_sound}
use Rattle.error.specs.Answer.{ends, refused}
use Rattle.error.specs.declared.Ends.{Ends}

module _ (p : Peer) where
  pub sound_sent : 8 < p.outstanding.count → false ≡ peer_sound p
  unfolding peer_sound
  sound_sent h = rw (lt-leb p.outstanding.count 8 h)

  pub sound_answered : p.outstanding.count ≤ 8 → 8 < p.answered.count → false ≡ peer_sound p
  unfolding peer_sound
  sound_answered h k = rw (le-leb p.outstanding.count 8 h, lt-leb p.answered.count 8 k)

  pub sound_rest : (b : Bool) → p.outstanding.count ≤ 8 → p.answered.count ≤ 8 → b ≡ sound p.remote_clock → b ≡ peer_sound p
  unfolding peer_sound
  sound_rest b h k e = rw (le-leb p.outstanding.count 8 h, le-leb p.answered.count 8 k) e

module _ (p : Peer) (s : peer_sound p ≡ true) where
  pub few_sent : p.outstanding.count ≤ 8
  unfolding peer_sound
  few_sent = leb-true p.outstanding.count 8 (and_left _ _ (and_left _ _ s))

  pub few_answered : p.answered.count ≤ 8
  unfolding peer_sound
  few_answered = leb-true p.answered.count 8 (and_right (leb p.outstanding.count 8) _ (and_left _ _ s))

  pub clock_sound : sound p.remote_clock ≡ true
  unfolding peer_sound
  clock_sound = and_right (leb p.outstanding.count 8 && leb p.answered.count 8) _ s

  pub on_sound_lem : (a b : Ends Unit Peer) → a ≡ b → a ≡ on_sound p b
  unfolding on_sound
  on_sound_lem a b e = e ∙ rw s

pub unsound : (p : Peer) (a b : Ends Unit Peer) → peer_sound p ≡ false → a ≡ ends (refused UnsoundStore) p → a ≡ on_sound p b
unfolding on_sound
unsound p a b s e = e ∙ rw s

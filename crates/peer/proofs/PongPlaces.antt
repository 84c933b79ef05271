-- A pong against a record's lists: by what a search for the nonce finds.
use Prim.Native.Nat.{ℕ}
use mathlib.Core.Path.{◌≡◌, ◌∙◌}
use mathlib.Core.Bool.{true, false}
use lib.Dec.{eqb}
use Rattle.std.specs.Prelude.{Some}
use Rattle.std.specs.List.{position}
use Rattle.error.specs.declared.Refusal.TheVariants.{UnaskedPong}
use Rattle.peer.specs.declared.Peer.{Peer}
use Rattle.peer.specs.Peers.{nonces, push, contains, with_pings, take_pong}
use Rattle.peer.specs.Inside.NoncePlaces.{without}
use Rattle.peer.proofs.NonceLists.{found}
use Rattle.error.specs.Answer.{ends, done, refused, nothing}
use Rattle.error.specs.declared.Ends.{Ends}

module _ (p : Peer) (nonce : ℕ) where
  pub took_sent : (a : Ends Unit Peer) (q : Peer) (i : ℕ) → position (λ m. eqb m nonce) (nonces p.outstanding) ≡ Some i
      → q ≡ with_pings p p.last_ping_ms (without i (nonces p.outstanding)) (push (nonces p.answered) nonce) → a ≡ ends (done nothing) q → a ≡ take_pong p nonce
  unfolding take_pong
  took_sent a q i h e g =
      let s = found (nonces p.outstanding) nonce i h in
      g ∙ rw (s.0, e, s.2)

  pub took_again : (a : Ends Unit Peer) → contains nonce (nonces p.outstanding) ≡ false → contains nonce (nonces p.answered) ≡ true → a ≡ ends (done nothing) p
      → a ≡ take_pong p nonce
  unfolding take_pong
  took_again a h k g = g ∙ rw (h, k)

  pub took_none : (a : Ends Unit Peer) → contains nonce (nonces p.outstanding) ≡ false → contains nonce (nonces p.answered) ≡ false
      → a ≡ ends (refused UnaskedPong) p → a ≡ take_pong p nonce
  unfolding take_pong
  took_none a h k g = g ∙ rw (h, k)

use Rattle.std.proofs.Common.{arith}
use mathlib.Core.Path.{◌∙◌}
use mathlib.Core.List.{[], ◌∷◌}
use Rattle.words.specs.Be.{bes}
use Rattle.words.specs.Areas.{put_at}
use Rattle.peer.proofs.PeerArea.{peer_stored}
use Rattle.peer.proofs.raw.store_peer.Goals as goal

pub returns : goal.returns
returns c =
    peer_stored c.args.p (omega arith) (omega arith) (omega arith) (omega arith) c.args.s.now _ _ _ _ _ _ c.requires
    (c.put_words.ensures ∙ (λ i. put_at c.args.s.now 0 (bes (c.args.p.id.0 ∷ c.state_number.ensures i ∷ []))))
    c.store_clock.ensures c.put_words-2.ensures c.store_pings.ensures c.store_pings-2.ensures c.put_word.ensures

use Rattle.peer.proofs.PeerCalls.{sound_sent, sound_answered, sound_rest}
use Rattle.peer.proofs.Peer.is_sound.Goals as goal

pub returns-then-self-gt8 : goal.returns-then-self-gt8
returns-then-self-gt8 c = sound_sent _ c.if-self-gt8.true

pub returns-then-self-gt8-2 : goal.returns-then-self-gt8-2
returns-then-self-gt8-2 c = sound_answered _ c.if-self-gt8.false c.if-self-gt8-2.true

pub returns : goal.returns
returns c = sound_rest _ _ c.if-self-gt8.false c.if-self-gt8-2.false c.is_sound.ensures

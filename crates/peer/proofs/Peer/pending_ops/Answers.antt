use mathlib.Core.Path.{sym, ◌∙◌, ap}
use native.Mathlib.Omega.{arith}
use Rattle.error.specs.Answer.{done}
use Rattle.error.proofs.Exits.{handed_on}
use Rattle.peer.proofs.PeerCalls.{clock_sound}
use Rattle.peer.proofs.PendingCount.{pending_refused, pending_done}
use Rattle.replicated_log.proofs.Calls.Queries.{passed, stopped}
use Rattle.replicated_log.proofs.Store.Soundness.{log_slots}
use Rattle.replicated_log.specs.Areas.{areas}
use Rattle.replicated_log.proofs.Store.Encoding.{capacity_room}
use Rattle.peer.proofs.Peer.pending_ops.Goals as goal

pub returns-in_err-check_store : goal.returns-in_err-check_store
returns-in_err-check_store c =
    let args = c.args in
    let store = areas args.log.now args.held.now args.head.now in
    handed_on c.from_residual.ensures ∙ pending_refused args.self store _ (stopped store c.in_err-check_store.ensures)

pub returns-then-not-is_sound : goal.returns-then-not-is_sound
returns-then-not-is_sound c =
    let args = c.args in
    let store = areas args.log.now args.held.now args.head.now in
    pending_done args.self store _ (passed store c.in_ok-check_store.ensures).read (rw (sym c.is_sound.ensures ∙ c.if-not-is_sound.true))

pub get_word-n-requires : goal.get_word-n-requires
get_word-n-requires c =
    let args = c.args in
    let store = areas args.log.now args.held.now args.head.now in
    omega (arith, (passed store c.in_ok-check_store.ensures).long.head)

pub count_beyond-requires : goal.count_beyond-requires
count_beyond-requires c =
    let args = c.args in
    let store = areas args.log.now args.held.now args.head.now in
    let known = passed store c.in_ok-check_store.ensures in
    (omega (arith, c.get_word-n.ensures, known.ok.log_few, capacity_room store.log), rw c.get_word-n.ensures (log_slots store known.ok), clock_sound args.self (sym c.is_sound.ensures ∙ c.if-not-is_sound.false))

pub returns : goal.returns
returns c =
    let args = c.args in
    let store = areas args.log.now args.held.now args.head.now in
    pending_done args.self store _ (passed store c.in_ok-check_store.ensures).read (rw (sym c.is_sound.ensures ∙ c.if-not-is_sound.false, ← c.get_word-n.ensures) (ap done c.count_beyond.ensures))

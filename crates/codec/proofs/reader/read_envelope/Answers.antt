use mathlib.Core.Path.{refl, sym, ◌∙◌}
use Rattle.error.proofs.Exits.{handed_on}
use Rattle.codec.specs.Reading.{get_varint, get_bytes}
use Rattle.codec.specs.Envelopes.{max_frame, max_signature}
use Rattle.codec.specs.Inside.EnvelopeParts.{read_parts}
use Rattle.codec.proofs.ReadSteps.{on, off, shut, next, halt, sender_read, sender_refused}
use Rattle.codec.proofs.ReaderSteps.{value_read, read_refused}
use Rattle.codec.proofs.reader.read_envelope.Goals as goal

pub returns-in_err-varint : goal.returns-in_err-varint
returns-in_err-varint c =
    handed_on c.from_residual.ensures ∙ sender_refused _ (rw c.new-r.ensures.1 at (read_refused get_varint c.new-r.ensures.0 c.in_err-varint.ensures))

pub returns-in_err-body : goal.returns-in_err-body
unfolding read_parts
returns-in_err-body c =
    let sender = value_read get_varint c.new-r.ensures.0 c.in_ok-varint.ensures in
    let body = read_refused (λ s at. get_bytes s at max_frame) sender.1 c.in_err-body.ensures in
    handed_on c.from_residual-in_err-body.ensures ∙ shut _ (off _ body) refl ∙ sender_read _ (rw c.new-r.ensures.1 at sender.0)

pub returns-in_err-sig : goal.returns-in_err-sig
unfolding read_parts
returns-in_err-sig c =
    let sender = value_read get_varint c.new-r.ensures.0 c.in_ok-varint.ensures in
    let body = value_read (λ s at. get_bytes s at max_frame) sender.1 c.in_ok-body.ensures in
    let sig = read_refused (λ s at. get_bytes s at max_signature) body.1 c.in_err-sig.ensures in
    handed_on c.from_residual-in_err-sig.ensures ∙ shut _ (on _ body.0 (off _ sig)) refl ∙ sender_read _ (rw c.new-r.ensures.1 at sender.0)

pub returns-in_err-finish : goal.returns-in_err-finish
unfolding read_parts
returns-in_err-finish c =
    let sender = value_read get_varint c.new-r.ensures.0 c.in_ok-varint.ensures in
    let body = value_read (λ s at. get_bytes s at max_frame) sender.1 c.in_ok-body.ensures in
    let sig = value_read (λ s at. get_bytes s at max_signature) body.1 c.in_ok-sig.ensures in
    handed_on c.from_residual-in_err-finish.ensures
    ∙ shut _ (on _ body.0 (on _ sig.0 refl)) (halt _ (sym (rw sig.1 at c.in_err-finish.ensures)))
    ∙ sender_read _ (rw c.new-r.ensures.1 at sender.0)

pub returns : goal.returns
unfolding read_parts
returns c =
    let sender = value_read get_varint c.new-r.ensures.0 c.in_ok-varint.ensures in
    let body = value_read (λ s at. get_bytes s at max_frame) sender.1 c.in_ok-body.ensures in
    let sig = value_read (λ s at. get_bytes s at max_signature) body.1 c.in_ok-sig.ensures in
    shut _ (on _ body.0 (on _ sig.0 refl)) (next _ (sym (rw sig.1 at c.in_ok-finish.ensures)) refl)
    ∙ sender_read _ (rw c.new-r.ensures.1 at sender.0)

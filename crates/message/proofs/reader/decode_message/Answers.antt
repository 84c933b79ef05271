use mathlib.Core.Path.{refl, sym, ◌∙◌}
use Rattle.error.proofs.Exits.{handed_on}
use Rattle.codec.proofs.ReadSteps.{next, halt}
use Rattle.message.proofs.Bodies.{no_tag, ping_read, pong_read, closed_refused, closed_over, closed_body}
use Rattle.message.proofs.Decoding.{told, told_refused, hello_told, ack_told, delta_told_lem, ping_told, pong_told, short_clock, unread, short_rows, read_hello, read_ack, read_delta, read_ping, read_pong, is_delta}
use Rattle.message.proofs.reader.decode_message.Goals as goal

pub returns-then-clock-lt520 : goal.returns-then-clock-lt520
returns-then-clock-lt520 c = short_clock _ _ _ _ _ c.if-clock-lt520.true refl refl

pub returns-in_err-tag : goal.returns-in_err-tag
returns-in_err-tag c =
    unread _ _ _ c.if-clock-lt520.false _ _ (handed_on c.from_residual.ensures) (no_tag _ (sym c.in_err-tag.ensures)) refl refl

pub returns-in_err-nonce : goal.returns-in_err-nonce
returns-in_err-nonce c =
    unread _ _ _ c.if-clock-lt520.false _ _ (handed_on c.from_residual-in_err-nonce.ensures)
    (ping_read _ (sym c.in_ok-tag.ensures) c.if-tag-eq3.true ∙ sym (halt _ (sym c.in_err-nonce.ensures))) refl refl

pub returns-then-tag-eq3 : goal.returns-then-tag-eq3
returns-then-tag-eq3 c =
    read_ping _ _ _ c.if-clock-lt520.false _ _ (ping_read _ (sym c.in_ok-tag.ensures) c.if-tag-eq3.true ∙ sym (next _ (sym c.in_ok-nonce.ensures) refl)) refl refl

pub returns-in_err-nonce-2 : goal.returns-in_err-nonce-2
returns-in_err-nonce-2 c =
    unread _ _ _ c.if-clock-lt520.false _ _ (handed_on c.from_residual-in_err-nonce-2.ensures)
    (pong_read _ (sym c.in_ok-tag.ensures) c.if-tag-eq4.true ∙ sym (halt _ (sym c.in_err-nonce-2.ensures))) refl refl

pub returns-then-tag-eq4 : goal.returns-then-tag-eq4
returns-then-tag-eq4 c =
    read_pong _ _ _ c.if-clock-lt520.false _ _ (pong_read _ (sym c.in_ok-tag.ensures) c.if-tag-eq4.true ∙ sym (next _ (sym c.in_ok-nonce-2.ensures) refl)) refl refl

pub returns-in_err-told : goal.returns-in_err-told
returns-in_err-told c =
    unread _ _ _ c.if-clock-lt520.false _ _ (handed_on c.from_residual-in_err-told.ensures)
    (told_refused _ (closed_refused _ (sym c.in_ok-tag.ensures) c.in_err-told.ensures)) refl refl

pub returns-in_err-finish : goal.returns-in_err-finish
returns-in_err-finish c =
    unread _ _ _ c.if-clock-lt520.false _ _ (handed_on c.from_residual-in_err-finish.ensures)
    (told_refused _ (closed_over _ (sym c.in_ok-tag.ensures) c.in_ok-told.ensures c.in_err-finish.ensures)) refl refl

pub returns-then-rows-n : goal.returns-then-rows-n
returns-then-rows-n c =
    let w = delta_told_lem (told _ (closed_body _ (sym c.in_ok-tag.ensures) c.in_ok-told.ensures c.in_ok-finish.ensures)) c.in-Delta.is in
    short_rows _ _ _ c.if-clock-lt520.false _ _ w.rs w.is w.count c.if-rows-n.true refl refl

pub write_delta-requires : goal.write_delta-requires
write_delta-requires c =
    let w = delta_told_lem (told _ (closed_body _ (sym c.in_ok-tag.ensures) c.in_ok-told.ensures c.in_ok-finish.ensures)) c.in-Delta.is in
    is_delta _ _ w.rs w.is w.count c.if-rows-n.false

pub returns-in-Hello : goal.returns-in-Hello
returns-in-Hello c =
    let w = hello_told (told _ (closed_body _ (sym c.in_ok-tag.ensures) c.in_ok-told.ensures c.in_ok-finish.ensures)) c.in-Hello.is in
    read_hello _ _ _ c.if-clock-lt520.false _ _ w.es w.is w.clock c.store_clock.ensures refl

pub returns-else-rows-n : goal.returns-else-rows-n
returns-else-rows-n c =
    let w = delta_told_lem (told _ (closed_body _ (sym c.in_ok-tag.ensures) c.in_ok-told.ensures c.in_ok-finish.ensures)) c.in-Delta.is in
    read_delta _ _ _ c.if-clock-lt520.false _ _ w.rs w.is w.count c.if-rows-n.false refl c.write_delta.ensures

pub returns-in-Ack : goal.returns-in-Ack
returns-in-Ack c =
    let w = ack_told (told _ (closed_body _ (sym c.in_ok-tag.ensures) c.in_ok-told.ensures c.in_ok-finish.ensures)) c.in-Ack.is in
    read_ack _ _ _ c.if-clock-lt520.false _ _ w.es w.is w.clock c.store_clock-in-Ack.ensures refl

pub returns-in-Ping : goal.returns-in-Ping
returns-in-Ping c = read_ping _ _ _ c.if-clock-lt520.false _ _ (ping_told (told _ (closed_body _ (sym c.in_ok-tag.ensures) c.in_ok-told.ensures c.in_ok-finish.ensures)) c.in-Ping.is) refl refl

pub returns-in-Pong : goal.returns-in-Pong
returns-in-Pong c = read_pong _ _ _ c.if-clock-lt520.false _ _ (pong_told (told _ (closed_body _ (sym c.in_ok-tag.ensures) c.in_ok-told.ensures c.in_ok-finish.ensures)) c.in-Pong.is) refl refl

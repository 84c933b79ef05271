use Rattle.std.proofs.Common.{arith}
use Rattle.batch.specs.Settings.{limits_of}
use Rattle.batch.proofs.Validation.{value_length, zero_sequence, foreign_stamp, spent_counter, payload_too_large, too_many_causes, own_future_lem, ahead_of_time, bad_signature, valid_row}
use Rattle.batch.proofs.limits.validate.Goals as goal

pub returns-then-seq-eq0 : goal.returns-then-seq-eq0
returns-then-seq-eq0 c = zero_sequence _ _ _ _ c.if-seq-eq0.true

pub returns-then-stamp-actor : goal.returns-then-stamp-actor
returns-then-stamp-actor c = foreign_stamp _ _ _ _ c.if-seq-eq0.false c.if-stamp-actor.true

pub returns-then-stamp : goal.returns-then-stamp
returns-then-stamp c = spent_counter _ _ _ _ c.if-seq-eq0.false c.if-stamp-actor.false c.if-stamp.true

pub returns-then-op-limits : goal.returns-then-op-limits
unfolding limits_of
returns-then-op-limits c = payload_too_large _ _ _ _ c.if-seq-eq0.false c.if-stamp-actor.false c.if-stamp.false c.if-op-limits.true

pub returns-then-deps-limits : goal.returns-then-deps-limits
unfolding limits_of
returns-then-deps-limits c =
    too_many_causes _ _ _ _ c.if-seq-eq0.false c.if-stamp-actor.false c.if-stamp.false c.if-op-limits.false (value_length _ (omega arith) (omega arith) c.requires) c.if-deps-limits.true

pub returns-then-own_future : goal.returns-then-own_future
unfolding limits_of
returns-then-own_future c =
    own_future_lem _ _ _ _ c.if-seq-eq0.false c.if-stamp-actor.false c.if-stamp.false c.if-op-limits.false (value_length _ (omega arith) (omega arith) c.requires) c.if-deps-limits.false c.own_future.ensures c.if-own_future.true

pub returns-then-stamp-saturating_add : goal.returns-then-stamp-saturating_add
unfolding limits_of
returns-then-stamp-saturating_add c =
    ahead_of_time _ _ _ _ c.if-seq-eq0.false c.if-stamp-actor.false c.if-stamp.false c.if-op-limits.false (value_length _ (omega arith) (omega arith) c.requires) c.if-deps-limits.false c.own_future.ensures c.if-own_future.false c.saturating_add.ensures (omega arith)

pub returns-then-verdict-ne1 : goal.returns-then-verdict-ne1
unfolding limits_of
returns-then-verdict-ne1 c =
    bad_signature _ _ _ _ c.if-seq-eq0.false c.if-stamp-actor.false c.if-stamp.false c.if-op-limits.false (value_length _ (omega arith) (omega arith) c.requires) c.if-deps-limits.false c.own_future.ensures c.if-own_future.false c.saturating_add.ensures (omega arith) c.if-verdict-ne1.true

pub returns : goal.returns
unfolding limits_of
returns c =
    valid_row _ _ _ _ c.if-seq-eq0.false c.if-stamp-actor.false c.if-stamp.false c.if-op-limits.false (value_length _ (omega arith) (omega arith) c.requires) c.if-deps-limits.false c.own_future.ensures c.if-own_future.false c.saturating_add.ensures (omega arith) c.if-verdict-ne1.false

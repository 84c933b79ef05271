use mathlib.Core.Path.{refl, sym, ◌∙◌}
use native.Mathlib.Omega.{arith}
use Rattle.working.proofs.ScratchColumns.{refs_of, ref_there}
use Rattle.working.proofs.ReferenceRows.{read_of}
use Rattle.working.proofs.FirstReference.{found_below}
use Rattle.working.proofs.Entrance.{read_inside, read_fits, key_ref, ref_read, admit_old, admit_same, admit_other, admit_new}
use Rattle.working.proofs.entering.admit_one.Goals as goal

pub returns-then-seq-have : goal.returns-then-seq-have
returns-then-seq-have c =
    admit_old _ _ _ _ _ _ _ _ _ _ (read_of _ c.requires.1).2 _ c.batch_key-key.ensures _ c.clock_get-have.ensures (omega arith) refl c.requires.4

pub overflow_add-at : goal.overflow_add-at
overflow_add-at c =
    omega (arith, read_inside c.args.batch.now c.args.at c.requires.1)

pub returns-in_default : goal.returns-in_default
returns-in_default c =
    admit_new _ _ _ _ _ _ _ _ _ _ (read_of _ c.requires.1).2 _ c.batch_key-key.ensures _ c.clock_get-have.ensures (omega arith) (sym c.in_default.is ∙ c.seek.ensures _ _ _ c.requires.4) (c.enter.ensures _ _ (record { refs = c.requires.0.refs; keyed = c.requires.4; ok = ref_read _ _ _ c.requires.1; own = key_ref _ _ _ _ c.batch_key-key.ensures }))

pub overflow_mul-j : goal.overflow_mul-j
overflow_mul-j c =
    omega (arith, found_below _ _ _ _ (sym c.in-Some.is ∙ c.seek.ensures _ _ _ c.requires.4))

pub get_word-k-requires : goal.get_word-k-requires
get_word-k-requires c =
    omega (arith, found_below _ _ _ _ (sym c.in-Some.is ∙ c.seek.ensures _ _ _ c.requires.4), c.requires.0.room)

pub same_ref-requires : goal.same_ref-requires
same_ref-requires c =
    (ref_there _ _ _ _ _ _ (refs_of _ _ _ c.requires.0.refs) (found_below _ _ _ _ (sym c.in-Some.is ∙ c.seek.ensures _ _ _ c.requires.4)) c.get_word-k.ensures, read_fits _ _ _ _ (rw c.unwrap.ensures at c.read_row.ensures))

pub returns-then-same_ref : goal.returns-then-same_ref
returns-then-same_ref c =
    admit_same _ _ _ _ _ _ _ _ _ _ (read_of _ c.requires.1).2 _ c.batch_key-key.ensures _ c.clock_get-have.ensures (omega arith) _ _ (rw c.unwrap.ensures at c.read_row.ensures) _ _ (sym c.in-Some.is ∙ c.seek.ensures _ _ _ c.requires.4) c.get_word-k.ensures _ c.same_ref.ensures c.if-same_ref.true refl c.requires.4

pub returns : goal.returns
returns c =
    admit_other _ _ _ _ _ _ _ _ _ _ (read_of _ c.requires.1).2 _ c.batch_key-key.ensures _ c.clock_get-have.ensures (omega arith) _ _ (rw c.unwrap.ensures at c.read_row.ensures) _ _ (sym c.in-Some.is ∙ c.seek.ensures _ _ _ c.requires.4) c.get_word-k.ensures _ c.same_ref.ensures c.if-same_ref.false

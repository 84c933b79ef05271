-- Demand 3 of document 01, "Call lists and fair offers", with the sealings and the joined call of document 02, for two whole lists of calls over bytes.
-- `Demand3` and all that it names stand in specs/Offers.antt; sentence by sentence:
--
-- "A call list is any list of batch calls and floor settings on one store, refused ones included"           Call; the lists cs₁ and cs₂
-- "It starts from an empty store: no row logged or held, no number in the clock, no watermark"              Empty a₁, Empty a₂; any floor
-- "Each call gets the store as the last one returned or left it, and nothing else writes that store"        run_calls, by delta_call, set_floor_call and seal_call
-- "batch, settings, time, floor and the other areas are any at all"                                         AllGiven: a batch's bytes are bytes, the time
--                                                                                                           and a stamp's numbers fit their widths
-- "A row is offered to a store when an accepted batch of its list holds it"                                 offered a₁ cs₁, offered a₂ cs₂
-- "Content is what step 2 compares; equal author, sequence and content make one row"                        equality of rows: one_row_lem in RowContent
-- "fair when no author and sequence is offered with two contents, in one store or across both"              OneContent of both lists' offers
-- "within each list the times of accepted batches span at most the least pending age among those batches"   Spans (accepted a₁ cs₁), and of a₂, cs₂
-- 02: "A desk's own row, sealed as prepared, counts as offered to its store if neither it nor a row
-- depending on it or later by its author was offered there before sealing, and the number last issued is
-- the author's number in that store's log clock at sealing, 0 if absent"                                     Own, with SealedAsPrepared; offered
-- 02: "In a call list of demand 3 such a sealing, or a refused one, may stand beside batch calls and floor
-- settings, and no other sealing may"                                                                       AllMayStand a₁ [] cs₁, and of a₂, cs₂. That it asks no
--                                                                                                           more than this: own_may_stand and refused_may_stand
--                                                                                                           in OwnRows
-- 02: "What is said about two stores covers the joined call; hybrid clocks are no part of that comparison"   Call.batch has any hybrid clock; Follows and Agree
--                                                                                                           name none
-- 01: "Causal listing: a list of rows offered to the store, not necessarily all, without repeats, each its
-- author's next number from 1, each dependency at most the number of that author's rows before it"          CausalListing
-- the log holds exactly the rows that a causal listing ends in, in one order; the clock is the log's; the
-- held rows are the other offered rows, in one order                                                        Follows, of each store
-- "Logs and held rows are compared row by row in their order, by author, sequence and content;
-- the clock is the log's. Arrival times and outcomes of held rows are not compared"                         Agree, of the two stores
use mathlib.Core.Path.{◌≡◌, refl}
use mathlib.Core.Bool.{true}
use Rattle.std.specs.declared.option.Option.TheVariants.{None}
use mathlib.Core.List.Memᴰ
use mathlib.Core.List.{List, []}
use native.Mathlib.Omega.{arith}
use Rattle.clock.specs.Entries.{rising}
use Rattle.row.specs.Rows.{word_pairs}
use Rattle.replicated_log.specs.Store.{derive, never_falls, same_entries, held_rise, no_twice, marks_rise, floor_ok, clock_ok, rules}
use Rattle.replicated_log.specs.Areas.{Areas, long_enough, write_store}
use Rattle.replicated_log.proofs.Store.Encoding.{read_write}
use Rattle.merging.specs.Offers.{Call, Empty, run_calls, offered, accepted, AllGiven, AllMayStand, Demand3}
use Rattle.merging.specs.Group.{empty_store}
use Rattle.merging.proofs.StoreRuns.{Run, good, one_part}
use Rattle.merging.proofs.StoreAgreement.{follows, agree}
use Rattle.merging.proofs.AreasToStores.{Reaches, after_calls}
use Rattle.words.specs.Lists.{all}

-- one list of calls: the store that the areas hold at its end, and the run that led there
pub reached : (a : Areas) (cs : List Call) → AllGiven cs → AllMayStand a [] cs → Empty a → Reaches (run_calls a cs) (offered a cs) (accepted a cs)
reached a cs given may empty =
    after_calls cs given a [] [] may
    (record { store = empty.store; holds = empty.holds; run = Run.start empty.log empty.held empty.clock empty.marks })

pub convergence : Demand3
convergence a₁ a₂ cs₁ cs₂ given₁ given₂ empty₁ empty₂ may₁ may₂ one spans₁ spans₂ =
    let r₁ = reached a₁ cs₁ given₁ may₁ empty₁ in
    let r₂ = reached a₂ cs₂ given₂ may₂ empty₂ in
    let g₁ = good r₁.run (one_part (λ y m. Memᴰ.append_left (offered a₂ cs₂) m) one) spans₁ in
    let g₂ = good r₂.run (one_part (λ y m. Memᴰ.append_right (offered a₁ cs₁) m) one) spans₂ in
    let f₁ = follows (offered a₁ cs₁) r₁.store g₁.ended in
    let f₂ = follows (offered a₂ cs₂) r₂.store g₂.ended in
    record {
      store₁ = r₁.store;
      store₂ = r₂.store;
      holds₁ = r₁.holds;
      holds₂ = r₂.holds;
      follows₁ = f₁;
      follows₂ = f₂;
      agree = agree (offered a₁ cs₁) (offered a₂ cs₂) r₁.store r₂.store g₁.ended.inv.rises g₂.ended.inv.rises f₁ f₂;
    }

-- ---- there are empty stores: areas that are long enough, with nothing written to them

pub empty_rules : rules (empty_store None) ≡ true
unfolding rules derive all never_falls same_entries held_rise no_twice marks_rise floor_ok clock_ok rising word_pairs
empty_rules = refl

pub empty_areas : (a : Areas) → long_enough a ≡ true → Empty (write_store a (empty_store None))
empty_areas a long =
    record {
      store = empty_store None;
      holds = read_write a (empty_store None) long empty_rules (omega arith);
      log = refl;
      held = refl;
      clock = refl;
      marks = refl;
    }

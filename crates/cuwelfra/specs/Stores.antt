-- The exported calls on rows and stores as numbers.
use Rattle.std.specs.declared.option.Option.TheVariants.{None, Some}
use Rattle.std.specs.Prelude.{length}
use Rattle.words.specs.Names.{Bytes, Area, Position, Clock}
use Rattle.words.specs.Areas.{put_at}
use Rattle.error.specs.declared.Refusal.TheVariants.{ShortArea}
use Rattle.error.specs.Numbers.{told_of}
use Rattle.std.specs.declared.result.Result.TheVariants.{Ok, Err}
use Rattle.error.specs.Answer.{Answer, done, refused, unless, accepted, ends, Got}
use Rattle.error.specs.declared.Ends.{Ends}
use Rattle.clock.specs.Vector.{clock_of}
use Rattle.clock.specs.Area.{clock_bytes}
use Rattle.row.specs.Rows.{Row}
use Rattle.row.specs.Reading.{BatchRow}
use Rattle.row.specs.Calls.{write_op, written_by, read_op, slot_by}
use Rattle.replicated_log.specs.Store.{MaybeStamp}
use Rattle.replicated_log.specs.Areas.{Areas}
use Rattle.replicated_log.specs.Calls.{Found, logged, held, absent, payload_at}
use Rattle.cuwelfra.specs.Vectors.{long}
use Rattle.cuwelfra.specs.declared.store.StampTold.{StampTold}
use Rattle.cuwelfra.specs.declared.store.LookupTold.{LookupTold}
use Rattle.cuwelfra.specs.declared.rows.OpTold.{OpTold}

abbrev pub stamp_told : Answer MaybeStamp → StampTold
stamp_told (Ok None) = record { told = accepted; present = 0; wall_time = 0; logical_counter = 0; actor_id = 0 }
stamp_told (Ok (Some t)) =
    record { told = accepted; present = 1; wall_time = t.wall_time; logical_counter = t.logical_counter; actor_id = t.actor_id.0 }
stamp_told (Err r) = record { told = told_of r; present = 0; wall_time = 0; logical_counter = 0; actor_id = 0 }

-- 0 absent, 1 logged, 2 held; the slot, and the length of its payload, which stands at slot_payload in the slot
abbrev pub lookup_told : Areas → Answer Found → LookupTold
lookup_told a (Ok (logged i)) =
    record { told = accepted; place = 1; slot = i; len = length (payload_at a.log i) }
lookup_told a (Ok (held i)) =
    record { told = accepted; place = 2; slot = i; len = length (payload_at a.held i) }
lookup_told a (Ok absent) = record { told = accepted; place = 0; slot = 0; len = 0 }
lookup_told a (Err r) = record { told = told_of r; place = 0; slot = 0; len = 0 }

abbrev pub op_told : Got BatchRow → OpTold
op_told (Ok (b, next)) = record { told = accepted; next = next; verdict = b.closing.verdict }
op_told (Err r) = record { told = told_of r; next = 0; verdict = 0 }

-- a clock that a call answers goes to a clock area: 2 first, where that is short; a refusal leaves it
abbrev pub clock_area : Area → Answer Clock → Ends Clock Area
clock_area area (Ok es) = ends (done es) (put_at area 0 (clock_bytes (clock_of es)))
clock_area area (Err r) = ends (refused r) area

unfoldable pub clock_out : Area → Answer Clock → Ends Clock Area
clock_out area answer = clock_area area (unless (long area) ShortArea answer)

-- bytes of a row in a slot written to an output
abbrev pub row_out : (Row → Bytes) → (slot out : Area) → Ends Position Area
row_out bytes slot out = ends (write_op bytes slot out) (written_by bytes slot out (write_op bytes slot out))

-- a batch row read into a slot
abbrev pub row_into : Bytes → Position → (slot : Area) → OpTold × Area
row_into batch at slot = (op_told (read_op batch at slot), slot_by slot (read_op batch at slot))

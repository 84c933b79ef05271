-- Held slots moved in place. Inside: need not be believed.
use Rattle.std.specs.Prelude.{ℕ, zero, suc, ◌*◌, ◌-◌, ◌≤◌, ◌<◌, ◌≡◌, true, ltb, length, drop}
use Rattle.words.specs.Sizes.{most_held, slot_size, held_size}
use Rattle.words.specs.Names.{Time, Bytes, Area}
use Rattle.words.specs.Choice.{pick}
use Rattle.words.specs.Be.{get64}
use Rattle.row.specs.Slots.{slot_at, encode_held}
use Rattle.row.specs.Reading.{read_row}
use Rattle.row.specs.declared.Held.{Held}
use Rattle.row.specs.declared.RowRead.{RowRead}
use Rattle.working.specs.Inside.References.{entry_size, is_read, arrived_by}

-- the i-th working reference
abbrev pub ref_at : (s : Area) (i : ℕ) → ℕ
ref_at s i = get64 s (entry_size * i)

-- t is s with the bytes vs in slot p
pub record SlotSet (s t : Area) (p : ℕ) (vs : Bytes) : Type 0 where
  pub same : length t ≡ length s
  pub here : slot_at t (slot_size * p) ≡ vs
  pub else : (q : ℕ) → (q ≡ p → ⊥) → slot_at t (slot_size * q) ≡ slot_at s (slot_size * q)
  pub behind : drop held_size t ≡ drop held_size s

-- a row of a batch as it waits, which arrived then
abbrev pub arriving : RowRead → Time → Held
arriving row time = record { op = row.op; arrived_ms = time; outcome = row.outcome; detail = row.detail }

-- references to held slots rise
pub record SlotsRise (s : Area) (n : ℕ) : Type 0 where
  pub rise : (i j : ℕ) → i < j → j < n → ref_at s i < most_held → ref_at s j < most_held → ref_at s i < ref_at s j

-- how many of the first n references are to held slots
unfoldable pub held_before : (s : Area) (n : ℕ) → ℕ
held_before s zero = 0
held_before s (suc n) = pick (ltb (ref_at s n) most_held) (suc (held_before s n)) (held_before s n)

-- the other references are to rows of the batch
pub record BatchRefs (batch : Bytes) (s : Area) (n : ℕ) : Type 0 where
  pub read : (i : ℕ) → i < n → most_held ≤ ref_at s i → is_read (read_row batch (ref_at s i - most_held)) ≡ true

-- the slots that are referred to stand at the front, in their order
pub record Gathered (held held' s : Area) (n r : ℕ) : Type 0 where
  pub same : length held' ≡ length held
  pub counts : r ≡ held_before s n
  pub moved : (i : ℕ) → i < n → ref_at s i < most_held → slot_at held' (slot_size * held_before s i) ≡ slot_at held (slot_size * ref_at s i)
  pub behind : drop held_size held' ≡ drop held_size held

-- each place has its row: one of those at the front, or one of the batch
pub record Spread (held held' : Area) (batch : Bytes) (s : Area) (n : ℕ) (time : Time) : Type 0 where
  pub same : length held' ≡ length held
  pub kept : (i : ℕ) → i < n → ref_at s i < most_held → slot_at held' (slot_size * i) ≡ slot_at held (slot_size * held_before s i)
  pub written : (i : ℕ) → i < n → most_held ≤ ref_at s i → slot_at held' (slot_size * i) ≡ encode_held (arrived_by time (read_row batch (ref_at s i - most_held)))
  pub behind : drop held_size held' ≡ drop held_size held

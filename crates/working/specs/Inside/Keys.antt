-- The keys of the working rows as words, five each: the stamp's wall time, counter and author, then author and sequence. Inside: need not be believed.
use Rattle.std.specs.Prelude.{ℕ, ◌+◌, ◌*◌, ◌%◌, ◌^◌, ◌≤◌, ◌<◌, ◌≡◌, ◌⊎◌, List, length, get_or}
use Rattle.words.specs.Names.{Bytes, Area}
use Rattle.words.specs.Be.{get64}
use Rattle.working.specs.Inside.References.{entry_size}
use Rattle.working.specs.Inside.Looks.{ref_row, KeyOf}
use Rattle.working.specs.declared.looks.Key.{Key}

-- the key whose words begin at `at`
unfoldable pub key_at : (keys : List ℕ) (at : ℕ) → Key
key_at ks at = record {
  stamp = record { wall_time = get_or ks at 0; logical_counter = get_or ks (at + 1) 0 % 2 ^ 32; actor_id = record { 0 = get_or ks (at + 2) 0 } };
  actor = record { 0 = get_or ks (at + 3) 0 };
  seq = get_or ks (at + 4) 0;
}

-- t is s with a key at `at`
pub record KeyWritten (s t : List ℕ) (at : ℕ) (key : Key) : Type 0 where
  pub here : key_at t at ≡ key
  pub else : (b : ℕ) → (b + 5 ≤ at) ⊎ (at + 5 ≤ b) → key_at t b ≡ key_at s b

-- t is s with a key put in at i of n
pub record KeyIn (s t : List ℕ) (n i : ℕ) (key : Key) : Type 0 where
  pub below : (j : ℕ) → j < i → key_at t (5 * j) ≡ key_at s (5 * j)
  pub here : key_at t (5 * i) ≡ key
  pub above : (j : ℕ) → i ≤ j → j < n → key_at t (5 * (j + 1)) ≡ key_at s (5 * j)

-- the keys of the rows of n working references
pub record Keyed (held : Area) (batch : Bytes) (s : Area) (ks : List ℕ) (n : ℕ) : Type 0 where
  pub room : 5 * n ≤ length ks
  pub keys : (i : ℕ) → i < n → KeyOf (ref_row held batch (get64 s (entry_size * i))) (key_at ks (5 * i))

-- Closed examples of what a delta sends, computed from the definitions.
use Prim.Native.Nat.{ℕ}
use mathlib.Core.Path.{◌≡◌, refl}
use mathlib.Core.List.{List, [], ◌∷◌}
use lib.ListN.{replicate}
use Rattle.codec.specs.Leb128.{group_then, groups_of, shortest}
use Rattle.codec.specs.Writing.{sized}
use Rattle.codec.specs.Envelopes.{envelope}
use Rattle.row.specs.Rows.{Row}
use Rattle.row.specs.Wire.{stamped_bytes, pair_bytes, deps_bytes, unsigned_bytes, signed_bytes}
use Rattle.message.specs.Messages.{rows_bytes, message_bytes}
use Rattle.sync.specs.Delta.{row_size, at_least_one, chunks, chunk_ops}
use Rattle.sync.specs.Sizes.{cut, figures_of, figures_of_each, delta_sizes, numbers}

-- a row of author 1 without dependencies: five numbers of a byte, the dependency count, length and payload, length and signature
abbrev row : (seq payload signature : ℕ) → Row
row seq payload signature =
    record {
      stamp = record { wall_time = seq; logical_counter = 0; actor_id = record { 0 = 1 } };
      author = 1;
      seq = seq;
      deps = [];
      payload = replicate payload 7;
      signature = replicate signature 7;
    }

abbrev three : List Row
three = row 1 3 0 ∷ row 2 3 0 ∷ row 3 3 0 ∷ []

record Examples : Type 0 where
  -- as chunk_ops counts it: 10 bytes that are signed, no signature, 16
  counts : row_size (row 1 3 0) ≡ 26
  -- in a Delta it has 11 bytes; tag, count and row are 13; sender 1, body 1 + 13, signature 1 + 64
  one_chunk : numbers (delta_sizes (row 1 3 0 ∷ []) 64 1000 0 64) ≡ 1 ∷ 80 ∷ []
  two_and_one : numbers (delta_sizes three 2 1000 0 64) ≡ 2 ∷ 91 ∷ 1 ∷ 80 ∷ []
  -- no rows a chunk means one
  no_rows : numbers (delta_sizes three 0 1000 0 64) ≡ 1 ∷ 80 ∷ 1 ∷ 80 ∷ 1 ∷ 80 ∷ []
  -- each row is above no bytes
  no_bytes : numbers (delta_sizes three 64 0 0 64) ≡ 1 ∷ 80 ∷ 1 ∷ 80 ∷ 1 ∷ 80 ∷ []
  just_two : numbers (delta_sizes three 64 52 0 64) ≡ 2 ∷ 91 ∷ 1 ∷ 80 ∷ []
  not_two : numbers (delta_sizes three 64 51 0 64) ≡ 1 ∷ 80 ∷ 1 ∷ 80 ∷ 1 ∷ 80 ∷ []
  -- a row with a signature, a sender of two bytes, a signature whose length takes two
  wider : numbers (delta_sizes (row 1 3 5 ∷ []) 64 1000 128 128) ≡ 1 ∷ 151 ∷ []
  nothing : numbers (delta_sizes [] 64 1000 0 64) ≡ []

examples : Examples
unfolding row_size at_least_one chunks chunk_ops cut figures_of figures_of_each delta_sizes numbers rows_bytes message_bytes envelope sized group_then groups_of shortest stamped_bytes pair_bytes deps_bytes unsigned_bytes signed_bytes
examples =
    record {
      counts = refl;
      one_chunk = refl;
      two_and_one = refl;
      no_rows = refl;
      no_bytes = refl;
      just_two = refl;
      not_two = refl;
      wider = refl;
      nothing = refl;
    }

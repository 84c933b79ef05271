-- The sizes of document 01's closing list, and where each field stands in a lent area, docs/LAYOUT.md. Sizes and positions count bytes.
use Rattle.std.specs.Prelude.{ℕ, ◌+◌, ◌*◌}

-- ---- 01: "Sizes: batch 64 rows; held 64, so `max_pending` 0 to 64; dependencies and `max_deps` 16; payload and `max_payload` 256; signature 64;
-- clock 32 authors; log area length ÷ 704 rows, rounded down, at most 1,024"

abbrev pub most_batch : ℕ
most_batch = 64

abbrev pub most_held : ℕ
most_held = 64

abbrev pub most_deps : ℕ
most_deps = 16

abbrev pub most_payload : ℕ
most_payload = 256

abbrev pub most_signature : ℕ
most_signature = 64

abbrev pub most_authors : ℕ
most_authors = 32

abbrev pub most_logged : ℕ
most_logged = 1024

-- 01: "Peers keep 8 pings and 8 answered"
abbrev pub most_pings : ℕ
most_pings = 8

-- ---- a word, and an author with its number

abbrev pub word_size : ℕ
word_size = 8

abbrev pub pair_size : ℕ
pair_size = 2 * word_size

-- ---- a clock: its count, then pairs

abbrev pub clock_pairs : ℕ
clock_pairs = word_size

abbrev pub clock_size : ℕ
clock_size = clock_pairs + most_authors * pair_size

-- ---- a slot: 16 words, of which five are zero; 16 pairs; payload; signature

abbrev pub slot_wall : ℕ
slot_wall = 0

abbrev pub slot_counter : ℕ
slot_counter = 8

abbrev pub slot_stamper : ℕ
slot_stamper = 16

abbrev pub slot_author : ℕ
slot_author = 24

abbrev pub slot_seq : ℕ
slot_seq = 32

abbrev pub slot_dep_count : ℕ
slot_dep_count = 40

abbrev pub slot_payload_len : ℕ
slot_payload_len = 48

abbrev pub slot_signature_len : ℕ
slot_signature_len = 56

abbrev pub slot_arrival : ℕ
slot_arrival = 64

abbrev pub slot_outcome : ℕ
slot_outcome = 72

abbrev pub slot_detail : ℕ
slot_detail = 80

abbrev pub slot_deps : ℕ
slot_deps = 16 * word_size

abbrev pub deps_size : ℕ
deps_size = most_deps * pair_size

abbrev pub slot_payload : ℕ
slot_payload = slot_deps + deps_size

abbrev pub slot_signature : ℕ
slot_signature = slot_payload + most_payload

abbrev pub slot_size : ℕ
slot_size = slot_signature + most_signature

-- ---- the held area: 64 slots

abbrev pub held_size : ℕ
held_size = most_held * slot_size

-- ---- the head: log count, held count, the floor's flag and stamp, clock, compacted clock, watermarks

abbrev pub head_log_count : ℕ
head_log_count = 0

abbrev pub head_held_count : ℕ
head_held_count = 8

abbrev pub head_floor : ℕ
head_floor = 16

abbrev pub head_clock : ℕ
head_clock = head_floor + 4 * word_size

abbrev pub head_compacted : ℕ
head_compacted = head_clock + clock_size

abbrev pub head_mark_count : ℕ
head_mark_count = head_compacted + clock_size

abbrev pub head_marks : ℕ
head_marks = head_mark_count + word_size

-- author and stamp
abbrev pub mark_size : ℕ
mark_size = 4 * word_size

abbrev pub head_size : ℕ
head_size = head_marks + most_authors * mark_size

-- ---- a peer: the record's fields in the Rust's order; a list of pings is its count and 8 nonces

abbrev pub peer_state : ℕ
peer_state = 8

abbrev pub peer_clock : ℕ
peer_clock = 16

abbrev pub peer_last_seen : ℕ
peer_last_seen = peer_clock + clock_size

abbrev pub peer_last_ping : ℕ
peer_last_ping = peer_last_seen + word_size

abbrev pub pings_size : ℕ
pings_size = word_size + most_pings * word_size

abbrev pub peer_outstanding : ℕ
peer_outstanding = peer_last_ping + word_size

abbrev pub peer_answered : ℕ
peer_answered = peer_outstanding + pings_size

abbrev pub peer_last_hello : ℕ
peer_last_hello = peer_answered + pings_size

abbrev pub peer_size : ℕ
peer_size = peer_last_hello + word_size

-- ---- a line of a batch's output: 01: "18 bytes: author 8 and sequence 8, big-endian, fate"

abbrev pub line_size : ℕ
line_size = 2 * word_size + 2

-- The Rust's Reader as a struct that refers to the bytes. 01: "Reader decides between 22 and 24. A refused read leaves its position."
use Prim.{⊥}
use Rattle.std.specs.Prelude.{ℕ, ◌≡◌, List}
use Rattle.std.specs.Borrow.{Bor}
use Rattle.std.specs.declared.result.Result.TheVariants.{Ok, Err}
use Rattle.words.specs.Names.{Bytes, Position}
use Rattle.words.specs.Areas.{behind}
use Rattle.error.specs.Answer.{Answer, done, refused, Got, ends}
use Rattle.error.specs.declared.Ends.{Ends}
use Rattle.codec.specs.Reading.{part_of, get_bytes}
use Rattle.codec.specs.declared.Part.{Part}
use Rattle.codec.specs.declared.reader.Reader.{Reader}

-- what a read at the reader's position gives
abbrev pub read_by : {A : Type 0} → (Bytes → Position → Got A) → Reader → Got A
read_by read r = read r.buf.now r.pos

-- how a read at the reader's position ends: what was read, and the reader past it; a refused read leaves the reader
abbrev pub left_by : {A : Type 0} → Reader → Got A → Ends A Reader
left_by r (Ok (a, next)) = ends (done a) (record { buf = r.buf; pos = next })
left_by r (Err k) = ends (refused k) r

abbrev pub read_call : {A : Type 0} → (Bytes → Position → Got A) → Reader → Ends A Reader
read_call read r = left_by r (read_by read r)

-- the bytes s are handed out as the part p: its bytes, and where they lie
pub record Hands (s : Bor (List ℕ)) (p : Part) (b : Bor (List ℕ)) : Type 0 where
  pub bytes : b.now ≡ part_of s.now p
  pub place : b.ref_ptr ≡ behind s.ref_ptr p.start

-- a reading of a part that is handed out, or the same refusal
abbrev pub HandsPart : Bor (List ℕ) → Answer Part → Answer (Bor (List ℕ)) → Type 0
HandsPart s (Ok p) (Ok b) = Hands s p b
HandsPart s (Err k) (Err j) = j ≡ k
HandsPart s (Ok p) (Err j) = ⊥
HandsPart s (Err k) (Ok b) = ⊥

-- a length of at most limit and as many bytes, at the reader's position
abbrev pub bytes_call : (limit : ℕ) → Reader → Ends Part Reader
bytes_call limit = read_call (λ s at. get_bytes s at limit)

-- what such a read promises: the part's bytes and where they lie, or the refusal, and the reader afterwards
pub record ReadsBytes (limit : ℕ) (d : Reader) (r : Answer (Bor (List ℕ))) (d' : Reader) : Type 0 where
  pub handed : HandsPart d.buf (bytes_call limit d).answer r
  pub reader : d' ≡ (bytes_call limit d).left

-- The stamp that a row of a batch begins with: three numbers.
use Prim.Native.Nat.{ℕ, ◌<◌, ◌^◌}
use mathlib.Core.Path.{◌≡◌, refl, sym, ◌∙◌, ap}
use mathlib.Core.Bool.{true}
use mathlib.Core.List.{List}
use Rattle.std.specs.Result.{IsOk}
use Rattle.error.specs.Answer.{got}
use Rattle.clock.specs.declared.stamp.Timestamp.{Timestamp}
use Rattle.codec.specs.Reading.{get_varint, get_u32}
use Rattle.codec.proofs.ReadSteps.{after_got, got_value, got_next}
use Rattle.codec.proofs.RoundTrip.{u32_is_varint}
use Rattle.row.specs.Reading.{get_head, read_head, read_row}
use Rattle.row.specs.declared.reader.Head.{Head}
use Rattle.row.proofs.ReadRows.{readable}
use Rattle.working.specs.Inside.References.{is_read}
use Rattle.working.specs.Inside.Looks.{batch_row_at}
use Rattle.working.proofs.ReferenceRows.{after_read, head_fields}

abbrev stamp_by : (wall counter stamper : ℕ) → Timestamp
stamp_by wall counter stamper = record { wall_time = wall; logical_counter = counter; actor_id = record { 0 = stamper } }

-- three numbers from `at` on, the second of 32 bits, and the stamp that they make
pub record StampRead (s : List ℕ) (at : ℕ) (stamp : Timestamp) : Type 0 where
  pub wall : ℕ
  pub at₁ : ℕ
  pub wall_is : get_varint s at ≡ got wall at₁
  pub counter : ℕ
  pub at₂ : ℕ
  pub counter_is : get_varint s at₁ ≡ got counter at₂
  pub fits : counter < 2 ^ 32
  pub stamper : ℕ
  pub at₃ : ℕ
  pub stamper_is : get_varint s at₂ ≡ got stamper at₃
  pub stamp_is : stamp ≡ stamp_by wall counter stamper

module _ (s : List ℕ) (at : ℕ) where
  in_head : (head : Head) (next : ℕ) → read_head s at ≡ got head next → StampRead s at head.timestamp
  unfolding read_head get_head
  in_head head next e =
      let (wall, at₁, e₁, f₁) = after_got (get_varint s at) _ (readable (get_head s at) e) in
      let (counter, at₂, e₂, f₂) = after_got (get_u32 s at₁) _ f₁ in
      let (read, fits) = u32_is_varint s at₁ counter at₂ e₂ in
      let (stamper, at₃, e₃, f₃) = after_got (get_varint s at₂) _ f₂ in
      let (author, at₄, e₄, f₄) = after_got (get_varint s at₃) _ f₃ in
      let (seq, at₅, e₅, f₅) = after_got (get_varint s at₄) _ f₄ in
      record {
        wall = wall;
        at₁ = at₁;
        wall_is = e₁;
        counter = counter;
        at₂ = at₂;
        counter_is = read;
        fits = fits;
        stamper = stamper;
        at₃ = at₃;
        stamper_is = e₃;
        stamp_is = sym (ap (λ (h : Head). h.timestamp) (got_value f₅));
      }

  module _ (t : is_read (read_row s at) ≡ true) where
    pub stamp_read : StampRead s at (batch_row_at s at).stamp
    unfolding read_row
    stamp_read =
        let (head, next, e) = after_read (read_head s at) _ t in
        rw (head_fields s at next head t e).0 (in_head head next e)

    pub has_wall : IsOk (get_varint s at)
    has_wall = rw stamp_read.wall_is refl

    module _ (wall at₁ : ℕ) (e₁ : get_varint s at ≡ got wall at₁) where
      then₁ : stamp_read.at₁ ≡ at₁
      then₁ = got_next (sym stamp_read.wall_is ∙ e₁)

      counter_here : get_varint s at₁ ≡ got stamp_read.counter stamp_read.at₂
      counter_here = rw then₁ at stamp_read.counter_is

      pub has_counter : IsOk (get_varint s at₁)
      has_counter = rw counter_here refl

      module _ (counter at₂ : ℕ) (e₂ : get_varint s at₁ ≡ got counter at₂) where
        then₂ : stamp_read.at₂ ≡ at₂
        then₂ = got_next (sym counter_here ∙ e₂)

        same_counter : stamp_read.counter ≡ counter
        same_counter = got_value (sym counter_here ∙ e₂)

        stamper_here : get_varint s at₂ ≡ got stamp_read.stamper stamp_read.at₃
        stamper_here = rw then₂ at stamp_read.stamper_is

        pub has_stamper : IsOk (get_varint s at₂)
        has_stamper = rw stamper_here refl

        pub counter_fits : counter < 2 ^ 32
        counter_fits = rw same_counter at stamp_read.fits

        pub stamp_by_parts : (stamper at₃ : ℕ) → get_varint s at₂ ≡ got stamper at₃ → stamp_by wall counter stamper ≡ (batch_row_at s at).stamp
        stamp_by_parts stamper at₃ e₃ =
            let w : stamp_read.wall ≡ wall = got_value (sym stamp_read.wall_is ∙ e₁) in
            let p : stamp_read.stamper ≡ stamper = got_value (sym stamper_here ∙ e₃) in
            sym (stamp_read.stamp_is ∙ (λ i. stamp_by (w i) (same_counter i) (p i)))

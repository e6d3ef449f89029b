-- The block of a record, and the record of a block. A kind of value comes in by its images.
use Rattle.std.specs.Prelude.{◌≡◌, ℕ, cond, List, [], ◌∷◌, drop, Some, None, Option, slice_index}
use Rattle.kinds.specs.Words.{bytes32}
use Rattle.registers.specs.declared.tag.Tag.{Tag}
use Rattle.registers.specs.declared.tag.Tag.TheVariants.{None as Untagged, Pro, Dec}
use Rattle.registers.specs.declared.record.Record.{Record}
use Rattle.registers.specs.Records.{made}
use Rattle.registers.specs.Tags.{tag_byte, tag_of}
use Rattle.blocks.specs.Layout.{laid, is_laid, word_at, all_zero}

module _ {V : Type 0} where
  -- an absent value is eight bytes 00
  abbrev pub value_bytes : (V → List ℕ) → Option V → List ℕ
  value_bytes image_of None = 0 ∷ 0 ∷ 0 ∷ 0 ∷ 0 ∷ 0 ∷ 0 ∷ 0 ∷ []
  value_bytes image_of (Some v) = image_of v

  -- the image of the value, if there is one, gives it back
  abbrev pub ImagedBack : (V → List ℕ) → (List ℕ → Option V) → Option V → Type 0
  ImagedBack image_of of_image None = Unit {0}
  ImagedBack image_of of_image (Some v) = of_image (image_of v) ≡ Some v

  abbrev pub encoded : (V → List ℕ) → Record V → List ℕ
  encoded image_of r = laid (tag_byte r.fields.tag) (bytes32 r.fields.round) (bytes32 r.fields.accepted) (value_bytes image_of r.fields.value)

  abbrev pub present : Option V → Option (Option V)
  present None = None
  present (Some v) = Some (Some v)

  -- with tag none the value bytes must be 00; with another they are the image of the value
  abbrev pub value_of : (List ℕ → Option V) → List ℕ → Tag → Option (Option V)
  value_of of_image image Untagged = cond (all_zero image) (Some None) None
  value_of of_image image Pro = present (of_image image)
  value_of of_image image Dec = present (of_image image)

  abbrev pub with_value : ℕ → ℕ → Tag → Option (Option V) → Option (Record V)
  with_value r a t None = None
  with_value r a t (Some v) = made (record { round = r; accepted = a; tag = t; value = v })

  abbrev pub with_tag : (List ℕ → Option V) → ℕ → ℕ → List ℕ → Option Tag → Option (Record V)
  with_tag of_image r a image None = None
  with_tag of_image r a image (Some t) = with_value r a t (value_of of_image image t)

  abbrev pub decoded : (List ℕ → Option V) → List ℕ → Option (Record V)
  decoded of_image b = cond (is_laid b) (with_tag of_image (word_at b 4) (word_at b 8) (drop 12 b) (tag_of (slice_index b 0))) None

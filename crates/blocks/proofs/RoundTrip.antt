-- A block gives back the record that it was made from, and a block that reads as a record is that record's.
use Rattle.std.proofs.Common.{◌≡◌, ℕ, true, List, length, get_or, take, drop, Some, None, Option, sym, refl, ap, ◌∙◌, true≢false, arith}
use Rattle.std.proofs.lemmas.Bool.{cond-true}
use Rattle.std.proofs.lemmas.Option.{none-some}
use Rattle.kinds.specs.Words.{bytes32}
use Rattle.kinds.proofs.WordLaws.{word_of_bytes}
use Rattle.registers.specs.declared.tag.Tag.{Tag}
use Rattle.registers.specs.declared.tag.Tag.TheVariants.{None as Untagged, Pro, Dec}
use Rattle.registers.specs.declared.record.Record.{Record}
use Rattle.registers.specs.declared.record.Fields.{Fields}
use Rattle.registers.specs.Lawful.{Accepts, is_lawful}
use Rattle.registers.specs.Records.{made}
use Rattle.registers.specs.Tags.{tag_byte, tag_of}
use Rattle.registers.proofs.Making.{made_with, made_fields, lawful, lawful_from}
use Rattle.blocks.specs.Layout.{laid, is_laid, word_at}
use Rattle.blocks.specs.Blocks.{value_bytes, ImagedBack, encoded, present, value_of, with_value, with_tag, decoded}
use Rattle.blocks.proofs.Places.{is_laid_by, laid_same, relaid}

pub tag_back : (t : Tag) → tag_of (tag_byte t) ≡ Some t
tag_back Untagged = refl
tag_back Pro = refl
tag_back Dec = refl

module _ {V : Type 0} (of_image : List ℕ → Option V) (image_of : V → List ℕ) where
  -- the bytes of a lawful record's value are read as that value
  value_back : (f : Fields V) → is_lawful f ≡ true → ImagedBack image_of of_image f.value → value_of of_image (value_bytes image_of f.value) f.tag ≡ Some f.value
  value_back f e back = by f.tag f.value (lawful_from f e).accepts back
    where
      by : (t : Tag) (v : Option V) → Accepts f.accepted t v → ImagedBack image_of of_image v → value_of of_image (value_bytes image_of v) t ≡ Some v
      by Untagged None h back = refl
      by Untagged (Some v) h back = absurd (none-some _ (sym h.1))
      by Pro None h back = absurd (true≢false (sym h.1))
      by Pro (Some v) h back = ap present back
      by Dec None h back = absurd (true≢false (sym h.1))
      by Dec (Some v) h back = ap present back

  pub round_trip : (x : Record V) → ImagedBack image_of of_image x.fields.value → length (value_bytes image_of x.fields.value) ≡ 8 → decoded of_image (encoded image_of x) ≡ Some x
  round_trip x back sized =
      let b = encoded image_of x in
      let f = x.fields in
      let v = value_bytes image_of x.fields.value in
      let limits = lawful x in
      let whole : is_laid b ≡ true = is_laid_by b (omega (arith, sized)) refl refl refl in
      cond-true _ _ _ whole
      ∙ ap (λ r. with_tag of_image r (word_at b 8) v (tag_of (tag_byte f.tag))) (word_of_bytes x.fields.round (omega (arith, limits.limited)))
      ∙ ap (λ a. with_tag of_image f.round a v (tag_of (tag_byte f.tag))) (word_of_bytes x.fields.accepted (omega (arith, limits.limited, limits.ordered)))
      ∙ ap (with_tag of_image f.round f.accepted v) (tag_back f.tag)
      ∙ ap (with_value f.round f.accepted f.tag) (value_back f x.lawful back)
      ∙ made_with f x.lawful

module _ {V : Type 0} (of_image : List ℕ → Option V) (b : List ℕ) (whole : is_laid b ≡ true) (t : Tag) (known : Some t ≡ tag_of (get_or b 0 0)) (image : List ℕ) (third : image ≡ drop 12 b) where
  -- what the bytes are read as, by the value that they hold
  decodes : (o : Option (Option V)) → o ≡ value_of of_image image t → with_value (word_at b 4) (word_at b 8) t o ≡ decoded of_image b
  decodes o e =
      ap (with_value (word_at b 4) (word_at b 8) t) e
      ∙ ap (λ y. with_value (word_at b 4) (word_at b 8) t (value_of of_image y t)) third
      ∙ ap (with_tag of_image (word_at b 4) (word_at b 8) (drop 12 b)) known
      ∙ sym (cond-true _ _ _ whole)

  module _ (f : Fields V) (first : f.round ≡ word_at b 4) (second : f.accepted ≡ word_at b 8) (tagged : f.tag ≡ t) where
    pub decodes_some : Some f.value ≡ value_of of_image image t → made f ≡ decoded of_image b
    decodes_some e = (λ i. made (record { round = first i; accepted = second i; tag = tagged i; value = f.value })) ∙ decodes (Some f.value) e

    -- a block that reads as a record is that record's block
    pub encodes : (image_of : V → List ℕ) (x : Record V) → made f ≡ Some x → get_or b 0 0 ≡ tag_byte t → bytes32 f.round ≡ take 4 (drop 4 b) → bytes32 f.accepted ≡ take 4 (drop 8 b) → image ≡ value_bytes image_of f.value → b ≡ encoded image_of x
    encodes image_of x e byte round accepted value =
        let same = made_fields f x e in
        relaid b whole
        ∙ laid_same (byte ∙ ap tag_byte (sym tagged)) (sym round) (sym accepted) (sym third ∙ value)
        ∙ ap (λ g. laid (tag_byte g.tag) (bytes32 g.round) (bytes32 g.accepted) (value_bytes image_of g.value)) (sym same)

-- The record that fields make, and the fields that a record has.
use Rattle.std.specs.Prelude.{◌≡◌, Bool, true, false, Some, None, Option, refl}
use Rattle.registers.specs.Lawful.{is_lawful}
use Rattle.registers.specs.declared.tag.Tag.TheVariants.{None as Untagged}
use Rattle.registers.specs.declared.record.Fields.{Fields}
use Rattle.registers.specs.declared.record.Record.{Record}

module _ {V : Type 0} where
  -- the record with the fields f, which are lawful
  abbrev pub with_fields : (f : Fields V) → is_lawful f ≡ true → Record V
  with_fields f e = record { fields = f; lawful = e }

  abbrev pub made_if : (f : Fields V) (b : Bool) → is_lawful f ≡ b → Option (Record V)
  made_if f true e = Some (with_fields f e)
  made_if f false e = None

  -- the record with the fields f, if they are lawful
  abbrev pub made : Fields V → Option (Record V)
  made f = made_if f (is_lawful f) refl

  abbrev pub fields_of : Record V → Fields V
  fields_of r = r.fields

  abbrev pub blank_fields : Fields V
  blank_fields = record { round = 0; accepted = 0; tag = Untagged; value = None }

  abbrev pub blank : Record V
  blank = record { fields = blank_fields; lawful = refl }

-- Lawful fields make a record, and a record is known by its fields.
use Rattle.std.proofs.Common.{◌≡◌, ℕ, Bool, true, false, not, ◌&&◌, eqb, leb, is_some, Some, None, Option, sym, refl, ap, ◌∙◌, true≢false, arith}
use mathlib.Core.Bool.{Bool-set}
use Rattle.std.proofs.lemmas.Bool.{and_parts, leb-true, eqb-true}
use Rattle.registers.specs.declared.tag.Tag.{Tag}
use Rattle.registers.specs.declared.tag.Tag.TheVariants.{None as Untagged, Pro, Dec}
use Rattle.registers.specs.declared.record.Fields.{Fields}
use Rattle.registers.specs.declared.record.Record.{Record}
use Rattle.registers.specs.Lawful.{max_round, Accepts, Lawful, accepting, is_lawful}
use Rattle.registers.specs.Records.{with_fields, made_if, made, fields_of}

module _ {V : Type 0} where
  made_if_with : (f : Fields V) (b : Bool) (p : is_lawful f ≡ b) (e : is_lawful f ≡ true) → made_if f b p ≡ Some (with_fields f e)
  made_if_with f true p e = ap (λ q. Some (with_fields f q)) (Bool-set (is_lawful f) true p e)
  made_if_with f false p e = absurd (true≢false (sym e ∙ p))

  pub made_with : (f : Fields V) (e : is_lawful f ≡ true) → made f ≡ Some (with_fields f e)
  made_with f e = made_if_with f (is_lawful f) refl e

  pub made_back : (r : Record V) → made (fields_of r) ≡ Some r
  made_back r = made_with (fields_of r) r.lawful

  made_if_fields : (f : Fields V) (b : Bool) (p : is_lawful f ≡ b) (r : Record V) → made_if f b p ≡ Some r → fields_of r ≡ f
  made_if_fields f true p r e = let same : with_fields f p ≡ r = cc in ap fields_of (sym same)
  made_if_fields f false p r e = let z : ◌≡◌ {A = ℕ} 0 1 = cc in let n : ⊥ = omega arith in absurd n

  -- the record that fields make has those fields
  pub made_fields : (f : Fields V) (r : Record V) → made f ≡ Some r → fields_of r ≡ f
  made_fields f r e = made_if_fields f (is_lawful f) refl r e

  absent : (v : Option V) → not (is_some v) ≡ true → v ≡ None
  absent None e = refl
  absent (Some x) e = absurd (true≢false (sym e))

  accepts_from : (a : ℕ) (t : Tag) (v : Option V) → accepting a t v ≡ true → Accepts a t v
  accepts_from a Untagged v e = let p = and_parts (eqb a 0) (not (is_some v)) e in (eqb-true a 0 p.0, absent v p.1)
  accepts_from a Pro v e = let p = and_parts (leb 1 a) (is_some v) e in (leb-true 1 a p.0, p.1)
  accepts_from a Dec v e = let p = and_parts (leb 1 a) (is_some v) e in (leb-true 1 a p.0, p.1)

  -- the test decides the rule
  pub lawful_from : (f : Fields V) → is_lawful f ≡ true → Lawful f
  lawful_from f e =
      let p = and_parts (leb f.round max_round) (leb f.accepted f.round && accepting f.accepted f.tag f.value) e in
      let q = and_parts (leb f.accepted f.round) (accepting f.accepted f.tag f.value) p.1 in
      record { limited = leb-true f.round max_round p.0; ordered = leb-true f.accepted f.round q.0; accepts = accepts_from f.accepted f.tag f.value q.1 }

  pub lawful : (r : Record V) → Lawful r.fields
  lawful r = lawful_from r.fields r.lawful

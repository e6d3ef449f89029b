-- The part of the line up to the field's end keeps the law of fields.
use Rattle.std.proofs.Common.{◌≡◌, ◌+◌, ◌≤◌, length, Some, sym, ap, ◌∙◌, subst, refl}
use Rattle.std.proofs.lemmas.Bool.{cond-true, le-leb}
use Rattle.script.specs.Fields.{Parted, field_end, part}
use Rattle.script.proofs.FieldLaws.{parted, end_found}
use Rattle.script.proofs.fields.field_at.Goals as goal

pub returns : goal.returns
returns c =
    let inside : c.args.start ≤ length c.args.line.now = c.in_ok-rest.ensures.lookup.0.0 in
    let e : c.args.start + c.unwrap_or.result ≡ field_end c.args.line.now c.args.start = cc (end_found c.args.line.now c.in_ok-rest.rest.now c.args.start c.in_ok-rest.ensures.lookup.0.2) in
    record {
      value = ap (λ end. Some (record { start = c.args.start; end = end; bytes = part c.args.line.now c.args.start end })) e ∙ sym (cond-true _ _ _ (le-leb _ _ inside));
      part = refl;
      parted = subst (Parted c.args.line.now c.args.start) (sym e) (parted c.args.line.now c.args.start inside);
    }

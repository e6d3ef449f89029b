-- A number that does not fit its type is past its bound too.
use Rattle.std.proofs.Common.{sym, ap, ◌∙◌, rules}
use Rattle.choices.specs.ChoiceForms.{choice_from}
use Rattle.choices.proofs.ChoiceLaws.{from_high_region, from_high_edition}
use Rattle.choices.proofs.choice.methods.choose.Goals as goal

pub returns-in_err-region-2 : goal.returns-in_err-region-2
returns-in_err-region-2 c =
    c.from_residual-in_err-region-2.ensures
    ∙ from_high_region c.in_ok-region.field-0 c.args.edition (search rules)
    ∙ ap (λ r. choice_from r c.args.edition) (sym c.in_ok-region.was)

pub returns-in_err-edition-2 : goal.returns-in_err-edition-2
returns-in_err-edition-2 c =
    c.from_residual-in_err-edition-2.ensures
    ∙ from_high_edition c.args.region c.in_ok-edition.field-0 (search rules)
    ∙ ap (choice_from c.args.region) (sym c.in_ok-edition.was)

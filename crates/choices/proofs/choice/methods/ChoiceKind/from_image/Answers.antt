-- An image that reads as a choice is that choice's.
use Rattle.std.proofs.Common.{◌≡◌, sym, ap, ◌∙◌, rules}
use Rattle.choices.specs.ChoiceForms.{choice_of_image}
use Rattle.kinds.specs.Words.{bytes16}
use Rattle.choices.proofs.ChoiceLaws.{only_choice_image}
use Rattle.choices.proofs.choice.methods.ChoiceKind.from_image.Goals as goal

pub returns-in-0 : goal.returns-in-0
returns-in-0 c =
    let value : c.new.result ≡ choice_of_image c.args.image = search rules in
    let half = ap bytes16 (sym c.edition_of.ensures.value) ∙ c.edition_of.ensures.bytes in
    record { value = value; only = λ v e. only_choice_image c.args.image (search rules) half v (sym value ∙ e) }

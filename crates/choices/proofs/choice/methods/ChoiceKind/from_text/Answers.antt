-- A text that reads as a choice is that choice's.
use Rattle.std.proofs.Common.{◌≡◌, sym, ◌∙◌, arith}
use Rattle.std.proofs.lemmas.Grind.{common_steps}
use Rattle.choices.specs.ChoiceForms.{choice_of_text}
use Rattle.choices.proofs.ChoiceLaws.{only_choice_text}
use Rattle.choices.proofs.choice.methods.ChoiceKind.from_text.Goals as goal

pub returns-clause-only : goal.returns-clause-only
returns-clause-only c =
    let value : c.choose.result ≡ choice_of_text c.args.text.now = grind (arith, common_steps) in
    λ v e. only_choice_text c.args.text.now v (sym value ∙ e)
